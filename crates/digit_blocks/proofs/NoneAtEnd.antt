-- No number is where a text ends, and the error says so.
use Rattle.std.proofs.Common.{◌≡◌, ℕ, Bool, true, false, List, refl, ap}
use Rattle.std.specs.Prelude.{ℤ, ◌==◌, Result, Err, Option, Some, None}
use Rattle.std.proofs.lemmas.Bool.{eq-eqb}
use Rattle.digit_amounts.specs.declared.scaled.ScaledError.{ScaledError}
use Rattle.digit_amounts.specs.Scaled.{read_scaled_at}
use Rattle.digit_amounts.specs.declared.prices.PriceError.{PriceError}
use Rattle.digit_amounts.specs.declared.prices.PriceError.TheVariants.{Number}
use Rattle.digit_amounts.specs.Prices.{if_exact, if_grouped, of_number, price_by}

-- a position is itself
pub is_itself : (n : ℕ) → (n == n) ≡ true
is_itself n = eq-eqb n n refl

-- a price that is no number
exact_none : (is : Bool) (read : Result (ℤ × ℕ) PriceError) (error : PriceError)
    → read ≡ Err error → if_exact is read ≡ Err error
exact_none is read error none = rw none refl

grouped_none : (wrong : Option ℕ) (read : Result (ℤ × ℕ) PriceError) (error : PriceError)
    → read ≡ Err error → if_grouped wrong read ≡ Err error
grouped_none None read error none = none
grouped_none (Some at) read error none = rw none refl

module _ (word : ℕ) (text : List ℕ) (point places least most start : ℕ) (error : ScaledError)
    (none : read_scaled_at word text point places least most start ≡ Err error) where
  any_none : of_number (read_scaled_at word text point places least most start)
      ≡ Err (Number error)
  any_none = ap of_number none

  pub price_none : (is_exact is_grouped : Bool)
      → price_by is_exact is_grouped word text point places least most start ≡ Err (Number error)
  price_none true true = exact_none _ _ (Number error) (grouped_none _ _ (Number error) any_none)
  price_none true false = exact_none _ _ (Number error) any_none
  price_none false true = grouped_none _ _ (Number error) any_none
  price_none false false = any_none
