-- A number without an exponent.
use Rattle.std.proofs.Common.{◌≡◌, ℕ, zero, suc, ◌+◌, ◌*◌, ◌^◌, ◌<◌, Bool, true, false, List, [], ◌++◌, length, refl, arith}
use Rattle.std.specs.Prelude.{nat_lt, if◌then◌else◌}
use Rattle.std.specs.Float.{Format}
use Rattle.std.specs.Float.Ieee.{round}
use Rattle.std.specs.Float.Numeral.{Parts, nearest_float}
use Rattle.std.specs.Str.Parse.{digits_value}
use Rattle.std.proofs.lemmas.Bool.Decides.{nat_tests}
use Rattle.std.proofs.lemmas.List.{nil_from_length}
use Rattle.digit_floats.specs.Bytes.{stands, is_point}
use Rattle.digit_floats.specs.Float.{fraction_digits}

-- the exponent 0 changes nothing
pub nearest_alone : (f : Format) (negative : Bool) (p : Parts) → digits_value 10 p.exponent ≡ 0
    → nearest_float f negative p
    ≡ round f negative (digits_value 10 (p.whole ++ p.fraction)) (10 ^ length p.fraction)
nearest_alone f negative p none = by p.exponent_negative
  where
    by : (b : Bool)
        → round f negative
        (digits_value 10 (p.whole ++ p.fraction)
        * 10 ^ (if b then 0 else digits_value 10 p.exponent))
        (10 ^ (length p.fraction + (if b then digits_value 10 p.exponent else 0)))
        ≡ round f negative (digits_value 10 (p.whole ++ p.fraction)) (10 ^ length p.fraction)
    by true = rw none (grind arith)
    by false = rw none (grind arith)

-- of the exponent 0 the sign says nothing
pub same_sign : (f : Format) (negative : Bool) (digits places n : ℕ) (a b : Bool)
    → (0 < n → a ≡ b)
    → round f negative (digits * 10 ^ (if a then 0 else n)) (10 ^ (places + (if a then n else 0)))
    ≡ round f negative (digits * 10 ^ (if b then 0 else n)) (10 ^ (places + (if b then n else 0)))
same_sign f negative digits places zero true true h = refl
same_sign f negative digits places zero true false h = refl
same_sign f negative digits places zero false true h = refl
same_sign f negative digits places zero false false h = refl
same_sign f negative digits places (suc n) a b h = rw (h (omega arith)) refl

pub no_length : (ds : List ℕ) → length ds ≡ 0 → digits_value 10 ds ≡ 0
no_length ds h = rw (nil_from_length ds h) refl

-- an exponent without digits says 0
pub no_exponent : (ds : List ℕ) → nat_lt 0 (length ds) ≡ false → digits_value 10 ds ≡ 0
no_exponent ds h = no_length ds (grind (arith, nat_tests))

-- no fraction follows a byte that is no point
pub no_fraction : (word : ℕ) (text : List ℕ) (point at : ℕ)
    → stands (is_point point) text at ≡ false → fraction_digits word text point at ≡ []
unfolding fraction_digits
no_fraction word text point at h = rw h refl

pub ruleset alone = (nearest_alone, no_exponent)

pub ruleset whole = (nil_from_length, no_fraction)
