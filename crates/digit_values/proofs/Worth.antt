-- The digit at a place, and the value of none.
use Rattle.std.proofs.Common.{◌≡◌, ℕ, ◌≤◌, true, false, List, [], slice_get, slice_index, Option, Some, None, option_and_then, arith}
use Rattle.std.specs.Prelude.{IfSome}
use Rattle.std.proofs.lemmas.Option.{gets}
use Rattle.lexical_format.specs.Digits.{digit_of_radix, is_digit_of_radix}
use Rattle.lexical_digits.specs.Cursor.{holds_of}
use Rattle.digit_values.specs.Reads.{IsWorth}

pub record IsDigitAt (radix : ℕ) (xs : List ℕ) (i d : ℕ) : Type 0 where
  pub is : holds_of (is_digit_of_radix radix) (slice_get xs i) ≡ true
  pub value : digit_of_radix radix (slice_index xs i) ≡ Some d

pub digit_at : (radix : ℕ) (xs : List ℕ) (i d : ℕ)
    → option_and_then (digit_of_radix radix) (slice_get xs i) ≡ Some d → IsDigitAt radix xs i d
digit_at radix xs i d e = grind (arith, gets)

pub none_at : (radix : ℕ) (o : Option ℕ) → option_and_then (digit_of_radix radix) o ≡ None
    → holds_of (is_digit_of_radix radix) o ≡ false
none_at radix o e = grind arith

pub worth_none : (radix before : ℕ) (most : Option ℕ) → IfSome most (λ greatest. before ≤ greatest)
    → IfSome most (IsWorth radix before [] before)
worth_none radix before most fits = grind arith
