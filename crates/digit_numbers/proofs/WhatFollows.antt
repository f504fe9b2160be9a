-- What follows a number by a form makes no difference to it.
use Rattle.std.proofs.Common.{◌≡◌, ℕ, ◌+◌, ◌<◌, ◌≤◌, false, List, length, take, refl, ◌∙◌, arith}
use Rattle.std.specs.Prelude.{◌↔◌, Ok, Err}
use Rattle.std.specs.Float.{Float, Format}
use Rattle.std.proofs.lemmas.Bool.Decides.{nat_tests}
use Rattle.std.proofs.lemmas.List.{length-take-le}
use Rattle.lexical_digits.specs.Moves.{outcome_later}
use Rattle.lexical_digits.proofs.Calls.BothSides.{zero_later}
use Rattle.digit_floats.specs.Bytes.{stands}
use Rattle.digit_languages.specs.Follows.{AreSameBefore}
use Rattle.digit_languages.proofs.Before.{from_before, same_as_cut, same_through}
use Rattle.digit_numbers.specs.declared.form.Form.{Form}
use Rattle.digit_numbers.specs.declared.number.Number.{Number}
use Rattle.digit_numbers.specs.declared.number.NumberError.TheVariants.{Empty, Overflow, Invalid}
use Rattle.digit_numbers.specs.Follows.{is_number_byte}
use Rattle.digit_numbers.specs.Moves.{number_later}
use Rattle.digit_numbers.specs.Numbers.{Outcome, number_of_at, to_end}
use Rattle.digit_numbers.proofs.BothSides.{cut_outcome}

-- an outcome with positions later by 0
outcome_here : (read : Outcome) → outcome_later number_later 0 read ≡ read
outcome_here (Ok (n, end)) = rw (← zero_later end) refl
outcome_here (Err (Empty at)) = rw (← zero_later at) refl
outcome_here (Err (Overflow at)) = rw (← zero_later at) refl
outcome_here (Err (Invalid at)) = rw (← zero_later at) refl

pub outcome_same : (f : Form) (one other : List ℕ) (at : ℕ)
    → AreSameBefore (is_number_byte f) one other at → (start : ℕ) → start ≤ at → (format : Format)
    → number_of_at f one start format ≡ number_of_at f other start format
outcome_same f one other at upto start low format =
    cut_outcome f one 0 other at (from_before (is_number_byte f) one other at upto)
    (omega (arith, upto.one_within)) upto.other_within start start (zero_later start) low format
    ∙ outcome_here (number_of_at f other start format)

-- ---- a text cut before a byte that no number has

module _ (f : Form) (text : List ℕ) (at start : ℕ) (format : Format) (within : at ≤ length text)
    (ends : stands (is_number_byte f) text at ≡ false) (from : start ≤ at) where
  pub cut_same : number_of_at f (take at text) start format ≡ number_of_at f text start format
  cut_same =
      outcome_same f (take at text) text at (same_as_cut (is_number_byte f) text at within ends)
      start from format

  to_end_is : (cut : List ℕ) → length cut ≡ at → (n : Number Float) (read : Outcome)
      → (to_end cut read ≡ Ok n) ↔ (read ≡ Ok (n, at))
  to_end_is cut e n (Ok (m, end)) =
      (λ h. grind (arith, nat_tests, e), λ h. grind (arith, nat_tests, e))
  to_end_is cut e n (Err error) = (λ h. cc, λ h. cc)

  pub whole_is : (n : Number Float)
      → (to_end (take at text) (number_of_at f (take at text) start format) ≡ Ok n)
      ↔ (number_of_at f text start format ≡ Ok (n, at))
  whole_is n =
      rw cut_same
      (to_end_is (take at text) (length-take-le at text within) n
      (number_of_at f text start format))

-- two texts with one byte that no number has
pub through_same : (f : Form) (one other : List ℕ) (at start : ℕ) (format : Format)
    → at < length one → at < length other → take (at + 1) one ≡ take (at + 1) other
    → stands (is_number_byte f) one at ≡ false → start ≤ at
    → number_of_at f one start format ≡ number_of_at f other start format
through_same f one other at start format within too same ends from =
    outcome_same f one other at
    (same_through (is_number_byte f) one other at within too same ends) start from format
