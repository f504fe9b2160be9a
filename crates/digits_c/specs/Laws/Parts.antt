-- Numbers by a form in their parts: the laws of a kind, by those of the numbers.
use Rattle.std.proofs.Common.{◌≡◌, ℕ, ◌+◌, ◌≤◌, List, length, drop, refl, ap}
use Rattle.std.specs.Prelude.{Result, Ok, Err}
use Rattle.std.specs.Float.{Float, binary64}
use Rattle.digit_languages.specs.Follows.{AreSameBefore}
use Rattle.digit_numbers.specs.Follows.{is_number_byte}
use Rattle.digit_pieces.specs.Laws.OfForm.{number_ends, number_follows, number_precedes}
use Rattle.digit_pieces.specs.Moves.{IsFresh, number_later, outcome_later}
use Rattle.digits.specs.Words.{Form, Number, NumberError, number_of_at}
use Rattle.digits_c.specs.declared.numbers.NumberParts.{NumberParts}
use Rattle.digits_c.specs.Numbers.{in_parts, parts_at}

-- where a number ends that was read
abbrev end_of : Result (NumberParts × ℕ) NumberError → ℕ
end_of (Ok (number, end)) = end
end_of (Err error) = 0

module _ (form : Form) where
  pub follows : (one other : List ℕ) (at start : ℕ)
      → AreSameBefore (is_number_byte form) one other at → start ≤ at
      → parts_at form one start ≡ parts_at form other start
  unfolding parts_at
  follows one other at start upto from =
      ap in_parts (number_follows form one other at start binary64 upto from)

  -- parts of a number that ends later
  later : (by : ℕ) (read : Result (Number Float × ℕ) NumberError)
      → in_parts (outcome_later number_later by read)
      ≡ outcome_later number_later by (in_parts read)
  later by (Ok (number, end)) = refl
  later by (Err error) = refl

  pub precedes : (text : List ℕ) (from at : ℕ) → from + at ≤ length text
      → IsFresh (is_number_byte form) text from
      → parts_at form text (from + at)
      ≡ outcome_later number_later from (parts_at form (drop from text) at)
  unfolding parts_at
  precedes text from at within fresh =
      rw (number_precedes form text from at binary64 within fresh)
      (later from (number_of_at form (drop from text) at binary64))

  pub ends : (text : List ℕ) (start end : ℕ) (x : NumberParts) → start ≤ length text
      → parts_at form text start ≡ Ok (x, end) → end ≤ length text
  unfolding parts_at
  ends text start end x within is =
      by (number_of_at form text start binary64) refl is
    where
      by : (read : Result (Number Float × ℕ) NumberError)
          → number_of_at form text start binary64 ≡ read → in_parts read ≡ Ok (x, end)
          → end ≤ length text
      by (Ok (number, e)) read same =
          let here : e ≡ end = ap end_of same in
          rw (← here) (number_ends form text start binary64 number e read)
      by (Err error) read same = absurd (cc)
