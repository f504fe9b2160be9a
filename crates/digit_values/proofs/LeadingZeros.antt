-- Bytes `0` that lead from a start on, read off the slice, with separators at most between one of
-- them and a digit.
use Rattle.std.proofs.Common.{◌≡◌, ℕ, ◌+◌, ◌-◌, ◌<◌, ◌≤◌, true, false, eqb, List, map, get_or, length, arith}
use Rattle.std.specs.Prelude.{slice_index, filter}
use Rattle.std.specs.List.{range_with_len, prefix_len}
use Rattle.std.proofs.lemmas.Bool.Decides.{nat_tests}
use Rattle.std.proofs.lemmas.Bool.{cases_lt}
use Rattle.std.proofs.lemmas.Option.{gets}
use Rattle.lexical_format.specs.Digits as words
use Rattle.lexical_digits.specs.declared.skip.rule.Rule.{Rule}
use Rattle.lexical_digits.specs.Separators.{is_digit, is_separator, is_kept, kept_positions, zeros, past_zeros, drain, IsSupported}
use Rattle.lexical_digits.specs.Laws.Ranges.{range_first, range_none}
use Rattle.lexical_digits.proofs.Rule.Runs.{along}
use Rattle.lexical_digits.proofs.Looks.WhereSeparatorsStand.{separators}
use Rattle.digit_values.specs.After.{digits_between}
use Rattle.digit_values.specs.Reads.{AreZeros}
use Rattle.digit_values.proofs.Between.{none_between, one_more}
use Rattle.digit_values.proofs.Passed.{HasPassed, byte_kept, passed}

pub zero_is_digit : (rule : Rule) → IsSupported rule → is_digit rule 48 ≡ true
unfolding is_digit words.digit_value
zero_is_digit rule supported = grind (arith, nat_tests, supported.low)

ruleset ranges = (nat_tests, byte_kept, range_first, range_none)

module _ (rule : Rule) (text : List ℕ) (start : ℕ) where
  -- of the bytes up to a position the digits are zeros
  abbrev pub AllZeros : ℕ → Type 0
  AllZeros at = (q : ℕ) → start ≤ q → q < at → is_digit rule (slice_index text q) ≡ true
      → slice_index text q ≡ 48

  module _ (at : ℕ) (so : HasPassed rule text start at) (all : AllZeros at) (l : at ≤ length text)
    where
      -- the zeros before a position and those that lead from there on, and where these end
      abbrev zeros_by : ℕ → ℕ → ℕ × ℕ
      zeros_by own q =
          let rest = filter (is_kept rule text start own) (range_with_len q (length text - q)) in
          let leading = prefix_len (λ byte. eqb byte 48) (map (slice_index text) rest) in
          (length (digits_between rule text start q) + leading, get_or rest leading (length text))

      same_zeros : (own : ℕ) → zeros_by own start ≡ zeros_by own at
      same_zeros own = along (zeros_by own) (at - start) start at (omega (arith, so.below))
          (λ q low high. grind (arith, ranges, so, one_more))

      pub ends : (at < length text → (slice_index text at ≡ 48 → ⊥)
          × (is_separator rule.separator (slice_index text at) ≡ false)) → AreZeros rule text start
          (record { count = length (digits_between rule text start at); end = at })
      unfolding zeros past_zeros drain kept_positions
      ends other = record {
        is = λ own. grind (arith, ranges, same_zeros own, none_between);
        past = λ own. grind (arith, ranges, same_zeros own);
        other = grind (arith, cases_lt at (length text), other, gets, separators);
        below = so.below;
        within = l;
        dense = so.dense;
      }

pub ruleset passing = (passed, zero_is_digit, ends)
