-- Bytes that are passed from a start on: digits, with separators at most between two of them.
use Rattle.std.proofs.Common.{◌≡◌, ℕ, ◌+◌, ◌*◌, ◌/◌, ◌%◌, ◌^◌, ◌<◌, ◌≤◌, true, false, List, length, refl, ap, ◌∙◌, arith}
use Rattle.std.specs.Prelude.{slice_index}
use Rattle.std.proofs.lemmas.Option.{gets}
use Rattle.std.proofs.lemmas.List.{drop_more}
use Rattle.std.proofs.lemmas.List.Sums.{length-filter}
use Rattle.std.proofs.lemmas.Bool.Decides.{nat_tests}
use Rattle.lexical_format.specs.Digits.{is_digit_of_radix}
use Rattle.lexical_digits.specs.declared.skip.rule.Rule.{Rule}
use Rattle.lexical_digits.specs.Separators.{is_digit, is_separator, is_kept, is_dropped, neighbour, holds_separator, digits_seen, IsSupported}
use Rattle.lexical_digits.proofs.Rule.Runs.{separator_no_digit}
use Rattle.lexical_digits.proofs.Looks.WhereSeparatorsStand.{separators}
use Rattle.lexical_digits.proofs.Calls.FirstOther.{stop_is_first}
use Rattle.digit_values.specs.After.{digits_between}
use Rattle.digit_values.proofs.Between.{none_between, one_more, no_more}
use Rattle.digit_values.proofs.ForCallers.{value_more}

module _ (rule : Rule) (text : List ℕ) (start : ℕ) where
  abbrev upto : ℕ → List ℕ
  upto at = digits_between rule text start at

  -- a digit is kept, and what is no separator
  pub byte_kept : (own q : ℕ) → q < length text
      → (is_separator rule.separator (slice_index text q) ≡ true
      → is_digit rule (slice_index text q) ≡ true) → is_kept rule text start own q ≡ true
  unfolding is_kept is_dropped holds_separator
  byte_kept own q l apart = grind (arith, gets)

  -- a lone separator between two digits is not
  pub lone_dropped : IsSupported rule → (own q : ℕ) → q + 1 < length text → 0 < length (upto q)
      → is_separator rule.separator (slice_index text q) ≡ true → rule.internal ≡ true
      → is_digit rule (slice_index text (q + 1)) ≡ true → is_kept rule text start own q ≡ false
  unfolding is_kept is_dropped digits_seen holds_separator neighbour
  lone_dropped supported own q l some separates internal digit =
      let next = drop_more text (q + 1) 0 l in
      let no_digit = separator_no_digit rule text supported in
      grind (arith, nat_tests, gets, length-filter (is_digit rule))

  -- The bytes from the start up to a position are digits, and no more separators. Of them the
  -- digits are kept, whatever was counted before.
  pub record HasPassed (at : ℕ) : Type 0 where
    pub below : start + length (upto at) ≤ at
    pub dense : at ≤ start + 2 * length (upto at)
    pub fewer : start < at → is_digit rule (slice_index text at) ≡ false
        → at < start + 2 * length (upto at)
    pub kept : (own q : ℕ) → start ≤ q → q < at
        → is_kept rule text start own q ≡ is_digit rule (slice_index text q)

-- a rule's digits are those of its radix
pub by_radix : (rule : Rule) (byte : ℕ) → is_digit rule byte ≡ is_digit_of_radix rule.radix byte
unfolding is_digit
by_radix rule byte = refl

-- the lowest 64 bits of a value with one more digit
pub wrapped_more : (value all radix digit : ℕ) → value ≡ all % 2 ^ 64
    → (value * radix + digit) % 2 ^ 64 ≡ (all * radix + digit) % 2 ^ 64
wrapped_more value all radix digit e =
    let parts : all ≡ all / 2 ^ 64 * 2 ^ 64 + value = omega arith in
    let more : all * radix ≡ all / 2 ^ 64 * radix * 2 ^ 64 + value * radix =
    ap (λ (n : ℕ). n * radix) parts ∙ grind arith in
    omega arith

-- what one more byte needs
pub ruleset passed =
    (none_between, one_more, nat_tests, byte_kept, lone_dropped, separator_no_digit)

pub ruleset reading =
    (passed, no_more, value_more, wrapped_more, stop_is_first, by_radix, separators)
