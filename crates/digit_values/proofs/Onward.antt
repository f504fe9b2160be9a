-- Going on from a digit of an integer: the stop is that of its start, and the value that of both.
use Rattle.std.proofs.Common.{◌≡◌, ℕ, ◌+◌, ◌-◌, ◌*◌, ◌^◌, ◌<◌, ◌≤◌, List, ◌++◌, length, IsTrue, refl, sym, ◌∙◌, arith, take-add}
use Rattle.std.specs.Str.Parse.{digits_value}
use Rattle.std.proofs.lemmas.List.{drop-drop}
use Rattle.std.proofs.lemmas.List.Elements.{filter-append}
use Rattle.lexical_format.specs.Word.{is_supported}
use Rattle.lexical_digits.specs.declared.skip.rule.Rule.{Rule}
use Rattle.lexical_digits.specs.declared.skip.component.Component.TheVariants.{Integer}
use Rattle.lexical_digits.specs.State.{State, IsState, own, rule_of, start, with_cursor}
use Rattle.lexical_digits.specs.Stop.{stop, stop_of}
use Rattle.digit_values.specs.After.{digits_between, past_digits_to, ExceedsAt}
use Rattle.digit_values.proofs.ForCallers.{value_of_both, value_of_pieces, stop_within}
use Rattle.digit_values.proofs.Rest.{leaves_rest}

-- a state at a position of a text, from which the stop is that of an integer from its start on
pub record IsOn (given : ℕ) (text : List ℕ) (from at : ℕ) : Type 0 where
  pub state : State
  pub valid : IsState state
  pub buffer : state.buffer ≡ text
  pub word : state.word ≡ given
  pub cursor : state.cursor ≡ at
  pub stop : stop_of Integer state ≡ stop (rule_of given Integer) text from 0

-- at the start
abbrev begins : (word : ℕ) (text : List ℕ) (from : ℕ) → IsTrue (is_supported word)
    → length text < 2 ^ 63 → from ≤ length text → IsOn word text from from
begins word text from supported small within = record {
  state = with_cursor (start text word) from;
  valid = record {
    buffer = small;
    within = within;
    word = supported;
    integer = omega arith;
    fraction = omega arith;
    exponent = omega arith;
  };
  buffer = refl;
  word = refl;
  cursor = refl;
  stop = refl;
}

-- at a digit that is too large after those from a position on
pub goes_on : (word : ℕ) (text : List ℕ) (from at before most over : ℕ)
    → (on : IsOn word text from at)
    → ExceedsAt (rule_of word Integer) text at (own Integer on.state) before most over
    → IsOn word text from over
goes_on word text from at before most over on h =
    let s = on.state in
    let here : ExceedsAt (rule_of s.word Integer) s.buffer s.cursor (own Integer s) before most over
    = rw (on.word, on.buffer, on.cursor) h in
    let rest = leaves_rest Integer s before most over on.valid here in
    record {
      state = past_digits_to Integer s over;
      valid = grind (arith, on.valid, here, stop_within);
      buffer = on.buffer;
      word = on.word;
      cursor = refl;
      stop = rw rest.stop on.stop;
    }

-- at the first of them
pub first_on : (word : ℕ) (text : List ℕ) (from most over : ℕ) → IsTrue (is_supported word)
    → length text < 2 ^ 63 → from ≤ length text
    → ExceedsAt (rule_of word Integer) text from 0 0 most over → IsOn word text from over
first_on word text from most over supported small within h =
    goes_on word text from from 0 most over (begins word text from supported small within) h

module _ (rule : Rule) (text : List ℕ) (from at end : ℕ) (low : from ≤ at) (high : at ≤ end) where
  pub between_both : digits_between rule text from end
      ≡ digits_between rule text from at ++ digits_between rule text at end
  between_both =
      let parts : end - from ≡ (at - from) + (end - at) = omega arith in
      rw (parts, take-add) (grind (arith, drop-drop, filter-append))

  -- the value with a piece
  pub value_on : (value count piece : ℕ)
      → value ≡ digits_value rule.radix (digits_between rule text from at)
      → count ≡ length (digits_between rule text at end)
      → piece ≡ digits_value rule.radix (digits_between rule text at end)
      → value * rule.radix ^ count + piece
      ≡ digits_value rule.radix (digits_between rule text from end)
  value_on value count piece is counted piece_is =
      let before : List ℕ = digits_between rule text from at in
      let more : List ℕ = digits_between rule text at end in
      rw (between_both, is, counted, piece_is)
      (sym (value_of_pieces rule.radix (digits_value rule.radix before) more)
      ∙ value_of_both rule.radix before more)
