-- What the fields of a `Bytes` stand for, and what they have in common.
use Rattle.std.specs.Prelude.{◌≡◌, ℕ, ◌+◌, ◌<◌, Bool, true, ◌&&◌, Option, Some, List, slice_get}
use Rattle.lexical_format.specs.Word.{separator}
use Rattle.lexical_digits.specs.declared.skip.component.Component.{Component}
use Rattle.lexical_digits.specs.declared.skip.component.Component.TheVariants.{Integer, Fraction, Exponent, Special}
use Rattle.lexical_digits.specs.declared.skip.rule.Rule.{Rule}
use Rattle.lexical_digits.specs.declared.skip.decision.Run.{Run}
use Rattle.lexical_digits.specs.declared.skip.bytes.tally.Tally.{Tally}
use Rattle.lexical_digits.specs.declared.skip.rule.Shortcuts.{Shortcuts}
use Rattle.lexical_digits.specs.State.{State, IsState, rule_of, own, is_contiguous, counts}
use Rattle.lexical_digits.specs.Looks.{Held, Remembers, separator_at}
use Rattle.lexical_digits.specs.Fields.Tally.{state_of, looks_of}
use Rattle.lexical_digits.specs.Fields.Shortcuts.{is_direct_by, AreShortcuts, IsInner}

-- what is decoded of the word for the component that reads
pub record IsReading (word : ℕ) (reader : Component) (is_counting : Bool) (r : Rule)
    (s : Shortcuts) : Type 0 where
  pub counting : is_counting ≡ counts reader word
  pub rule : r ≡ rule_of word reader
  pub direct : AreShortcuts r s
  pub inner : s.inner_separator < 256 → IsInner r is_counting s.inner_separator

-- no component has a flag
abbrev pub has_no_flags : ℕ → Bool
has_no_flags word =
    is_contiguous Integer word && is_contiguous Fraction word
    && is_contiguous Exponent word && is_contiguous Special word

-- what a `Bytes` of these fields holds
abbrev pub held_of : (buffer : List ℕ) (word : ℕ) (t : Tally) (run : Option Run)
    → IsState (state_of buffer word t) → Remembers (separator word) buffer run → Held
held_of buffer word t run holds remembers = record {
  state = state_of buffer word t;
  run = run;
  looks = looks_of t;
  holds = holds;
  remembers = remembers;
}

-- a separator that is dropped before a digit, since a digit was counted before it
pub record IsInnerAt (t : Tally) (s : Shortcuts) (byte : ℕ) : Type 0 where
  pub inner : s.inner_separator ≡ byte
  pub since : t.counted_from < t.index

-- and the digit after it
pub record IsInnerDigit (buffer : List ℕ) (t : Tally) (s : Shortcuts)
    (byte digit : ℕ) : Type 0 where
  pub here : IsInnerAt t s byte
  pub next : slice_get buffer (t.index + 1) ≡ Some digit
  pub fits : digit < 256
  pub direct : is_direct_by s digit ≡ true

-- a separator is at the cursor, and a digit was counted before it
pub record FollowsDigit (k : Component) (s : State) : Type 0 where
  pub here : separator_at (separator s.word) s.buffer s.cursor ≡ true
  pub counted : 0 < own k s
