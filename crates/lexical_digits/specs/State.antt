-- The state of a `Bytes`, and the rule and count of each component.
use Rattle.std.specs.Prelude.{ℕ, ◌+◌, ◌-◌, ◌^◌, ◌<◌, ◌≤◌, min, Bool, true, false, not, ◌&&◌, if◌then◌else◌, ◌==◌, List, length, take, IsTrue}
use Rattle.lexical_format.specs.Word.{separator, mantissa_radix, exponent_radix, bit, is_supported}
use Rattle.lexical_digits.specs.declared.skip.rule.Rule.{Rule}
use Rattle.lexical_digits.specs.declared.skip.component.Component.{Component}
use Rattle.lexical_digits.specs.declared.skip.component.Component.TheVariants.{Integer, Fraction, Exponent, Special}
use Rattle.lexical_digits.specs.Separators.{is_digit, has_flags}

pub record State : Type 0 where
  pub buffer : List ℕ
  pub word : ℕ
  pub cursor : ℕ
  pub integer : ℕ
  pub fraction : ℕ
  pub exponent : ℕ

-- the buffer is a slice, the cursor is within it, the word is supported, and each count fits
pub record IsState (s : State) : Type 0 where
  pub buffer : length s.buffer < 2 ^ 63
  pub within : s.cursor ≤ length s.buffer
  pub word : IsTrue (is_supported s.word)
  pub integer : s.integer < 2 ^ 64
  pub fraction : s.fraction < 2 ^ 64
  pub exponent : s.exponent < 2 ^ 64

-- the state of a new `Bytes`
abbrev pub start : List ℕ → ℕ → State
start buffer word = record {
  buffer = buffer;
  word = word;
  cursor = 0;
  integer = 0;
  fraction = 0;
  exponent = 0;
}

-- the same state with another cursor
abbrev pub with_cursor : State → ℕ → State
with_cursor s i = record s { cursor = i }

-- every count at 0
abbrev pub with_no_counts : State → State
with_no_counts s = record s { integer = 0; fraction = 0; exponent = 0 }

-- ---- what a component grants

-- the radix of a component's digits
abbrev pub radix_of : ℕ → Component → ℕ
radix_of word Integer = mantissa_radix word
radix_of word Fraction = mantissa_radix word
radix_of word Exponent = exponent_radix word
radix_of word Special = mantissa_radix word

-- a rule with four flags: the internal one is bit `at`, the others 3, 6 and 9 bits above it
abbrev pub rule_at : ℕ → ℕ → ℕ → Rule
rule_at word radix at = record {
  separator = separator word;
  radix = radix;
  internal = bit word at;
  leading = bit word (at + 3);
  trailing = bit word (at + 6);
  consecutive = bit word (at + 9);
}

-- a rule with one flag, which grants everything
abbrev pub special_rule : ℕ → ℕ → Rule
special_rule word radix = record {
  separator = separator word;
  radix = radix;
  internal = bit word 44;
  leading = bit word 44;
  trailing = bit word 44;
  consecutive = bit word 44;
}

-- the rule of a component by a word
abbrev pub rule_of : ℕ → Component → Rule
rule_of word Integer = rule_at word (radix_of word Integer) 32
rule_of word Fraction = rule_at word (radix_of word Fraction) 33
rule_of word Exponent = rule_at word (radix_of word Exponent) 34
rule_of word Special = special_rule word (radix_of word Special)

-- the rule of a component in a state
abbrev pub rule : Component → State → Rule
rule k s = rule_of s.word k

-- ---- counts

-- the component's own count: digits were seen if it is above zero
abbrev pub own : Component → State → ℕ
own Integer s = s.integer
own Fraction s = s.fraction
own Exponent s = s.exponent
own Special s = s.integer

-- the state with another own count; special has none
abbrev pub with_own : Component → State → ℕ → State
with_own Integer s n = record s { integer = n }
with_own Fraction s n = record s { fraction = n }
with_own Exponent s n = record s { exponent = n }
with_own Special s n = s

-- whether a component is special
abbrev pub is_special : Component → Bool
is_special Integer = false
is_special Fraction = false
is_special Exponent = false
is_special Special = true

-- no byte is a separator
abbrev pub has_no_separator : ℕ → Bool
has_no_separator word = separator word == 0

-- the component has no flags, so it drops nothing
abbrev pub is_contiguous : Component → ℕ → Bool
is_contiguous k word = not (has_flags (rule_of word k))

-- whether `next` counts the digits that it takes
abbrev pub counts : Component → ℕ → Bool
counts k word = not (is_special k) && has_flags (rule_of word k)

-- a sum that stops at `u64::MAX`
abbrev pub saturating : ℕ → ℕ → ℕ
saturating m n = min (m + n) (2 ^ 64 - 1)

-- a count with one digit more, stopping at its greatest number
abbrev pub one_more : ℕ → ℕ
one_more count = saturating count 1

-- the count after `next` takes a byte
abbrev pub count_after : Rule → Bool → ℕ → ℕ → ℕ
count_after rule counting byte count =
    if counting && is_digit rule byte
    then one_more count
    else count

-- what `current_count` answers on a `Bytes`, and on the iterator of a component
abbrev pub count_of_all : State → ℕ
count_of_all s =
    if has_no_separator s.word
    then s.cursor
    else saturating (saturating s.integer s.fraction) s.exponent

-- what `current_count` of a component answers
abbrev pub current_count : Component → State → ℕ
current_count k s = if is_contiguous k s.word then count_of_all s else own k s

-- ---- views

-- where the next n bytes end
abbrev pub cut_end : State → ℕ → ℕ
cut_end s n = min (length s.buffer) (s.cursor + n)

-- the buffer cut at an end, with the same word and cursor, and no counts
abbrev pub cut : State → ℕ → State
cut s end = record {
  buffer = take end s.buffer;
  word = s.word;
  cursor = s.cursor;
  integer = 0;
  fraction = 0;
  exponent = 0;
}
