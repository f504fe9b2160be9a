-- Direct bytes: those that a component takes whatever is around them.
use Rattle.std.specs.Prelude.{◌≡◌, nat_lt, ℕ, Bool, true, false, not, ◌||◌, unwrap_or}
use Rattle.lexical_format.specs.Digits.{digit_value}
use Rattle.lexical_digits.specs.declared.skip.rule.Rule.{Rule}
use Rattle.lexical_digits.specs.declared.skip.rule.Shortcuts.{Shortcuts}
use Rattle.lexical_digits.specs.Separators.{is_digit, is_separator, has_flags}

-- whether a byte is direct: a digit is, and every byte where there are no flags
abbrev pub is_direct : Rule → ℕ → Bool
is_direct rule byte = not (has_flags rule) || is_digit rule byte

-- below which value a byte is direct: any value, or that of a digit
pub record AreShortcuts (rule : Rule) (s : Shortcuts) : Type 0 where
  pub all : has_flags rule ≡ false → s.direct_below ≡ 255
  pub digits : has_flags rule ≡ true → s.direct_below ≡ rule.radix

-- whether the shortcuts have a byte among them
abbrev pub is_direct_by : Shortcuts → ℕ → Bool
is_direct_by s byte = nat_lt (unwrap_or (digit_value byte) 36) s.direct_below

-- the separator of a rule that drops it between two digits
pub record IsInner (rule : Rule) (is_counting : Bool) (inner : ℕ) : Type 0 where
  pub separates : is_separator rule.separator inner ≡ true
  pub internal : rule.internal ≡ true
  pub counting : is_counting ≡ true
