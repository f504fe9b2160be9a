-- Bytes that are all digits.
use Rattle.std.specs.Prelude.{◌≡◌, ℕ, ◌≤◌, ◌<◌, true, List, slice_index}
use Rattle.lexical_digits.specs.declared.skip.rule.Rule.{Rule}
use Rattle.lexical_digits.specs.Separators.{is_digit}

-- those between two positions are digits of a rule
abbrev pub AreDigits : Rule → List ℕ → ℕ → ℕ → Type 0
AreDigits rule text start end =
    (q : ℕ) → start ≤ q → q < end → is_digit rule (slice_index text q) ≡ true
