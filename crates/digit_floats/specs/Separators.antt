-- Texts without separators.
use Rattle.std.specs.Prelude.{◌≡◌, ℕ, false, List}
use Rattle.lexical_digits.specs.declared.skip.component.Component.{Component}
use Rattle.lexical_digits.specs.Separators.{holds_separator}
use Rattle.lexical_digits.specs.State.{rule_of}

-- no position of the text holds the word's separator
abbrev pub HasNoSeparator : ℕ → List ℕ → Type 0
HasNoSeparator word text = (k : Component) (q : ℕ) → holds_separator (rule_of word k) text q ≡ false
