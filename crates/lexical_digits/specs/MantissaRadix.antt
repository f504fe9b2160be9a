-- The rules in which every component has the mantissa radix, for the law `equal_radixes`.
use Rattle.std.specs.Prelude.{ℕ, ◌%◌, ◌^◌, Bool}
use Rattle.lexical_format.specs.Word.{separator, mantissa_radix, serves}
use Rattle.lexical_digits.specs.declared.skip.rule.Rule.{Rule}
use Rattle.lexical_digits.specs.declared.skip.component.Component.{Component}
use Rattle.lexical_digits.specs.declared.skip.component.Component.TheVariants.{Integer, Fraction, Exponent, Special}
use Rattle.lexical_digits.specs.State.{State, rule_at, special_rule}
use Rattle.lexical_digits.specs.CallTable.{Ran}

abbrev pub mantissa_rule_of : ℕ → Component → Rule
mantissa_rule_of word Integer = rule_at word (mantissa_radix word) 32
mantissa_rule_of word Fraction = rule_at word (mantissa_radix word) 33
mantissa_rule_of word Exponent = rule_at word (mantissa_radix word) 34
mantissa_rule_of word Special = special_rule word (mantissa_radix word)

-- the test of a word
abbrev pub mantissa_is_supported : ℕ → Bool
mantissa_is_supported word = serves (mantissa_radix word) (separator word)

-- the word without an exponent radix of its own: the exponent then has the mantissa radix
unfoldable pub with_one_radix : ℕ → ℕ
with_one_radix word = word % 2 ^ 120

-- a state with another word
abbrev pub with_word : State → ℕ → State
with_word s word = record s { word = word }

-- what a list of calls answers and leaves, with another word in the state
abbrev pub ran_with : Ran → ℕ → Ran
ran_with ran word = record ran { state = with_word ran.state word }
