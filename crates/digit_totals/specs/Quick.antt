-- Lines that are only numbers.
use Rattle.std.specs.Prelude.{◌≡◌, ℕ, ℤ, ◌-◌, ◌^◌, ◌<◌, ◌≤◌, List, length, Some, Ok}
use Rattle.lexical_digits.specs.declared.skip.rule.Rule.{Rule}
use Rattle.lexical_digits.specs.declared.skip.rule.Class.TheVariants.{Other}
use Rattle.lexical_digits.specs.Separators.{class}
use Rattle.digit_integers.specs.Numbers.{number_at}
use Rattle.digit_literals.specs.declared.list.TheConstants.{LINES}
use Rattle.digit_literals.specs.Ends.{AreOthers}
use Rattle.digit_literals.specs.Lists.{past_blanks, next_after}
use Rattle.digit_totals.specs.declared.many.Line.{Line}
use Rattle.digit_totals.specs.declared.options.Kind.{Kind}
use Rattle.digit_totals.specs.declared.options.Options.{Options}
use Rattle.digit_totals.specs.Lines.{IsFirstLine}
use Rattle.digit_totals.specs.Value.{number_in, value_of}

-- no byte before `+` is a digit or the separator
abbrev pub HasNoLowByte : Rule → Type 0
HasNoLowByte rule = (byte : ℕ) → byte < 43 → class rule (Some byte) ≡ Other

-- the first line of a text is a number of a kind
abbrev pub BeginsWith : ℕ → Kind → List ℕ → ℤ → List ℕ → Type 0
BeginsWith word kind text value rest =
    (line : List ℕ) × (number_in word line kind ≡ Ok value) × IsFirstLine text line rest
    × (length line < length text)

-- the first line of a text has a number
abbrev pub FirstIs : Options → List ℕ → ℤ → List ℕ → Type 0
FirstIs options text value rest =
    (line : List ℕ) × (value_of options line ≡ Ok value) × IsFirstLine text line rest
    × (length line < length text)

-- ---- a line by its end

-- The line that begins at a position is this number of 64 bits, whatever decimal digits are parted
-- by, if that is no low byte.
pub record IsLineAt (text : List ℕ) (at : ℕ) (line : Line) : Type 0 where
  pub number : (rule : Rule) → rule.radix ≡ 10 → HasNoLowByte rule
      → number_at (2 ^ 63) (2 ^ 63 - 1) rule text (past_blanks LINES text at)
      ≡ Ok (line.value, line.end)
  pub some : past_blanks LINES text at < line.end
  pub next : next_after LINES text line.end ≡ Ok line.next
  pub within : line.next ≤ length text
  pub others : AreOthers text line.next line.others
