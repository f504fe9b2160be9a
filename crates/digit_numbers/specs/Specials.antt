-- The special value at a position of a text: the longest name of a form that is there.
use Rattle.std.specs.Prelude.{ℕ, Bool, not, ◌&&◌, ◌==◌, if◌then◌else◌, nat_lt}
use Rattle.std.specs.Prelude.{List, [], ◌∷◌, length, filter, take_while, slice_index_or, Option}
use Rattle.std.specs.Prelude.{None, Some}
use Rattle.std.specs.Char.{eq_ignore_ascii_case}
use Rattle.std.specs.List.{starts_with}
use Rattle.std.specs.Float.{Float, inf, nan}
use Rattle.lexical_digits.specs.declared.skip.component.Component.TheVariants as components
use Rattle.lexical_digits.specs.Separators.{drain, kept_positions}
use Rattle.lexical_digits.specs.State.{rule_of}
use Rattle.digit_numbers.specs.declared.form.Form.{Form}
use Rattle.digit_numbers.specs.declared.form.Special.{Special}
use Rattle.digit_numbers.specs.declared.form.Specials.{Specials}
use Rattle.digit_numbers.specs.declared.form.SpecialValue.{SpecialValue}
use Rattle.digit_numbers.specs.declared.form.SpecialValue.TheVariants.{Infinity, NegativeInfinity, NotANumber}
use Rattle.digit_numbers.specs.Forms.{takes_sign}

-- ---- what a form says

abbrev pub names_of : Option Specials → List Special
names_of None = []
names_of (Some specials) = specials.names

-- whether two bytes are the same in a name
abbrev pub same_by : Option Specials → ℕ → ℕ → Bool
same_by None a b = a == b
same_by (Some specials) a b = if specials.any_case then eq_ignore_ascii_case a b else a == b

-- the bytes of a name: those before the first 0
abbrev pub bytes_of : List ℕ → List ℕ
bytes_of name = take_while (λ byte. not (byte == 0)) name

-- the float that a name stands for, by whether a minus is before it
abbrev pub special_float : SpecialValue → Bool → Float
special_float Infinity negative = inf negative
special_float NegativeInfinity negative = inf (not negative)
special_float NotANumber negative = nan

-- ---- of some names, each with its end: the one that ends last, and of several the first

abbrev pub later : (Special → ℕ) → Special → Option Special → Special
later end s None = s
later end s (Some other) = if nat_lt (end s) (end other) then other else s

abbrev pub last_of : (Special → ℕ) → List Special → Option Special
last_of end [] = None
last_of end (s ∷ others) = Some (later end s (last_of end others))

-- ---- at a position

module _ (f : Form) (text : List ℕ) (at : ℕ) where
  -- the bytes from here on that the special component keeps begin with those of a name
  abbrev pub begins : List ℕ → Bool
  begins name =
      starts_with (same_by f.specials)
      (drain (rule_of f.integers.decimal components.Special) text at 0) (bytes_of name)

  -- where they end: at the next byte that is kept
  abbrev pub end_of : List ℕ → ℕ
  end_of name = slice_index_or
      (kept_positions (rule_of f.integers.decimal components.Special) text at 0)
      (length (bytes_of name)) (length text)

  abbrev pub name_end : Special → ℕ
  name_end s = end_of s.name

  -- a name is here that has bytes and, after a sign, takes one
  unfoldable pub is_here : Bool → Bool → Special → Bool
  is_here is_signed is_minus s =
      nat_lt 0 (length (bytes_of s.name)) && begins s.name && takes_sign s.sign is_signed is_minus

  -- the longest name here
  unfoldable pub special_at : Bool → Bool → Option Special
  special_at is_signed is_minus =
      last_of name_end (filter (is_here is_signed is_minus) (names_of f.specials))
