-- The names of a table.
use Rattle.std.specs.Prelude.{◌≡◌, ℕ, Bool, nat_lt, List, length, filter, map}
use Rattle.digit_numbers.specs.declared.form.NameSign.{NameSign}
use Rattle.digit_numbers.specs.declared.form.Special.{Special}
use Rattle.digit_numbers.specs.declared.form.Specials.{Specials}
use Rattle.digit_numbers.specs.declared.form.SpecialValue.{SpecialValue}
use Rattle.digit_numbers.specs.Specials.{bytes_of}

-- a name, what it stands for, and which sign is before it
abbrev pub Named : Type 0
Named = List ℕ × (SpecialValue × NameSign)

abbrev pub named : List ℕ → SpecialValue → NameSign → Named
named name value sign = (name, (value, sign))

-- the places of a table that are used, in their order
abbrev pub names_in : Specials → List Named
names_in table =
    map (λ (s : Special). named (bytes_of s.name) s.value s.sign)
    (filter (λ (s : Special). nat_lt 0 (length (bytes_of s.name))) table.names)

-- a table has these names and no others, in any case or in this one
pub record IsTable (table : Specials) (any_case : Bool) (has : List Named) : Type 0 where
  pub names : names_in table ≡ has
  pub case : table.any_case ≡ any_case
