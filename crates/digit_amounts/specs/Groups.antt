-- The digits of an integer between its separators.
use Rattle.std.specs.Prelude.{◌≡◌, ⊤, ℕ, ◌+◌, ◌==◌, ◌≤◌, nat_le, nat_lt, Bool, true, false, ◌&&◌, if◌then◌else◌, List, [], ◌∷◌, length, slice_range, Option, Some, None}
use Rattle.std.specs.List.{All, slice_split}
use Rattle.lexical_digits.specs.declared.skip.component.Component.TheVariants.{Integer}
use Rattle.lexical_digits.specs.Separators.{is_separator}
use Rattle.lexical_digits.specs.State.{rule_of}
use Rattle.digit_floats.specs.Float.{digits_end}

-- the digits between the separators of the integer at a position, and those before the first
-- separator and after the last one
abbrev pub groups_at : ℕ → List ℕ → ℕ → List (List ℕ)
groups_at word text at =
    slice_split (is_separator (rule_of word Integer).separator)
    (slice_range text at (digits_end word text Integer at))

-- the digits between separators are three each, but for the first ones, which are one to three
abbrev pub AreGroups : List (List ℕ) → Type 0
AreGroups [] = ⊤
AreGroups (first ∷ others) =
    (1 ≤ length first) × (length first ≤ 3) × All (λ group. length group ≡ 3) others

-- ---- which is the first that has another number of digits

abbrev pub is_group : Bool → ℕ → Bool
is_group true count = nat_lt 0 count && nat_le count 3
is_group false count = count == 3

-- where it begins, of groups that begin here
abbrev pub wrong_of : Bool → ℕ → List (List ℕ) → Option ℕ
wrong_of is_first at [] = None
wrong_of is_first at (group ∷ others) =
    if is_group is_first (length group) then wrong_of false (at + length group + 1) others
    else Some at

-- the same of the integer at a position
abbrev pub wrong_at : ℕ → List ℕ → ℕ → Option ℕ
wrong_at word text at = wrong_of true at (groups_at word text at)
