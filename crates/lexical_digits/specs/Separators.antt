-- The role rule: which bytes of a buffer are kept. A separator is dropped if one of its roles is
-- granted; every other byte is kept. The rule is stated for each position of the whole buffer,
-- without a moving cursor and without calls.
use Rattle.std.specs.Prelude.{◌≡◌, ℕ, ◌+◌, ◌-◌, ◌≤◌, Bool, true, false, not, ◌&&◌, ◌||◌, if◌then◌else◌, nat_lt, ◌==◌, Option, Some, None, List, [], ◌∷◌, map, reverse, length, take, drop, slice_get, slice_index, slice_index_or, slice_range, count_by, filter, find}
use Rattle.std.specs.List.{range_with_len, list_any, prefix_len}
use Rattle.lexical_format.specs.Digits.{is_digit_of_radix}
use Rattle.lexical_digits.specs.declared.skip.rule.Rule.{Rule}
use Rattle.lexical_digits.specs.declared.skip.rule.Class.{Class}
use Rattle.lexical_digits.specs.declared.skip.rule.Class.TheVariants.{Digit, Separator, Other}

-- ---- classes

-- whether a byte is a digit of the radix
unfoldable pub is_digit : Rule → ℕ → Bool
is_digit rule byte = is_digit_of_radix rule.radix byte

-- whether a byte is the separator; a separator of zero means that no byte is one
unfoldable pub is_separator : ℕ → ℕ → Bool
is_separator separator byte = not (separator == 0) && (byte == separator)

-- a position outside of the buffer is `Other`
abbrev pub class : Rule → Option ℕ → Class
class rule None = Other
class rule (Some byte) =
    if is_digit rule byte
    then Digit
    else if is_separator rule.separator byte
    then Separator
    else Other

abbrev pub is_separator_class : Class → Bool
is_separator_class Digit = false
is_separator_class Separator = true
is_separator_class Other = false

-- whether position q holds a separator
unfoldable pub holds_separator : Rule → List ℕ → ℕ → Bool
holds_separator rule buffer q = is_separator_class (class rule (slice_get buffer q))

-- ---- the sides of a separator

-- the side of a separator, in the bytes on that side, nearest first: the first byte, or with the
-- consecutive flag the first byte that is no separator
unfoldable pub neighbour : Rule → List ℕ → Option ℕ
neighbour rule bytes =
    if rule.consecutive
    then find (λ byte. not (is_separator rule.separator byte)) bytes
    else slice_get bytes 0

-- the class on the right of a separator
abbrev pub right_side : Rule → List ℕ → ℕ → Class
right_side rule buffer q = class rule (neighbour rule (drop (q + 1) buffer))

-- a digit if one was seen before; otherwise the side to the left, also beyond the start
abbrev pub left_side : Rule → List ℕ → Bool → ℕ → Class
left_side rule buffer digit_seen q =
    if digit_seen
    then Digit
    else class rule (neighbour rule (reverse (take q buffer)))

-- ---- roles

pub data Role : Type 0 where
  Internal : Role
  Leading : Role
  Trailing : Role

-- by the left and the right side
abbrev pub roles : Class → Class → List Role
roles Digit Digit = Internal ∷ []
roles Other Digit = Leading ∷ []
roles Digit Other = Trailing ∷ []
roles Other Other = Leading ∷ Trailing ∷ []
roles Separator right = []
roles Digit Separator = []
roles Other Separator = []

-- whether a role is granted
abbrev pub grants : Rule → Role → Bool
grants rule Internal = rule.internal
grants rule Leading = rule.leading
grants rule Trailing = rule.trailing

-- ---- what is kept

-- a separator is dropped exactly if one of its roles is granted
unfoldable pub is_dropped : Rule → List ℕ → Bool → ℕ → Bool
is_dropped rule buffer digit_seen q =
    holds_separator rule buffer q
    && list_any (grants rule)
    (roles (left_side rule buffer digit_seen q) (right_side rule buffer q))

-- the count at the start, and the digits from there up to q
unfoldable pub digits_seen : Rule → List ℕ → ℕ → ℕ → ℕ → ℕ
digits_seen rule buffer start count q =
    count + count_by (is_digit rule) (slice_range buffer start q)

-- whether a byte is kept: it is no separator, or none of its roles is granted
unfoldable pub is_kept : Rule → List ℕ → ℕ → ℕ → ℕ → Bool
is_kept rule buffer start count q =
    not (is_dropped rule buffer (nat_lt 0 (digits_seen rule buffer start count q)) q)

-- the kept positions from start to the end, in rising order
unfoldable pub kept_positions : Rule → List ℕ → ℕ → ℕ → List ℕ
kept_positions rule buffer start count =
    filter (is_kept rule buffer start count) (range_with_len start (length buffer - start))

-- the bytes at them
unfoldable pub drain : Rule → List ℕ → ℕ → ℕ → List ℕ
drain rule buffer start count = map (slice_index buffer) (kept_positions rule buffer start count)

-- the first of them from the cursor on, or the length if there is none
unfoldable pub place : Rule → List ℕ → ℕ → ℕ → ℕ
place rule buffer cursor count =
    slice_index_or (kept_positions rule buffer cursor count) 0 (length buffer)

-- how many bytes `0` a drain begins with
unfoldable pub zeros : Rule → List ℕ → ℕ → ℕ → ℕ
zeros rule buffer start count = prefix_len (λ byte. byte == 48) (drain rule buffer start count)

-- the next kept position after them, or the length if there is none
unfoldable pub past_zeros : Rule → List ℕ → ℕ → ℕ → ℕ
past_zeros rule buffer start count =
    slice_index_or (kept_positions rule buffer start count) (zeros rule buffer start count)
    (length buffer)

-- ---- what a rule grants

-- whether a rule has a flag
abbrev pub has_flags : Rule → Bool
has_flags rule = rule.internal || rule.leading || rule.trailing || rule.consecutive

-- no role is granted
abbrev pub GrantsNone : Rule → Type 0
GrantsNone rule = (rule.internal ≡ false) × (rule.leading ≡ false) × (rule.trailing ≡ false)

-- every separator is dropped
abbrev pub GrantsAll : Rule → Type 0
GrantsAll rule = (rule.internal ≡ true) × (rule.leading ≡ true) × (rule.trailing ≡ true)
    × (rule.consecutive ≡ true)

-- the radix has digits, and no byte is both digit and separator
pub record IsSupported (rule : Rule) : Type 0 where
  pub low : 2 ≤ rule.radix
  pub high : rule.radix ≤ 36
  pub apart : is_digit rule rule.separator ≡ false

-- the greater rule grants at least what the lesser grants, with the same separator and radix
pub record GrantsAtLeast (lesser greater : Rule) : Type 0 where
  pub separator : lesser.separator ≡ greater.separator
  pub radix : lesser.radix ≡ greater.radix
  pub internal : lesser.internal ≡ true → greater.internal ≡ true
  pub leading : lesser.leading ≡ true → greater.leading ≡ true
  pub trailing : lesser.trailing ≡ true → greater.trailing ≡ true
  pub consecutive : lesser.consecutive ≡ true → greater.consecutive ≡ true
