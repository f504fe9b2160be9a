-- Whole numbers of any size by their decimal digits.
use Rattle.std.specs.Prelude.{◌≡◌, ℕ, ◌+◌, ◌-◌, ◌*◌, ◌^◌, ◌<◌, ◌≤◌, List, [], ◌∷◌, length, take, slice_index}

-- the number of digits, of which the first is the last one
unfoldable pub value_of : List ℕ → ℕ
value_of [] = 0
value_of (digit ∷ digits) = digit + 10 * value_of digits

-- the first `len` of some bytes are the digits of a number, with no 0 too many
pub record IsBig (bytes : List ℕ) (len number : ℕ) : Type 0 where
  pub digits : (k : ℕ) → slice_index bytes k < 10
  pub within : len ≤ length bytes
  pub value : value_of (take len bytes) ≡ number
  pub least : 0 < len → 10 ^ (len - 1) ≤ number
