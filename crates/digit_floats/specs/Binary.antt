-- A whole part of a number that is rounded to fewer binary digits.
use Prim.Native.Nat.{compare}
use Rattle.std.specs.Prelude.{◌≡◌, ℕ, ◌+◌, ◌*◌, ◌/◌, ◌%◌, ◌^◌, ◌<◌, ◌≤◌, Bool, true, false, if◌then◌else◌}
use Rattle.std.specs.Float.Ieee.{nearest}

-- v is the whole part of a / b, and `more` says whether a / b is above it
pub record IsWholePart (a b v : ℕ) (more : Bool) : Type 0 where
  pub least : v * b ≤ a
  pub most : a < (v + 1) * b
  pub same : more ≡ false → a ≡ v * b
  pub above : more ≡ true → v * b < a

-- 1 in place of what is above it
abbrev pub sticky_bit : Bool → ℕ
sticky_bit more = if more then 1 else 0

-- the digits over 2 ^ shift, to the nearest whole number and at a tie to the even one
abbrev pub shifted : ℕ → ℕ → Bool → ℕ
shifted digits shift more =
    nearest (digits / 2 ^ shift) (compare (digits % 2 ^ shift * 2 + sticky_bit more) (2 ^ shift))
