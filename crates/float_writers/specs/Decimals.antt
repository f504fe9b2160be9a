-- The decimals that read as a float, and how far they are from it.
use Rattle.std.specs.Prelude.{◌≡◌, ◌⊎◌, ℕ, ◌-◌, ◌*◌, ◌%◌, ◌^◌, ◌≤◌, ◌<◌, false}
use Rattle.std.specs.Float.{Float, Format}
use Rattle.std.specs.Float.Ieee.{round}
use Rattle.std.specs.Int.{abs_diff}
use lib.Ieee.Positive.{num, den}
use Rattle.decimal_writers.specs.Text.{places_of, units_of}
use Rattle.float_writers.specs.declared.decimal.Decimal.{Decimal}

-- the float nearest to digits * 10 ^ up / 10 ^ down is x
abbrev pub ReadsAt : Format → Float → ℕ → ℕ → ℕ → Type 0
ReadsAt f x digits up down = round f false (digits * 10 ^ up) (10 ^ down) ≡ x

-- the float nearest to the decimal is x
abbrev pub Reads : Format → Float → Decimal → Type 0
Reads f x d = round f false (units_of d.digits d.power) (10 ^ places_of d.power) ≡ x

-- how far units / 10 ^ places is from x, times 10 ^ places and the denominator of x
abbrev pub far_of : Float → ℕ → ℕ → ℕ
far_of x units places = abs_diff (units * den x) (num x * 10 ^ places)

abbrev pub far : Float → Decimal → ℕ
far x d = far_of x (units_of d.digits d.power) (places_of d.power)

-- one decimal is nearer to x than another, or as near
abbrev pub IsNearer : Float → Decimal → Decimal → Type 0
IsNearer x d other = far x d * 10 ^ places_of other.power < far x other * 10 ^ places_of d.power

abbrev pub IsAsNear : Float → Decimal → Decimal → Type 0
IsAsNear x d other = far x d * 10 ^ places_of other.power ≡ far x other * 10 ^ places_of d.power

-- one decimal has no more digits than another: it is below each power of ten that the other is
-- below
abbrev pub HasNoMoreDigits : Decimal → Decimal → Type 0
HasNoMoreDigits d other = (n : ℕ) → other.digits < 10 ^ n → d.digits < 10 ^ n

-- ---- while zeros may stand at the end of the digits, and the power of ten is p - 324

-- digits * 10 ^ (p - 324) reads as x. Without the zeros at their end they are no more digits than
-- any that do, and of those with as many none is nearer, nor as near but for others if the last is
-- even.
pub record IsShortestAt (f : Format) (x : Float) (digits p : ℕ) : Type 0 where
  pub some : 0 < digits
  pub reads : ReadsAt f x digits (p - 324) (324 - p)
  pub none_shorter : (c z e up down n : ℕ) → digits ≡ c * 10 ^ z → (c % 10 ≡ 0 → ⊥)
      → ReadsAt f x e up down → e < 10 ^ n → c < 10 ^ n
  pub none_better : (c z e up down n : ℕ) → digits ≡ c * 10 ^ z → (c % 10 ≡ 0 → ⊥)
      → ReadsAt f x e up down → e < 10 ^ n → 10 ^ n ≤ c * 10
      → (far_of x (digits * 10 ^ (p - 324)) (324 - p) * 10 ^ down < far_of x (e * 10 ^ up)
      down * 10 ^ (324 - p))
      ⊎ ((far_of x (digits * 10 ^ (p - 324)) (324 - p) * 10 ^ down ≡ far_of x (e * 10 ^ up)
      down * 10 ^ (324 - p))
      × ((e ≡ c) ⊎ (c % 2 ≡ 0)))
