-- The powers of ten from 10 ^ -342 to 10 ^ 308, each by 64 bits and a power of two.
use Rattle.std.specs.Prelude.{ℕ, min, ◌+◌, ◌-◌, ◌*◌, ◌/◌, ◌^◌, ◌<◌, ◌≤◌}

-- t * 2 ^ (power_scale q - 1200) is 10 ^ (q - 342), or just below it
abbrev pub power_scale : ℕ → ℕ
power_scale q = (q * 217706 + 58980) / 65536

pub record IsRow (q t : ℕ) : Type 0 where
  pub from : t * (2 ^ power_scale q * 10 ^ (342 - q)) ≤ 10 ^ (q - 342) * 2 ^ 1200
  pub below : 10 ^ (q - 342) * 2 ^ 1200 < (t + 1) * (2 ^ power_scale q * 10 ^ (342 - q))
  pub top : 2 ^ 63 ≤ t
  pub fits : t < 2 ^ 64

-- num / den lies from a to b times 10 ^ (q - 342)
pub record IsScaled (num den a b q : ℕ) : Type 0 where
  pub from : a * 10 ^ (q - 342) * den ≤ num * 10 ^ (342 - q)
  pub to : num * 10 ^ (342 - q) ≤ b * 10 ^ (q - 342) * den

-- n is value and then `cut` digits more, if any
pub record IsCutAt (n value cut : ℕ) : Type 0 where
  pub from : value * 10 ^ cut ≤ n
  pub to : n ≤ (value + min cut 1) * 10 ^ cut
