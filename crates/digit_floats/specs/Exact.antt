-- The powers of ten that a format holds.
use Rattle.std.specs.Prelude.{ℕ, ◌^◌, false}
use Rattle.std.specs.Float.{Float}
use lib.Ieee.Exact.{HasValue}

-- x is 10 ^ k
abbrev pub IsTenTo : ℕ → Float → Type 0
IsTenTo k x = HasValue x false (10 ^ k) 1
