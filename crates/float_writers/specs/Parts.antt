-- The parts of a float above zero.
use Rattle.std.specs.Prelude.{◌≡◌, T, ◌-◌, ◌*◌, ◌^◌, ◌<◌, ◌≤◌, false, true}
use Rattle.std.specs.Float.{Float, Format}
use Rattle.std.specs.Float.Ieee.{prec, low, emax, units}
use lib.Ieee.Positive.{positive}
use Rattle.float_writers.specs.declared.parts.Parts.{Parts}

-- x is significand * 2 ^ exponent / 2 ^ 1074
pub record IsParts (f : Format) (x : Float) (p : Parts) : Type 0 where
  pub is : x ≡ units f false p.significand (p.exponent - (1074 - low f))
  pub scale : 1074 - low f ≤ p.exponent
  pub some : 0 < p.significand
  pub few : p.significand < 2 ^ prec f
  pub finite : p.exponent - (1074 - low f) < 2 * emax f
  pub edge : p.edge ≡ true → (p.significand ≡ 2 ^ (prec f - 1)) × (0 < p.exponent - (1074 - low f))
  pub regular : p.edge ≡ false → 0 < p.exponent - (1074 - low f) → 2 ^ (prec f - 1) < p.significand

-- a number above zero, and not the infinity
abbrev pub IsAboveZero : Float → Type 0
IsAboveZero x = T (positive x)
