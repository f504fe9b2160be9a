-- A power of ten with its sign.
use Rattle.std.proofs.Common.{◌≡◌, ℕ, ℤ, refl, arith, unsigned_abs}
use Rattle.std.specs.Prelude.{pos, negsuc, ◌<ℤ◌}
use Rattle.std.proofs.lemmas.Int.{ints}
use Rattle.decimal_writers.specs.Text.{places_of, units_of}

pub places_below : (z : ℤ) → z <ℤ pos 0 → places_of z ≡ unsigned_abs z
places_below (pos n) l = absurd (omega (arith, ints, l))
places_below (negsuc n) l = omega arith

pub units_below : (digits : ℕ) (z : ℤ) → z <ℤ pos 0 → units_of digits z ≡ digits
units_below digits (pos n) l = absurd (omega (arith, ints, l))
units_below digits (negsuc n) l = refl

pub ruleset powers = (places_below, units_below)
