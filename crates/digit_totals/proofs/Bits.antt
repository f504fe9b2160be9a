-- Numbers of 128 bits.
use Rattle.std.proofs.Common.{◌≡◌, true, false, ℤ, pos, negsuc, FitsSigned, arith}
use Rattle.std.proofs.lemmas.Bool.Decides.{nat_tests}
use Rattle.std.proofs.lemmas.Int.{to_z-of_z}
use mir.Syntax.{w128}
use Rattle.digit_totals.specs.Totals.{has_128_bits}

pub fits_is : (z : ℤ) → FitsSigned w128 z → has_128_bits z ≡ true
fits_is (pos n) fits = grind (arith, nat_tests, fits.sfits)
fits_is (negsuc n) fits = grind (arith, nat_tests, fits.sfits)

pub has_fits : (z : ℤ) → has_128_bits z ≡ true → FitsSigned w128 z
has_fits (pos n) h = record { sfits = grind (arith, nat_tests, h) }
has_fits (negsuc n) h = record { sfits = grind (arith, nat_tests, h) }

pub no_fit : (z : ℤ) → (FitsSigned w128 z → ⊥) → has_128_bits z ≡ false
no_fit z none = grind (arith, has_fits z, none)

pub ruleset bits = (fits_is, no_fit, to_z-of_z)
