-- A fraction that is rounded is a number.
use Rattle.std.proofs.Common.{ℕ, zero, suc, ◌+◌, ◌*◌, ◌^◌, Bool, true, false}
use Rattle.std.specs.Float.{NotNan}
use lib.Dec.{ltb}
use mathlib.Core.Bool.{cond}
use lib.Ieee.{Float, Format, inf, is_nan, emax, low, prec, odd, units, round}
use lib.Ieee.Fits.{round_is}
use mathlib.Core.Path.{◌≡◌, subst, sym}

odd_number : (d : ℕ) (s : Bool) (q k l : ℕ) → NotNan (odd d s q k l)
unfolding odd is_nan
odd_number d s zero k l = tt
odd_number d s (suc q) k l = tt

pub units_number : (f : Format) (s : Bool) (q k : ℕ) → NotNan (units f s q k)
unfolding units is_nan
units_number f s q k = go (ltb (q * 2 ^ k) (2 ^ (low f + suc (emax f))))
  where
    go : (b : Bool) → NotNan (cond b (odd (suc (prec f)) s q k (low f)) (inf s))
    go true = odd_number (suc (prec f)) s q k (low f)
    go false = tt

pub round_number : (f : Format) (s : Bool) (a b : ℕ) → NotNan (round f s a b)
round_number f s a b = subst NotNan (sym (round_is f s a b)) (units_number f s _ _)

-- so is a float that is one
pub number_is : (f : Format) (s : Bool) (a b : ℕ) {x : Float} → x ≡ round f s a b → NotNan x
number_is f s a b is = subst NotNan (sym is) (round_number f s a b)
