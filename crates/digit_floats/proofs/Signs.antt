-- A number rounds as far below zero as above.
use Rattle.std.proofs.Common.{◌≡◌, ℕ, zero, suc, ◌+◌, ◌*◌, ◌^◌, Bool, true, false, refl, sym, ap, ◌∙◌}
use lib.Dec.{ltb}
use mathlib.Core.Bool.{cond}
use lib.Ieee.{Float, Format, inf, emax, low, prec, odd, units, round, neg}
use lib.Ieee.Fits.{round_is}

odd_neg : (d q k l : ℕ) → neg (odd d false q k l) ≡ odd d true q k l
unfolding neg odd
odd_neg d zero k l = refl
odd_neg d (suc q) k l = refl

units_neg : (f : Format) (q k : ℕ) → neg (units f false q k) ≡ units f true q k
unfolding units neg
units_neg f q k = go (ltb (q * 2 ^ k) (2 ^ (low f + suc (emax f))))
  where
    go : (b : Bool) → neg (cond b (odd (suc (prec f)) false q k (low f)) (inf false))
        ≡ cond b (odd (suc (prec f)) true q k (low f)) (inf true)
    go true = odd_neg (suc (prec f)) q k (low f)
    go false = refl

pub round_neg : (f : Format) (a b : ℕ) → neg (round f false a b) ≡ round f true a b
round_neg f a b = ap neg (round_is f false a b) ∙ units_neg f _ _ ∙ sym (round_is f true a b)

-- and a float with the other sign, where that is asked for
pub round_neg_if : (f : Format) (b : Bool) (x y : Float) (m n : ℕ) → y ≡ cond b (neg x) x
    → x ≡ round f false m n → y ≡ round f b m n
round_neg_if f true x y m n e is = e ∙ ap neg is ∙ round_neg f m n
round_neg_if f false x y m n e is = e ∙ is
