-- A number above all floats rounds to the infinity.
use Rattle.std.proofs.Common.{◌≡◌, ℕ, suc, ◌*◌, ◌^◌, ◌<◌, ◌≤◌, true, false, refl, subst, arith}
use lib.Dec.{T}
use lib.Ieee.{Float, Format, nan, inf, fin, binary32, binary64, emax, low, round, le, lt, eq}
use lib.Ieee.Order.{round_mono}

pub above_inf : (x : Float) → T (le (inf false) x) → x ≡ inf false
unfolding le lt eq
above_inf nan t = absurd t
above_inf (inf true) t = absurd t
above_inf (inf false) t = refl
above_inf (fin s m e) t = absurd t

first_inf : (f : Format) → round f false (2 ^ suc (emax f)) 1 ≡ inf false
unfolding round
first_inf binary32 = refl
first_inf binary64 = refl

pub round_huge : (f : Format) (n d : ℕ) → 0 < d → 2 ^ suc (emax f) * d ≤ n * 1
    → round f false n d ≡ inf false
round_huge f n d D h =
    above_inf _ (subst (λ z. T (le z (round f false n d))) (first_inf f)
    (round_mono f (2 ^ suc (emax f)) 1 n d (omega arith) D h))

pub emax_below : (f : Format) → suc (emax f) ≤ 1024
emax_below binary32 = omega arith
emax_below binary64 = omega arith

pub low_below : (f : Format) → low f ≤ 1074
low_below binary32 = omega arith
low_below binary64 = omega arith
