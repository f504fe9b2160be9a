-- Two floats that are the same.
use Rattle.std.proofs.Common.{◌≡◌, true, false, T, not, refl, sym, ap, ◌∙◌, true≢false}
use Rattle.std.specs.Float.{Float, Format, nan, inf, fin}
use lib.Ieee.{fits, is_nan, of_bits, to_bits}
use lib.Ieee.Bits.{of_bits-to_bits}

pub both_nan : (x y : Float) → is_nan x ≡ true → is_nan y ≡ true → x ≡ y
unfolding is_nan
both_nan nan nan a b = refl
both_nan nan (inf s) a b = cc
both_nan nan (fin s m e) a b = cc
both_nan (inf s) y a b = cc
both_nan (fin s m e) y a b = cc

pub one_nan : (x y : Float) → is_nan x ≡ true → is_nan y ≡ false → x ≡ y → ⊥
one_nan x y a b e = true≢false (sym a ∙ ap is_nan e ∙ b)

pub other_nan : (x y : Float) → is_nan x ≡ false → is_nan y ≡ true → x ≡ y → ⊥
other_nan x y a b e = true≢false (sym b ∙ sym (ap is_nan e) ∙ a)

pub no_nan : (x : Float) → is_nan x ≡ false → T (not (is_nan x))
unfolding is_nan
no_nan nan e = cc
no_nan (inf s) e = tt
no_nan (fin s m e) d = tt

pub same_bits : (f : Format) (x y : Float) → T (fits f x) → T (fits f y)
    → to_bits f x ≡ to_bits f y → x ≡ y
same_bits f x y first second e =
    sym (of_bits-to_bits f x first) ∙ ap (of_bits f) e ∙ of_bits-to_bits f y second

pub ruleset same = (both_nan, one_nan, other_nan, no_nan, same_bits)
