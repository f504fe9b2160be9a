-- The value of a float's bits.
use Rattle.std.proofs.Common.{◌≡◌, ◌≢◌, ℕ, zero, suc, ◌+◌, ◌-◌, ◌*◌, ◌/◌, ◌%◌, ◌^◌, ◌≤◌, Bool, true, false, T, not, cond, eqb, leb, refl, sym, subst, ◌∙◌, arith}
use Rattle.std.specs.Prelude.{IsTrue}
use Rattle.std.specs.Float.{Float, float_is_finite}
use lib.Ieee.{binary64, of_fields, of_bits, to_bits, fits, is_nan, odd, inf, nan, fin}
use lib.Ieee.Bits.{of_bits-to_bits}
use lib.Ieee.Exact.{HasValue, odd_sign}
use Rattle.std.proofs.lemmas.Bool.Decides.{nat_tests}

fields_low : (s : Bool) (t : ℕ) → HasValue (of_fields binary64 s 0 t) s (t * 2 ^ 0) (2 ^ 1074)
unfolding of_fields float_is_finite
fields_low s t = odd_sign 53 s t 0 1074

fields_high : (s : Bool) (x t : ℕ) → IsTrue (float_is_finite (of_fields binary64 s (suc x) t))
    → HasValue (of_fields binary64 s (suc x) t) s ((2 ^ 52 + t) * 2 ^ x) (2 ^ 1074)
unfolding of_fields float_is_finite
fields_high s x t finite = go (eqb (suc x) 2047) (eqb t 0) finite
  where
    go : (b c : Bool)
        → IsTrue (float_is_finite (cond b (cond c (inf s) nan) (odd 53 s (2 ^ 52 + t) x 1074)))
        → HasValue (cond b (cond c (inf s) nan) (odd 53 s (2 ^ 52 + t) x 1074)) s
        ((2 ^ 52 + t) * 2 ^ x) (2 ^ 1074)
    go true true f = cc
    go true false f = cc
    go false c f = odd_sign 53 s (2 ^ 52 + t) x 1074

fields_of : (s : Bool) (field t : ℕ) → IsTrue (float_is_finite (of_fields binary64 s field t))
    → field ≢ 0
    → HasValue (of_fields binary64 s field t) s ((2 ^ 52 + t) * 2 ^ (field - 1)) (2 ^ 1074)
fields_of s zero t finite some = absurd (some refl)
fields_of s (suc x) t finite some =
    let back : suc x - 1 ≡ x = omega arith in
    subst (λ (y : ℕ). HasValue (of_fields binary64 s (suc x) t) s ((2 ^ 52 + t) * 2 ^ y) (2 ^ 1074))
    (sym back)
    (fields_high s x t finite)

fields_few : (s : Bool) (field t : ℕ) → IsTrue (float_is_finite (of_fields binary64 s field t))
    → field ≢ 2047
unfolding of_fields float_is_finite
fields_few s zero t finite e = absurd (omega (arith, e))
fields_few s (suc x) t finite e = go (eqb (suc x) 2047) (eqb t 0) (grind (arith, nat_tests)) finite
  where
    go : (b c : Bool) → b ≡ true
        → IsTrue (float_is_finite (cond b (cond c (inf s) nan) (odd 53 s (2 ^ 52 + t) x 1074))) → ⊥
    go true true y f = cc
    go true false y f = cc
    go false c y f = cc

bits_are : (b : ℕ)
    → of_bits binary64 b ≡ of_fields binary64 (leb (2 ^ 63) b) (b % 2 ^ 63 / 2 ^ 52) (b % 2 ^ 52)
unfolding of_bits
bits_are b = refl

module _ (x : Float) (is_fit : T (fits binary64 x)) (finite : IsTrue (float_is_finite x)) where
  abbrev bits : ℕ
  bits = to_bits binary64 x

  same : of_fields binary64 (leb (2 ^ 63) bits) (bits % 2 ^ 63 / 2 ^ 52) (bits % 2 ^ 52) ≡ x
  same = sym (bits_are bits) ∙ of_bits-to_bits binary64 x is_fit

  finite_fields : IsTrue
      (float_is_finite
      (of_fields binary64 (leb (2 ^ 63) bits) (bits % 2 ^ 63 / 2 ^ 52) (bits % 2 ^ 52)))
  finite_fields = subst (λ (y : Float). IsTrue (float_is_finite y)) (sym same) finite

  pub few : bits % 2 ^ 63 / 2 ^ 52 - 1 ≤ 2045
  few =
      let f = fields_few (leb (2 ^ 63) bits) (bits % 2 ^ 63 / 2 ^ 52)
      (bits % 2 ^ 52) finite_fields in
      omega (arith, f)

  pub value_low : bits % 2 ^ 63 / 2 ^ 52 ≡ 0
      → HasValue x (leb (2 ^ 63) bits) (bits % 2 ^ 52 * 2 ^ 0) (2 ^ 1074)
  value_low none =
      subst (λ (y : Float). HasValue y (leb (2 ^ 63) bits) (bits % 2 ^ 52 * 2 ^ 0) (2 ^ 1074)) same
      (subst (λ (n : ℕ). HasValue (of_fields binary64 (leb (2 ^ 63) bits) n (bits % 2 ^ 52))
      (leb (2 ^ 63) bits) (bits % 2 ^ 52 * 2 ^ 0) (2 ^ 1074)) (sym none)
      (fields_low (leb (2 ^ 63) bits) (bits % 2 ^ 52)))

  pub value_high : bits % 2 ^ 63 / 2 ^ 52 ≢ 0
      → HasValue x (leb (2 ^ 63) bits) ((2 ^ 52 + bits % 2 ^ 52) * 2 ^ (bits % 2 ^ 63 / 2 ^ 52 - 1))
      (2 ^ 1074)
  value_high some =
      subst (λ (y : Float). HasValue y (leb (2 ^ 63) bits)
      ((2 ^ 52 + bits % 2 ^ 52) * 2 ^ (bits % 2 ^ 63 / 2 ^ 52 - 1)) (2 ^ 1074)) same
      (fields_of (leb (2 ^ 63) bits) (bits % 2 ^ 63 / 2 ^ 52) (bits % 2 ^ 52) finite_fields some)

pub no_nan : (x : Float) → IsTrue (float_is_finite x) → T (not (is_nan x))
unfolding float_is_finite is_nan
no_nan nan finite = cc
no_nan (inf s) finite = tt
no_nan (fin s m e) finite = tt
