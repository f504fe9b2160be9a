use Rattle.std.proofs.Common.{◌≡◌, ℕ, zero, suc, ◌+◌, ◌-◌, ◌*◌, ◌/◌, ◌%◌, ◌^◌, ◌<◌, ◌≤◌, refl, sym, subst, ◌∙◌, arith}
use native.Mathlib.Nat.{div-add-mod', mod-lt, le-div_iff_mul-le, div-lt_iff_lt-mul}
use lib.Pow.{pow-add, pow_pos, pow_mono}
use Rattle.digit_floats.proofs.near.halves_of.Goals as goal

-- its binary digits
digits : (h top : ℕ) → 2 ^ 62 ≤ h → h < 2 ^ 64 → h / 2 ^ 63 ≡ top
    → (2 ^ (62 + top) ≤ h) × (h < 2 ^ (63 + top))
digits h zero l m e = (l, omega (arith, e))
digits h (suc zero) l m e = (omega (arith, e), m)
digits h (suc (suc top)) l m e = absurd (omega (arith, m, e))

module _ (h p top d : ℕ) (low : 2 ^ 62 ≤ h) (fits : h < 2 ^ 64) (is : h / 2 ^ 63 ≡ top)
    (all : p + d ≡ 62 + top) where
  most : 2 ^ p ≤ h / 2 ^ d
  most =
      (le-div_iff_mul-le (pow_pos d)).1
      (subst (λ x. x ≤ h) (sym (sym (pow-add 2 p d) ∙ (λ i. 2 ^ all i)))
      (digits h top low fits is).0)

  least : h / 2 ^ d < 2 ^ (p + 1)
  least =
      let next : p + 1 + d ≡ 63 + top = omega (arith, all) in
      (div-lt_iff_lt-mul (pow_pos d)).1
      (subst (λ x. h < x) (sym (sym (pow-add 2 (p + 1) d) ∙ (λ i. 2 ^ next i)))
      (digits h top low fits is).1)

pub returns : goal.returns
returns c =
    let h = c.args.high in
    let p = c.args.precision in
    let top : ℕ = h / 2 ^ 63 in
    let d : ℕ = 62 - p + top in
    let one : top ≤ 1 = omega (arith, c.ranges.high.fits) in
    let few : 2 ^ d ≤ 2 ^ 62 = pow_mono {j = 62} (omega (arith, one, c.requires.precision)) in
    let unit : 1 * 2 ^ d % 2 ^ 64 ≡ 2 ^ d = omega (arith, few) in
    let all : p + d ≡ 62 + top = omega (arith, c.requires.precision) in
    let below : h % 2 ^ d < 2 ^ d = mod-lt h (pow_pos d) in
    rw unit (record {
      top = one;
      parts = sym (div-add-mod' h (2 ^ d));
      room = omega (arith, below);
      many = most h p top d c.requires.high c.ranges.high.fits refl all;
      few = least h p top d c.requires.high c.ranges.high.fits refl all;
    })
