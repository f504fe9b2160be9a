-- Digits and those that follow them, as bounds on the whole number.
use Rattle.std.proofs.Common.{◌≡◌, ℕ, ◌+◌, ◌-◌, ◌*◌, ◌^◌, sym, ap, ◌∙◌, arith, mul_assoc, mul-le-mul_right}
use lib.Pow.{pow-add}
use Rattle.std.specs.Prelude.{min}
use Rattle.digit_floats.specs.Near.{IsScaled, IsCutAt}

module _ (digits cut n up below power : ℕ) where
  pub is_between : power + below ≡ cut + 342 + up → IsCutAt n digits cut
      → IsScaled (n * 10 ^ up) (10 ^ below) digits (digits + min cut 1) power
  is_between e is =
      let A : ℕ = 10 ^ (power - 342) in
      let B : ℕ = 10 ^ below in
      let U : ℕ = 10 ^ up in
      let V : ℕ = 10 ^ (342 - power) in
      let places_are : power - 342 + below ≡ cut + (up + (342 - power)) = omega arith in
      let E : A * B ≡ 10 ^ cut * (U * V) =
      sym (pow-add 10 (power - 342) below) ∙ ap (λ t. 10 ^ t) places_are
      ∙ pow-add 10 cut (up + (342 - power))
      ∙ ap (λ t. 10 ^ cut * t) (pow-add 10 up (342 - power)) in
      let left : (d : ℕ) → d * A * B ≡ d * 10 ^ cut * (U * V) =
      λ d. mul_assoc d A B ∙ ap (λ t. d * t) E ∙ sym (mul_assoc d (10 ^ cut) (U * V)) in
      let right : n * U * V ≡ n * (U * V) = mul_assoc n U V in
      record {
        from = rw (left digits, right) (mul-le-mul_right (U * V) is.from);
        to = rw (left (digits + min cut 1), right) (mul-le-mul_right (U * V) is.to);
      }
