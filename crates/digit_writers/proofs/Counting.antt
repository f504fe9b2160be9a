-- How many digits a number has.
use Rattle.std.proofs.Common.{◌≡◌, ℕ, zero, suc, ◌+◌, ◌*◌, ◌/◌, ◌^◌, ◌<◌, ◌≤◌, length, refl, ap, subst, ◌∙◌, arith}
use Rattle.std.specs.Int.Digits.{digits_of}
use Rattle.std.proofs.Math.Nat.{pow-le-pow_right, pow-le-pow_left, pow-suc, pow-zero, mul-le-mul_left}
use Rattle.std.proofs.lemmas.Nat.{le-div, div_below}
use Rattle.std.proofs.lemmas.Int.Digits.{length-digits_of_step, length-digits_of-le, number_digits_of, all_below_base_digits_of, number_lt}
use Rattle.digit_writers.specs.Layouts.{digit_count}

module _ (radix : ℕ) (low : 2 ≤ radix) where
  abbrev len : ℕ → ℕ
  len n = length (digits_of radix n)

  some : (n : ℕ) → 0 < n → 1 ≤ len n
  some n l = omega (arith, length-digits_of_step radix n low l)

  -- a number below the radix has one, and another one more than its quotient
  pub count_one : (n : ℕ) → n < radix → digit_count radix n ≡ 1
  count_one zero l = refl
  count_one (suc n) l =
      let one : radix ^ 1 ≡ radix =
      pow-suc radix 0 ∙ ap (λ (x : ℕ). x * radix) (pow-zero radix) ∙ omega arith in
      omega (
        arith,
        some (suc n) (omega arith),
        length-digits_of-le radix 1 (suc n) low
            (omega (arith, one, l)),
      )

  pub count_more : (n : ℕ) → radix ≤ n → digit_count radix n ≡ digit_count radix (n / radix) + 1
  count_more n l =
      let quotient : 1 ≤ n / radix = le-div 1 n radix (omega (arith, low)) (omega (arith, l)) in
      let step = length-digits_of_step radix n low (omega (arith, l, low)) in
      omega (arith, step, some (n / radix) quotient)

  -- so many digits hold it
  pub count_holds : (n : ℕ) → n < radix ^ digit_count radix n
  count_holds n =
      let below : n < radix ^ len n =
      subst (λ (x : ℕ). x < radix ^ len n) (number_digits_of radix n low)
      (number_lt radix (digits_of radix n) (all_below_base_digits_of radix n low)) in
      let up : radix ^ len n ≤ radix ^ digit_count radix n =
      pow-le-pow_right (omega (arith, low)) (omega arith) in
      omega (arith, below, up)

  -- dividing makes it less
  pub less : (n : ℕ) → radix ≤ n → n / radix < n
  less n l = div_below n radix n (omega (arith, low))
      (let up : n * 2 ≤ n * radix = mul-le-mul_left n low in omega (arith, up, l, low))

-- no number of 128 bits has more than 128
pub count_most : (radix n : ℕ) → 2 ≤ radix → n < 2 ^ 128 → digit_count radix n ≤ 128
count_most radix n low few =
    let up : 2 ^ 128 ≤ radix ^ 128 = pow-le-pow_left low 128 in
    omega (arith, length-digits_of-le radix 128 n low (omega (arith, few, up)))
