-- The float that is a whole number of the least float's 2 ^ k-fold, by its bits.
use Rattle.std.proofs.Common.{◌≡◌, ℕ, zero, suc, ◌+◌, ◌-◌, ◌*◌, ◌/◌, ◌^◌, ◌<◌, ◌≤◌, Bool, true, false, cond, T, ltb, refl, sym, ap, subst, ◌∙◌, arith, mul-le-mul_right}
use native.Mathlib.Nat.{mul-div_cancel, lt_of_not-le, not-le_of_lt, lt_of_lt_of_le, le_trans, le_of_mul-le-mul_right, mul-lt-mul_of_pos_right}
use mathlib.Core.Bool.{not}
use lib.Dec.{ltb→lt, nltb→le}
use lib.Pow.{pow-add, pow_pos, pow_mono, pow-lt}
use lib.Ieee.{Format, inf, prec, low, binary32, binary64, emax, hid, ones, size, odd, units, fits, of_bits, to_bits, is_nan, nan_bits}
use lib.Ieee.Bits.{of_bits-to_bits, nan_bits_is}
use lib.Ieee.Digits.{size-lt, size-le}
use lib.Ieee.Exact.{odd_sign}
use lib.Ieee.Fits.{odd-fits, inf-fits, two}
use Rattle.digit_floats.proofs.Squeeze.{bits_of_value}
use Rattle.digit_floats.proofs.Numbers.{units_number}

pub size-gt : (n j : ℕ) → 2 ^ j ≤ n → j < size n
size-gt n j h = lt_of_not-le (λ g. not-le_of_lt (lt_of_lt_of_le (size-lt n) (pow_mono g)) h)

below_pow : (i j : ℕ) → 2 ^ i ≤ 2 ^ j → i ≤ j
below_pow i j h =
    let l : i < j + 1 =
    lt_of_not-le (λ g. let m : 2 ^ (j + 1) ≤ 2 ^ i = pow_mono g in
    omega (arith, pow-add 2 j 1, pow_pos j, m, h)) in
    omega arith

pub pow_below : (i j : ℕ) → 2 ^ i < 2 ^ j → i < j
pow_below i j h = lt_of_not-le (λ g. omega (arith, h, pow_mono {i = j} {j = i} g))

emax_pos : (f : Format) → 0 < emax f
emax_pos binary32 = omega arith
emax_pos binary64 = omega arith

pub prec_few : (f : Format) → prec f ≤ low f
prec_few binary32 = omega arith
prec_few binary64 = omega arith

pub low_few : (f : Format) → low f ≤ 1074
low_few binary32 = omega arith
low_few binary64 = omega arith

-- how many digits q * 2 ^ k has beyond p, and what it is without them
module _ (p q k : ℕ) (P : 0 < p) (few : q ≤ 2 ^ p) (many : 0 < k → 2 ^ (p - 1) ≤ q) where
  abbrev without : ℕ → ℕ
  without j = 0 + j * 2 ^ (p - 1) + q * 2 ^ k / 2 ^ j

  two_of : 2 ^ p ≡ 2 ^ (p - 1) * 2
  two_of = let e : p ≡ p - 1 + 1 = omega arith in ap (λ z. 2 ^ z) e ∙ pow-add 2 (p - 1) 1

  -- at most p digits
  at_most : q < 2 ^ p → (size (q * 2 ^ k) - p ≡ k) × (q * 2 ^ k / 2 ^ k ≡ q)
  at_most less =
      let high : size (q * 2 ^ k) ≤ p + k =
      size-le (q * 2 ^ k) (p + k)
      (subst (λ z. q * 2 ^ k < z) (sym (pow-add 2 p k))
      (mul-lt-mul_of_pos_right less (pow_pos k))) in
      (by k many high, mul-div_cancel q (pow_pos k))
    where
      by : (k : ℕ) → (0 < k → 2 ^ (p - 1) ≤ q) → size (q * 2 ^ k) ≤ p + k
          → size (q * 2 ^ k) - p ≡ k
      by zero many high = omega arith
      by (suc k) many high =
          let low_ : p - 1 + suc k < size (q * 2 ^ suc k) =
          size-gt (q * 2 ^ suc k) (p - 1 + suc k)
          (subst (λ z. z ≤ q * 2 ^ suc k) (sym (pow-add 2 (p - 1) (suc k)))
          (mul-le-mul_right (2 ^ suc k) (many (omega arith)))) in
          omega arith

  -- one more
  one_more : q ≡ 2 ^ p → (size (q * 2 ^ k) - p ≡ k + 1) × (q * 2 ^ k / 2 ^ (k + 1) ≡ 2 ^ (p - 1))
  one_more full =
      let a : q * 2 ^ k ≡ 2 ^ (p + k) = ap (λ z. z * 2 ^ k) full ∙ sym (pow-add 2 p k) in
      let low_ : p + k < size (q * 2 ^ k) = size-gt (q * 2 ^ k) (p + k) (omega (arith, a)) in
      let more : 2 ^ (p + k) < 2 ^ (p + k + 1) = pow-lt (omega arith) in
      let high : size (q * 2 ^ k) ≤ p + k + 1 =
      size-le (q * 2 ^ k) (p + k + 1) (omega (arith, a, more)) in
      let b : q * 2 ^ k ≡ 2 ^ (p - 1) * 2 ^ (k + 1) =
      a ∙ ap (λ z. 2 ^ z) {y = p - 1 + (k + 1)} (omega arith) ∙ pow-add 2 (p - 1) (k + 1) in
      (omega arith, ap (λ z. z / 2 ^ (k + 1)) b ∙ mul-div_cancel (2 ^ (p - 1)) (pow_pos (k + 1)))

  pub bits_are : without (size (q * 2 ^ k) - p) ≡ k * 2 ^ (p - 1) + q
  bits_are = go (ltb q (2 ^ p)) (ltb→lt q (2 ^ p)) (nltb→le q (2 ^ p))
    where
      go : (b : Bool) → (T b → q < 2 ^ p) → (T (not b) → 2 ^ p ≤ q)
          → without (size (q * 2 ^ k) - p) ≡ k * 2 ^ (p - 1) + q
      go true l m =
          let is = at_most (l tt) in
          ap without is.0 ∙ ap (λ z. 0 + k * 2 ^ (p - 1) + z) is.1 ∙ omega arith
      go false l m =
          let full : q ≡ 2 ^ p = omega (arith, m tt, few) in
          let is = one_more full in
          ap without is.0 ∙ ap (λ z. 0 + (k + 1) * 2 ^ (p - 1) + z) is.1
          ∙ omega (arith, full, two_of)

module _ (f : Format) (q k : ℕ) (few : q ≤ 2 ^ prec f) (many : 0 < k → hid f ≤ q) where
  abbrev bound : ℕ
  bound = 2 ^ (low f + suc (emax f))

  prec_pos : 0 < prec f
  prec_pos = omega (arith, two f)

  -- a scale below that of the infinity
  pub to_bits_is : k < 2 * emax f → to_bits f (units f false q k) ≡ k * hid f + q
  unfolding units
  to_bits_is h = go (ltb (q * 2 ^ k) bound) (ltb→lt (q * 2 ^ k) bound) (nltb→le (q * 2 ^ k) bound)
    where
      go : (b : Bool) → (T b → q * 2 ^ k < bound) → (T (not b) → bound ≤ q * 2 ^ k)
          → to_bits f (cond b (odd (suc (prec f)) false q k (low f)) (inf false))
          ≡ k * hid f + q
      go true l m =
          bits_of_value f (odd (suc (prec f)) false q k (low f)) false (q * 2 ^ k)
          (odd_sign (suc (prec f)) false q k (low f))
          ∙ bits_are (prec f) q k prec_pos few many
      go false l m = unfold to_bits in omega (arith, infinite (m tt))
        where
          infinite : bound ≤ q * 2 ^ k → ones f * hid f ≡ k * hid f + q
          infinite large =
              let most : q * 2 ^ k ≤ 2 ^ (prec f + k) =
              subst (λ z. q * 2 ^ k ≤ z) (sym (pow-add 2 (prec f) k))
              (mul-le-mul_right (2 ^ k) few) in
              let scale : 2 * emax f ≤ k + 1 =
              omega (
                arith,
                two f,
                below_pow (low f + suc (emax f)) (prec f + k) (le_trans large most),
              ) in
              let e : low f + suc (emax f) ≡ prec f + k = omega (arith, two f) in
              let full : 2 ^ prec f ≤ q =
              le_of_mul-le-mul_right {k = 2 ^ k}
              (subst (λ z. z ≤ q * 2 ^ k) (ap (λ z. 2 ^ z) e ∙ pow-add 2 (prec f) k) large)
              (pow_pos k) in
              let digits : ones f ≡ k + 2 = omega arith in
              let two : 2 ^ prec f ≡ hid f * 2 = two_of (prec f) q k prec_pos few many in
              ap (λ z. z * hid f) digits ∙ omega (arith, few, full, two)

  pub units_fit : T (fits f (units f false q k))
  unfolding units
  units_fit = go (ltb (q * 2 ^ k) bound) (ltb→lt (q * 2 ^ k) bound)
    where
      go : (b : Bool) → (T b → q * 2 ^ k < bound)
          → T (fits f (cond b (odd (suc (prec f)) false q k (low f)) (inf false)))
      go true l =
          let more : 2 ^ prec f < 2 ^ suc (prec f) = pow-lt (omega arith) in
          odd-fits f (suc (prec f)) false q k (omega (arith, few, more)) few (l tt)
      go false l = inf-fits f false

  pub of_bits_is : k < 2 * emax f → of_bits f (k * hid f + q) ≡ units f false q k
  of_bits_is h =
      ap (of_bits f) (sym (to_bits_is h)) ∙ of_bits-to_bits f (units f false q k) units_fit

  pub number_bits : k < 2 * emax f → T (not (nan_bits f (k * hid f + q)))
  number_bits h =
      subst (λ b. T (not b)) (sym (nan_bits_is f (k * hid f + q)))
      (subst (λ x. T (not (is_nan x))) (sym (of_bits_is h)) (units_number f false q k))

  -- the other scales
  pub infinite_from : 2 * emax f ≤ k → units f false q k ≡ inf false
  unfolding units
  infinite_from h = go (ltb (q * 2 ^ k) bound) (ltb→lt (q * 2 ^ k) bound)
    where
      large : bound ≤ q * 2 ^ k
      large =
          let some : 0 < emax f = emax_pos f in
          let e : low f + suc (emax f) ≤ prec f - 1 + k = omega (arith, two f) in
          le_trans (pow_mono e)
          (subst (λ z. z ≤ q * 2 ^ k) (sym (pow-add 2 (prec f - 1) k))
          (mul-le-mul_right (2 ^ k) (many (omega arith))))

      go : (b : Bool) → (T b → q * 2 ^ k < bound)
          → cond b (odd (suc (prec f)) false q k (low f)) (inf false) ≡ inf false
      go true l = absurd (omega (arith, l tt, large))
      go false l = refl

infinite_of : (f : Format) (q k : ℕ) → 2 ^ (low f + suc (emax f)) ≤ q * 2 ^ k
    → units f false q k ≡ inf false
unfolding units
infinite_of f q k large =
    go (ltb (q * 2 ^ k) (2 ^ (low f + suc (emax f))))
    (ltb→lt (q * 2 ^ k) (2 ^ (low f + suc (emax f))))
  where
    go : (b : Bool) → (T b → q * 2 ^ k < 2 ^ (low f + suc (emax f)))
        → cond b (odd (suc (prec f)) false q k (low f)) (inf false) ≡ inf false
    go true l = absurd (omega (arith, l tt, large))
    go false l = refl

-- a power of two, at the end of a scale and at the start of the next
module _ (f : Format) (k : ℕ) where
  abbrev end : ℕ
  end = 2 ^ (low f + suc (emax f))

  half : 2 ^ prec f ≡ 2 ^ (prec f - 1) * 2
  half =
      let e : prec f ≡ prec f - 1 + 1 = omega (arith, two f) in
      ap (λ z. 2 ^ z) e ∙ pow-add 2 (prec f - 1) 1

  same : 2 ^ prec f * 2 ^ k ≡ 2 ^ (prec f - 1) * 2 ^ (k + 1)
  same =
      let e : prec f + k ≡ prec f - 1 + (k + 1) = omega (arith, two f) in
      sym (pow-add 2 (prec f) k) ∙ ap (λ z. 2 ^ z) e ∙ pow-add 2 (prec f - 1) (k + 1)

  pub carried : units f false (2 ^ prec f) k ≡ units f false (2 ^ (prec f - 1)) (k + 1)
  carried =
      go (ltb (2 ^ prec f * 2 ^ k) end) (ltb→lt (2 ^ prec f * 2 ^ k) end)
      (nltb→le (2 ^ prec f * 2 ^ k) end)
    where
      go : (b : Bool) → (T b → 2 ^ prec f * 2 ^ k < end) → (T (not b) → end ≤ 2 ^ prec f * 2 ^ k)
          → units f false (2 ^ prec f) k ≡ units f false (2 ^ (prec f - 1)) (k + 1)
      go true l m =
          let few : prec f + k < low f + suc (emax f) =
          pow_below (prec f + k) (low f + suc (emax f))
          (subst (λ z. z < end) (sym (pow-add 2 (prec f) k)) (l tt)) in
          let next : (k + 1) * hid f ≡ k * hid f + hid f = grind arith in
          let e : k * hid f + 2 ^ prec f ≡ (k + 1) * hid f + 2 ^ (prec f - 1) =
          omega (arith, next, half) in
          sym (of_bits_is f (2 ^ prec f) k (omega arith) (λ _. omega (arith, half))
          (omega (arith, few, two f)))
          ∙ ap (of_bits f) e
          ∙ of_bits_is f (2 ^ (prec f - 1)) (k + 1) (omega (arith, half)) (λ _. omega arith)
          (omega (arith, few, two f))
      go false l m =
          infinite_of f (2 ^ prec f) k (m tt)
          ∙ sym (infinite_of f (2 ^ (prec f - 1)) (k + 1)
          (subst (λ z. end ≤ z) same (m tt)))
