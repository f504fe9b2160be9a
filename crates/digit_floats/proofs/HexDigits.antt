-- The first hexadecimal digits of a number, and the power of two after them.
use Rattle.std.proofs.Common.{◌≡◌, ℕ, zero, suc, ◌+◌, ◌*◌, ◌^◌, ◌<◌, ◌≤◌, Bool, true, false, T, ltb, List, ◌++◌, true≢false, refl, sym, ap, subst, ◌∙◌, arith, mul-le-mul_right}
use native.Mathlib.Nat.{mul-lt-mul_of_pos_right, mul-pos, pow-suc}
use Rattle.std.specs.Prelude.{min}
use Rattle.std.specs.Str.Parse.{digits_value, digits_value_after}
use mathlib.Core.Bool.{not}
use lib.Dec.{ltb→lt, nltb→le}
use lib.Pow.{pow-add, pow_pos, pow_mono}
use lib.Ieee.{Format, binary32, binary64, low, emax, units, round}
use lib.Ieee.Scale.{round_same}
use Rattle.digit_values.proofs.ForCallers.{value_of_both}
use Rattle.digit_floats.specs.Binary.{IsWholePart}
use Rattle.digit_floats.specs.declared.hexadecimal.HexKept.{HexKept}
use Rattle.digit_floats.specs.Hexadecimal.{IsHexKept}
use Rattle.digit_floats.proofs.CutOff.{round_within}
use Rattle.digit_floats.proofs.Huge.{round_huge, emax_below, low_below}

-- ---- one digit more

module _ (number value cut : ℕ) (more : Bool) (is : IsWholePart number (16 ^ cut) value more) where
  times : (v : ℕ) → v * 16 ^ (cut + 1) ≡ v * 16 ^ cut * 16
  times v = rw (pow-add 16 cut 1) (grind arith)

  cut_zero : IsWholePart (number * 16 + 0) (16 ^ (cut + 1)) value more
  cut_zero = record {
    least = omega (arith, times value, is.least);
    most = omega (arith, times (value + 1), is.most);
    same = λ e. omega (arith, times value, is.same e);
    above = λ e. omega (arith, times value, is.above e);
  }

  cut_other : (d : ℕ) → 0 < d → d < 16 → IsWholePart (number * 16 + d) (16 ^ (cut + 1)) value true
  cut_other d some few = record {
    least = omega (arith, times value, is.least);
    most = omega (arith, times (value + 1), is.most);
    same = λ e. absurd (true≢false e);
    above = λ e. omega (arith, times value, is.least);
  }

-- where no digit is cut, the number is its value
pub uncut : (number value : ℕ) (more : Bool) → IsWholePart number 1 value more
    → (number ≡ value) × (more ≡ false)
uncut number value true is = absurd (omega (arith, is.above refl, is.most))
uncut number value false is = (omega (arith, is.same refl), refl)

module _ (kept : HexKept) (number d : ℕ) (is : IsHexKept kept number) where
  pub none_is : kept.value ≡ 0 → number ≡ 0
  none_is e = by kept.cut is.is is.full
    where
      by : (cut : ℕ) → IsWholePart number (16 ^ cut) kept.value kept.more
          → (0 < cut → 2 ^ 60 ≤ kept.value) → number ≡ 0
      by zero whole full = (uncut number kept.value kept.more whole).0 ∙ e
      by (suc cut) whole full = absurd (omega (arith, full (omega arith), e))

  pub kept_zero : kept.cut + 1 < 2 ^ 64 → 2 ^ 60 ≤ kept.value → d ≡ 0
      → IsHexKept (record { value = kept.value; cut = kept.cut + 1; more = kept.more })
      (number * 16 + d)
  kept_zero few large e =
      rw e (record { is = cut_zero _ _ _ _ is.is; fits = is.fits; few = few; full = λ _. large })

  pub kept_other : kept.cut + 1 < 2 ^ 64 → 2 ^ 60 ≤ kept.value → 0 < d → d < 16
      → IsHexKept (record { value = kept.value; cut = kept.cut + 1; more = true })
      (number * 16 + d)
  kept_other short large some few = record {
    is = cut_other _ _ _ _ is.is d some few;
    fits = is.fits;
    few = short;
    full = λ _. large;
  }

  pub kept_one : kept.value < 2 ^ 60 → d < 16
      → IsHexKept (record { value = kept.value * 16 + d; cut = kept.cut; more = kept.more })
      (number * 16 + d)
  kept_one small few = by kept.cut kept.more is.is is.full
    where
      by : (cut : ℕ) (more : Bool) → IsWholePart number (16 ^ cut) kept.value more
          → (0 < cut → 2 ^ 60 ≤ kept.value)
          → IsHexKept (record { value = kept.value * 16 + d; cut = cut; more = more })
          (number * 16 + d)
      by zero more whole full =
          let same = uncut number kept.value more whole in
          record {
            is = record {
              least = omega (arith, same.0);
              most = omega (arith, same.0);
              same = λ e. omega (arith, same.0);
              above = λ e. absurd (true≢false (sym e ∙ same.1));
            };
            fits = omega arith;
            few = omega arith;
            full = λ h. absurd (omega (arith, h));
          }
      by (suc cut) more whole full = absurd (omega (arith, full (omega arith), small))

-- two texts, one after the other
none_kept : IsHexKept (record { value = 0; cut = 0; more = false }) 0
none_kept = record {
  is = record {
    least = omega arith;
    most = omega arith;
    same = λ _. refl;
    above = λ e. absurd (true≢false (sym e));
  };
  fits = omega arith;
  few = omega arith;
  full = λ h. absurd (omega (arith, h));
}

pub kept_both : (first second : HexKept) (ds es : List ℕ)
    → ((n : ℕ) → IsHexKept (record { value = 0; cut = 0; more = false }) n
    → IsHexKept first (digits_value_after 16 n ds))
    → ((n : ℕ) → IsHexKept first n → IsHexKept second (digits_value_after 16 n es))
    → IsHexKept second (digits_value 16 (ds ++ es))
kept_both first second ds es f g = rw (← value_of_both 16 ds es) (g _ (f 0 none_kept))

-- ---- powers

pub sixteen : (n : ℕ) → 16 ^ n ≡ 2 ^ (4 * n)
sixteen zero = refl
sixteen (suc n) =
    let e : 4 * suc n ≡ 4 * n + 4 = omega arith in
    pow-suc 16 n ∙ ap (λ z. z * 16) (sixteen n)
    ∙ sym (ap (λ z. 2 ^ z) e ∙ pow-add 2 (4 * n) 4)

-- the whole part of equal fractions
scaled : (a b v c : ℕ) (more : Bool) → 0 < c → IsWholePart a b v more
    → IsWholePart (a * c) (b * c) v more
scaled a b v c more C is =
    let e : (n : ℕ) → n * (b * c) ≡ n * b * c = λ n. grind arith in
    record {
      least = rw (e v) (mul-le-mul_right c is.least);
      most = rw (e (v + 1)) (mul-lt-mul_of_pos_right is.most C);
      same = λ h. rw (e v) (ap (λ z. z * c) (is.same h));
      above = λ h. rw (e v) (mul-lt-mul_of_pos_right (is.above h) C);
    }

module _ (number value cut l up below : ℕ) (more : Bool)
    (is : IsWholePart number (16 ^ cut) value more) where
  abbrev c : ℕ
  c = 2 ^ up * 2 ^ l * 2 ^ below

  places_are : 2 ^ (l + 4 * cut + up) * 2 ^ below ≡ 16 ^ cut * c
  places_are =
      rw (pow-add 2 (l + 4 * cut) up, pow-add 2 l (4 * cut), sixteen cut) (grind arith)

  pub in_units : IsWholePart (number * 2 ^ up * 2 ^ l * 2 ^ below)
      (2 ^ (l + 4 * cut + up) * 2 ^ below) value more
  in_units =
      let e : number * 2 ^ up * 2 ^ l * 2 ^ below ≡ number * c = grind arith in
      rw (e, places_are)
      (scaled number (16 ^ cut) value c more
      (mul-pos (mul-pos (pow_pos up) (pow_pos l)) (pow_pos below)) is)

-- where no digit is cut, with 53 zeros more
pub in_smaller_units : (number value cut l up below : ℕ) (more : Bool) → cut ≡ 0
    → IsWholePart number (16 ^ cut) value more
    → IsWholePart (number * 2 ^ up * 2 ^ l * 2 ^ (below + 53))
    (2 ^ (l + 4 * cut + up) * 2 ^ below) (value * 2 ^ 53) false
in_smaller_units number value (suc cut) l up below more e is = absurd (omega (arith, e))
in_smaller_units number value zero l up below more e is =
    let same = uncut number value more is in
    let whole = in_units number value 0 l up below more is in
    let e : number * 2 ^ up * 2 ^ l * 2 ^ (below + 53)
    ≡ number * 2 ^ up * 2 ^ l * 2 ^ below * 2 ^ 53 =
    rw (pow-add 2 below 53) (grind arith) in
    let b : ℕ = 2 ^ (l + 4 * 0 + up) * 2 ^ below in
    let B : 0 < b = mul-pos (pow_pos (l + 4 * 0 + up)) (pow_pos below) in
    let f : number * 2 ^ up * 2 ^ l * 2 ^ (below + 53) ≡ value * 2 ^ 53 * b =
    e ∙ ap (λ z. z * 2 ^ 53) (whole.same same.1) ∙ grind arith in
    let g : (value * 2 ^ 53 + 1) * b ≡ value * 2 ^ 53 * b + b = grind arith in
    record {
      least = omega (arith, f);
      most = omega (arith, f, g, B);
      same = λ _. f;
      above = λ h. absurd (true≢false (sym h));
    }

-- ---- a zero

first_zero : (f : Format) → round f false 0 1 ≡ units f false 0 0
unfolding round
first_zero binary32 = refl
first_zero binary64 = refl

pub zero_is : (f : Format) (number a b : ℕ) → number ≡ 0 → 0 < b
    → units f false 0 0 ≡ round f false (number * a) b
zero_is f number a b e B =
    sym (first_zero f)
    ∙ round_same f false 0 1 (number * a) b (omega arith) B (rw e (omega arith))

-- ---- a power above 2 ^ 70 is as good as 2 ^ 70

module _ (f : Format) (number few places n m : ℕ) (some : 0 < number)
    (small : number < 2 ^ few) where
  pub both_huge : 1024 + places ≤ n → 1024 + places ≤ m
      → round f false (number * 2 ^ n) (2 ^ places) ≡ round f false (number * 2 ^ m) (2 ^ places)
  both_huge a b = huge n a ∙ sym (huge m b)
    where
      huge : (n : ℕ) → 1024 + places ≤ n
          → round f false (number * 2 ^ n) (2 ^ places) ≡ lib.Ieee.inf false
      huge n h =
          let l : suc (emax f) + places ≤ n = omega (arith, emax_below f, h) in
          let p : 2 ^ suc (emax f) * 2 ^ places ≤ 2 ^ n =
          subst (λ z. z ≤ 2 ^ n) (pow-add 2 (suc (emax f)) places) (pow_mono l) in
          let q : 1 * 2 ^ n ≤ number * 2 ^ n = mul-le-mul_right (2 ^ n) some in
          round_huge f (number * 2 ^ n) (2 ^ places) (pow_pos places) (omega (arith, p, q))

  pub both_tiny : 1075 + few ≤ n → 1075 + few ≤ m
      → round f false (number * 2 ^ 0) (2 ^ (places + n))
      ≡ round f false (number * 2 ^ 0) (2 ^ (places + m))
  both_tiny a b =
      round_within f false 1 0 (omega arith) (number * 2 ^ 0) (2 ^ (places + n)) (number * 2 ^ 0)
      (2 ^ (places + m)) (pow_pos (places + n)) (pow_pos (places + m)) (above _) (below n a)
      (above _) (below m b)
    where
      above : (b : ℕ) → 0 * b < number * 2 ^ 0 * (2 ^ (low f + 1) * 1)
      above b = omega (arith, mul-pos some (pow_pos (low f + 1)))

      below : (n : ℕ) → 1075 + few ≤ n
          → number * 2 ^ 0 * (2 ^ (low f + 1) * 1) < (0 + 1) * 2 ^ (places + n)
      below n h =
          let p : number * 2 ^ (low f + 1) < 2 ^ few * 2 ^ (low f + 1) =
          mul-lt-mul_of_pos_right small (pow_pos (low f + 1)) in
          let q : 2 ^ (few + (low f + 1)) ≤ 2 ^ (places + n) =
          pow_mono (omega (arith, low_below f, h)) in
          omega (arith, p, q, pow-add 2 few (low f + 1))

-- a kept number has so many binary digits at most
pub small_number : (kept : HexKept) (number : ℕ) → IsHexKept kept number
    → number < 2 ^ (64 + 4 * kept.cut)
small_number kept number is =
    let e : 2 ^ (64 + 4 * kept.cut) ≡ 2 ^ 64 * 16 ^ kept.cut =
    pow-add 2 64 (4 * kept.cut) ∙ ap (λ z. 2 ^ 64 * z) (sym (sixteen kept.cut)) in
    let l : (kept.value + 1) * 16 ^ kept.cut ≤ 2 ^ 64 * 16 ^ kept.cut =
    mul-le-mul_right (16 ^ kept.cut) (omega (arith, is.fits)) in
    omega (arith, e, l, is.is.most)

module _ (f : Format) (few places n m : ℕ) (long : few < 2 ^ 69) (wide : places < 2 ^ 69)
    (cap : m ≡ min n (2 ^ 70)) where
  pub up_capped : (number : ℕ) → number < 2 ^ few
      → round f false (number * 2 ^ m) (2 ^ places) ≡ round f false (number * 2 ^ n) (2 ^ places)
  up_capped zero small =
      sym (zero_is f 0 (2 ^ m) (2 ^ places) refl (pow_pos places))
      ∙ zero_is f 0 (2 ^ n) (2 ^ places) refl (pow_pos places)
  up_capped (suc number) small = go (ltb n (2 ^ 70)) (ltb→lt n (2 ^ 70)) (nltb→le n (2 ^ 70))
    where
      go : (b : Bool) → (T b → n < 2 ^ 70) → (T (not b) → 2 ^ 70 ≤ n)
          → round f false (suc number * 2 ^ m) (2 ^ places)
          ≡ round f false (suc number * 2 ^ n) (2 ^ places)
      go true l h =
          let e : m ≡ n = omega (arith, cap, l tt) in
          ap (λ z. round f false (suc number * 2 ^ z) (2 ^ places)) e
      go false l h =
          both_huge f (suc number) few places m n (omega arith) small
          (omega (arith, cap, h tt, wide)) (omega (arith, h tt, wide))

  pub down_capped : (number : ℕ) → number < 2 ^ few
      → round f false (number * 2 ^ 0) (2 ^ (places + m))
      ≡ round f false (number * 2 ^ 0) (2 ^ (places + n))
  down_capped zero small =
      sym (zero_is f 0 (2 ^ 0) (2 ^ (places + m)) refl (pow_pos (places + m)))
      ∙ zero_is f 0 (2 ^ 0) (2 ^ (places + n)) refl (pow_pos (places + n))
  down_capped (suc number) small = go (ltb n (2 ^ 70)) (ltb→lt n (2 ^ 70)) (nltb→le n (2 ^ 70))
    where
      go : (b : Bool) → (T b → n < 2 ^ 70) → (T (not b) → 2 ^ 70 ≤ n)
          → round f false (suc number * 2 ^ 0) (2 ^ (places + m))
          ≡ round f false (suc number * 2 ^ 0) (2 ^ (places + n))
      go true l h =
          let e : m ≡ n = omega (arith, cap, l tt) in
          ap (λ z. round f false (suc number * 2 ^ 0) (2 ^ (places + z))) e
      go false l h =
          both_tiny f (suc number) few places m n (omega arith) small
          (omega (arith, cap, h tt, long)) (omega (arith, h tt, long))
