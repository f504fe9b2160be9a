-- Sums of numbers of 64 bits, and the totals of the numbers before them.
use Rattle.std.proofs.Common.{◌≡◌, ℕ, ℤ, zero, suc, ◌+◌, ◌*◌, ◌^◌, ◌-◌, ◌≤◌, ◌+ℤ◌, ◌==◌, true, false, refl, ◌∙◌, ap, arith, negsuc, neg_ℤ, ◌≤ℤ◌, FitsSigned, pos}
use Rattle.std.specs.Int.{int_min, int_max}
use Rattle.std.proofs.lemmas.Int.{ints, int_min_is, int_max_is}
use Rattle.std.proofs.lemmas.Bool.Decides.{nat_tests}
use mir.Syntax.{w64}
use Rattle.digit_totals.specs.declared.totals.Sums.{Sums}
use Rattle.digit_totals.specs.declared.totals.Totals.{Totals}
use Rattle.digit_totals.specs.Sums.{IsFar, IsNear, no_sums, with_one, joined}
use Rattle.digit_totals.specs.Totals.{plus, has_128_bits}

pub totals_same : (t u : Totals) → t.count ≡ u.count → t.sum ≡ u.sum → t.least ≡ u.least
    → t.greatest ≡ u.greatest → t ≡ u
totals_same t u p q r s =
    ap (λ (n : ℕ). record t { count = n }) p
    ∙ ap (λ (n : ℤ). record t { count = u.count; sum = n }) q
    ∙ ap (λ (n : ℤ). record t { count = u.count; sum = u.sum; least = n }) r
    ∙ ap (λ (n : ℤ). record t { count = u.count; sum = u.sum; least = u.least; greatest = n }) s

pub sums_same : (s r : Sums) → s.count ≡ r.count → s.sum ≡ r.sum → s.least ≡ r.least
    → s.greatest ≡ r.greatest → s ≡ r
sums_same s r p q l g =
    ap (λ (n : ℕ). record s { count = n }) p
    ∙ ap (λ (n : ℤ). record s { count = r.count; sum = n }) q
    ∙ ap (λ (n : ℤ). record s { count = r.count; sum = r.sum; least = n }) l
    ∙ ap (λ (n : ℤ). record s { count = r.count; sum = r.sum; least = r.least; greatest = n }) g

in_range : (z : ℤ) → neg_ℤ (pos (2 ^ 127 - 1)) ≤ℤ z → z ≤ℤ pos (2 ^ 127 - 1)
    → has_128_bits z ≡ true
in_range (pos n) l h = grind (arith, nat_tests, ints, l, h)
in_range (negsuc n) l h = grind (arith, nat_tests, ints, l, h)

-- a sum that isn't far from 0, and a number of 64 bits
pub between_fits : (sum x : ℤ) (i : ℕ) → neg_ℤ (pos (2 ^ 126 + i * 2 ^ 63)) ≤ℤ sum
    → sum ≤ℤ pos (2 ^ 126 + i * 2 ^ 63) → FitsSigned w64 x → i ≤ 65536
    → has_128_bits (sum +ℤ x) ≡ true
between_fits sum x i low high fits few =
    in_range (sum +ℤ x) (omega (arith, ints, low, high, fits.sfits, few))
    (omega (arith, ints, low, high, fits.sfits, few))

pub far_fits : (t : Totals) (s : Sums) → IsFar t → IsNear s.count s.sum → s.count ≤ 65536
    → has_128_bits (t.sum +ℤ s.sum) ≡ true
far_fits t s far near few =
    in_range (t.sum +ℤ s.sum) (omega (arith, ints, far.0, near.0, few))
    (omega (arith, ints, far.1, near.1, few))

-- of some numbers
pub some_joined : (t : Totals) (s : Sums) → (s.count ≡ 0 → ⊥)
    → record {
      count = t.count + s.count;
      sum = t.sum +ℤ s.sum;
      least = int_min t.least s.least;
      greatest = int_max t.greatest s.greatest;
    } ≡ joined t s
some_joined t s some =
    let test : (s.count == 0) ≡ false = grind (arith, nat_tests, some) in rw test refl

-- of one number
least_one : (x : ℤ) → FitsSigned w64 x → int_min (pos (2 ^ 63 - 1)) x ≡ x
least_one (pos n) fits = grind (arith, nat_tests, ints, fits.sfits)
least_one (negsuc n) fits = grind (arith, nat_tests, ints, fits.sfits)

greatest_one : (x : ℤ) → FitsSigned w64 x → int_max (negsuc (2 ^ 63 - 1)) x ≡ x
greatest_one (pos n) fits = grind (arith, nat_tests, ints, fits.sfits)
greatest_one (negsuc n) fits = grind (arith, nat_tests, ints, fits.sfits)

least_of_both : (a b c : ℤ) → int_min (int_min a b) c ≡ int_min a (int_min b c)
least_of_both a b c =
    omega (
      arith,
      ints,
      int_min_is a b,
      int_min_is (int_min a b) c,
      int_min_is b c,
      int_min_is a (int_min b c),
    )

greatest_of_both : (a b c : ℤ) → int_max (int_max a b) c ≡ int_max a (int_max b c)
greatest_of_both a b c =
    omega (
      arith,
      ints,
      int_max_is a b,
      int_max_is (int_max a b) c,
      int_max_is b c,
      int_max_is a (int_max b c),
    )

module _ (t : Totals) (s : Sums) (x : ℤ) (fits : FitsSigned w64 x)
    (empty : s.count ≡ 0 → s ≡ no_sums) where
  -- the totals after some numbers, and one more
  pub one_joined : plus (joined t s) x ≡ joined t (with_one s x)
  one_joined = by_count s.count refl
    where
      by_count : (n : ℕ) → s.count ≡ n → plus (joined t s) x ≡ joined t (with_one s x)
      by_count zero e =
          let none = empty e in
          let sum : pos 0 +ℤ x ≡ x = omega (arith, ints) in
          let least = least_one x fits in
          let greatest = greatest_one x fits in
          rw none (rw (sum, least, greatest) refl)
      by_count (suc n) e =
          let some : (s.count == 0) ≡ false = grind (arith, nat_tests, e) in
          let more : (s.count + 1 == 0) ≡ false = grind (arith, nat_tests) in
          let sum : t.sum +ℤ s.sum +ℤ x ≡ t.sum +ℤ (s.sum +ℤ x) = omega (arith, ints) in
          rw (some, more) (totals_same _ _ (omega arith) sum (least_of_both t.least s.least x)
          (greatest_of_both t.greatest s.greatest x))

  sum_is : (joined t s).sum ≡ t.sum +ℤ s.sum
  sum_is = by_count s.count refl
    where
      by_count : (n : ℕ) → s.count ≡ n → (joined t s).sum ≡ t.sum +ℤ s.sum
      by_count zero e =
          let none = empty e in rw none (omega (arith, ints))
      by_count (suc n) e =
          let some : (s.count == 0) ≡ false = grind (arith, nat_tests, e) in rw some refl

  pub sum_fits : IsFar t → IsNear s.count s.sum → s.count ≤ 65536
      → has_128_bits ((joined t s).sum +ℤ x) ≡ true
  sum_fits far near few =
      rw sum_is (between_fits (t.sum +ℤ s.sum) x s.count
      (omega (arith, ints, far.0, near.0)) (omega (arith, ints, far.1, near.1)) fits few)
