-- The whole part of a number and whether a rest follows are enough to round it to fewer digits.
use Rattle.std.proofs.Common.{◌≡◌, ℕ, zero, suc, ◌+◌, ◌-◌, ◌*◌, ◌/◌, ◌%◌, ◌^◌, ◌<◌, ◌≤◌, Bool, true, false, T, ltb, refl, sym, ap, subst, ◌∙◌, arith, mul-le-mul_right}
use Prim.Native.Nat.{compare}
use mathlib.Core.Bool.{not}
use native.Mathlib.Nat.{lt_of_mul-lt-mul_right, le_of_mul-le-mul_right, lt_of_lt_of_le, le_trans, mul-pos, div-add-mod', div-eq_of_lt-le, div-eq_of_lt, mod-eq_of_lt, mod-lt, le-div_iff_mul-le, div-lt_iff_lt-mul}
use lib.Dec.{ltb→lt, nltb→le}
use lib.Pow.{pow-add, pow_pos, pow_mono}
use lib.Ieee.{Format, prec, low, size, units, nearest, round}
use lib.Ieee.Digits.{size-le}
use lib.Ieee.Fits.{round_is}
use lib.Ieee.Nearest.{closest, closest_same}
use Rattle.digit_floats.specs.Binary.{IsWholePart, sticky_bit, shifted}
use Rattle.digit_floats.proofs.CutOff.{compare_lt, compare_eq, compare_gt}
use Rattle.digit_floats.proofs.Units.{size-gt}

module _ (a b v : ℕ) (more : Bool) (is : IsWholePart a b v more) (p : ℕ) (P : 0 < p) where
  b_pos : 0 < b
  b_pos = go b is.most
    where
      go : (b : ℕ) → a < (v + 1) * b → 0 < b
      go zero h = absurd (omega (arith, h))
      go (suc b) h = omega arith

  abbrev q : ℕ
  q = v / (p * 2)

  abbrev r : ℕ
  r = v % (p * 2)

  parts : q * (p * 2) + r ≡ v
  parts = div-add-mod' v (p * 2)

  low_v : q * (b * (p * 2)) + r * b ≡ v * b
  low_v =
      let e : q * (b * (p * 2)) + r * b ≡ (q * (p * 2) + r) * b = grind arith in
      e ∙ ap (λ x. x * b) parts

  whole : a / (b * (p * 2)) ≡ q
  whole =
      let less : r < p * 2 = mod-lt v (mul-pos P (omega arith)) in
      let l : (r + 1) * b ≤ p * 2 * b = mul-le-mul_right b (omega (arith, less)) in
      let e : (q + 1) * (b * (p * 2)) ≡ q * (b * (p * 2)) + p * 2 * b = grind arith in
      let f : (v + 1) * b ≡ v * b + b = grind arith in
      let g : (r + 1) * b ≡ r * b + b = grind arith in
      div-eq_of_lt-le (b * (p * 2)) (omega (arith, low_v, is.least))
      (omega (arith, low_v, is.most, l, e, f, g))

  rest : IsWholePart (a % (b * (p * 2))) b r more
  rest =
      let cut : q * (b * (p * 2)) + a % (b * (p * 2)) ≡ a =
      subst (λ x. x * (b * (p * 2)) + a % (b * (p * 2)) ≡ a) whole (div-add-mod' a (b * (p * 2))) in
      let f : (v + 1) * b ≡ v * b + b = grind arith in
      let g : (r + 1) * b ≡ r * b + b = grind arith in
      record {
        least = omega (arith, low_v, cut, is.least);
        most = omega (arith, low_v, cut, is.most, f, g);
        same = λ e. omega (arith, low_v, cut, is.same e);
        above = λ e. omega (arith, low_v, cut, is.above e);
      }

  compares : (x y : ℕ) → IsWholePart x b y more
      → compare (x * 2) (b * (p * 2)) ≡ compare (y * 2 + sticky_bit more) (p * 2)
  compares x y is =
      go more is.same is.above (ltb y p) (ltb→lt y p) (nltb→le y p) (ltb p y) (ltb→lt p y)
      (nltb→le p y)
    where
      twice : b * (p * 2) ≡ p * b * 2
      twice = grind arith

      next : (n : ℕ) → (n + 1) * b ≡ n * b + b
      next n = grind arith

      go : (more : Bool) → (more ≡ false → x ≡ y * b) → (more ≡ true → y * b < x)
          → (s : Bool) → (T s → y < p) → (T (not s) → p ≤ y)
          → (t : Bool) → (T t → p < y) → (T (not t) → y ≤ p)
          → compare (x * 2) (b * (p * 2)) ≡ compare (y * 2 + sticky_bit more) (p * 2)
      go more same above true l m t j k =
          let less : (y + 1) * b ≤ p * b = mul-le-mul_right b (omega (arith, l tt)) in
          compare_lt (x * 2) (b * (p * 2)) (omega (arith, is.most, less, twice))
          ∙ sym (compare_lt (y * 2 + sticky_bit more) (p * 2) (small more (l tt)))
        where
          small : (more : Bool) → y < p → y * 2 + sticky_bit more < p * 2
          small true h = omega arith
          small false h = omega arith
      go more same above false l m true j k =
          let large : (p + 1) * b ≤ y * b = mul-le-mul_right b (omega (arith, j tt)) in
          compare_gt (x * 2) (b * (p * 2))
          (omega (arith, is.least, large, next p, twice, b_pos))
          ∙ sym (compare_gt (y * 2 + sticky_bit more) (p * 2) (omega (arith, j tt)))
      go true same above false l m false j k =
          let e : y ≡ p = omega (arith, m tt, k tt) in
          let f : y * b ≡ p * b = ap (λ z. z * b) e in
          compare_gt (x * 2) (b * (p * 2)) (omega (arith, above refl, f, twice))
          ∙ sym (compare_gt (y * 2 + 1) (p * 2) (omega (arith, e)))
      go false same above false l m false j k =
          let e : y ≡ p = omega (arith, m tt, k tt) in
          let f : y * b ≡ p * b = ap (λ z. z * b) e in
          compare_eq (x * 2) (b * (p * 2)) (omega (arith, same refl, f, twice))
          ∙ sym (compare_eq (y * 2 + 0) (p * 2) (omega (arith, e)))

  closest_is : closest a (b * (p * 2))
      ≡ nearest q (compare (r * 2 + sticky_bit more) (p * 2))
  closest_is =
      ap (λ z. nearest z (compare (a % (b * (p * 2)) * 2) (b * (p * 2)))) whole
      ∙ ap (λ o. nearest q o) (compares (a % (b * (p * 2))) r rest)

-- v has w binary digits; in units of 2 ^ k it has those that a float has, or less
module _ (f : Format) (s : Bool) (num den v : ℕ) (more : Bool) (i j k t w : ℕ) (D : 0 < den)
    (is : IsWholePart (num * 2 ^ low f * 2 ^ j) (2 ^ i * den) v more)
    (W : 0 < w) (first : 2 ^ (w - 1) ≤ v) (few : v < 2 ^ w)
    (scale : k ≡ w + i - (j + prec f)) (shift : k + j ≡ i + t) (some : 0 < t) where
  abbrev n : ℕ
  n = num * 2 ^ low f

  dropped : size (n / den) - prec f ≡ k
  dropped =
      let high : n < 2 ^ (k + prec f) * den =
      lt_of_mul-lt-mul_right (2 ^ j)
      (lt_of_lt_of_le is.most
      (le_trans (mul-le-mul_right (2 ^ i * den) (few_at v few)) (below (omega arith)))) in
      let most : size (n / den) ≤ k + prec f =
      size-le (n / den) (k + prec f) ((div-lt_iff_lt-mul D).1 high) in
      by k scale most
    where
      few_at : (v : ℕ) → v < 2 ^ w → v + 1 ≤ 2 ^ w
      few_at v h = omega (arith, h)

      flat : (m : ℕ) → 2 ^ m * (2 ^ i * den) ≡ 2 ^ (m + i) * den
      flat m = rw (pow-add 2 m i) (grind arith)

      turn : (m : ℕ) → 2 ^ m * den * 2 ^ j ≡ 2 ^ (m + j) * den
      turn m = rw (pow-add 2 m j) (grind arith)

      below : w + i ≤ k + prec f + j → 2 ^ w * (2 ^ i * den) ≤ 2 ^ (k + prec f) * den * 2 ^ j
      below h = rw (flat w, turn (k + prec f)) (mul-le-mul_right den (pow_mono h))

      above : (m : ℕ) → m + j ≤ w - 1 + i → 2 ^ m * den ≤ n
      above m h =
          le_of_mul-le-mul_right {k = 2 ^ j}
          (le_trans (subst (λ z. z ≤ 2 ^ (w - 1) * (2 ^ i * den)) (sym (turn m))
          (subst (λ z. 2 ^ (m + j) * den ≤ z) (sym (flat (w - 1)))
          (mul-le-mul_right den (pow_mono h))))
          (le_trans (mul-le-mul_right (2 ^ i * den) first) is.least)) (pow_pos j)

      by : (k : ℕ) → k ≡ w + i - (j + prec f) → size (n / den) ≤ k + prec f
          → size (n / den) - prec f ≡ k
      by zero e most = omega arith
      by (suc k) e most =
          let least : k + prec f < size (n / den) =
          size-gt (n / den) (k + prec f)
          ((le-div_iff_mul-le D).1 (above (k + prec f) (omega arith))) in
          omega arith

  half : 2 ^ t ≡ 2 ^ (t - 1) * 2
  half = let e : t ≡ t - 1 + 1 = omega arith in ap (λ z. 2 ^ z) e ∙ pow-add 2 (t - 1) 1

  scaled : n * (2 ^ i * den * 2 ^ t) ≡ n * 2 ^ j * (den * 2 ^ k)
  scaled =
      let e : 2 ^ k * 2 ^ j ≡ 2 ^ i * 2 ^ t =
      sym (pow-add 2 k j) ∙ ap (λ z. 2 ^ z) shift ∙ pow-add 2 i t in
      let l : n * (2 ^ i * den * 2 ^ t) ≡ n * den * (2 ^ i * 2 ^ t) = grind arith in
      let m : n * 2 ^ j * (den * 2 ^ k) ≡ n * den * (2 ^ k * 2 ^ j) = grind arith in
      l ∙ ap (λ z. n * den * z) (sym e) ∙ sym m

  kept_is : closest n (den * 2 ^ k) ≡ shifted v t more
  kept_is =
      closest_same n (den * 2 ^ k) (n * 2 ^ j) (2 ^ i * den * 2 ^ t) (mul-pos D (pow_pos k))
      (mul-pos (mul-pos (pow_pos i) D) (pow_pos t)) scaled
      ∙ subst (λ z. closest (n * 2 ^ j) (2 ^ i * den * z)
      ≡ nearest (v / z) (compare (v % z * 2 + sticky_bit more) z)) (sym half)
      (closest_is (n * 2 ^ j) (2 ^ i * den) v more is (2 ^ (t - 1)) (pow_pos (t - 1)))

  pub rounds : units f s (shifted v t more) k ≡ round f s num den
  rounds =
      sym (round_is f s num den
      ∙ ap (λ z. units f s (closest n (den * 2 ^ z)) z) dropped
      ∙ ap (λ z. units f s z k) kept_is)

-- so many digits are left
module _ (p v i j k t w : ℕ) (P : 0 < p) (first : 2 ^ (w - 1) ≤ v) (few : v < 2 ^ w)
    (scale : k ≡ w + i - (j + p)) (shift : k + j ≡ i + t) where
  pub left_few : v / 2 ^ t < 2 ^ p
  left_few =
      (div-lt_iff_lt-mul (pow_pos t)).1
      (lt_of_lt_of_le few (subst (λ z. 2 ^ w ≤ z) (pow-add 2 p t) (pow_mono (omega arith))))

  pub left_many : 0 < k → 2 ^ (p - 1) ≤ v / 2 ^ t
  left_many h =
      (le-div_iff_mul-le (pow_pos t)).1
      (le_trans (subst (λ z. z ≤ 2 ^ (w - 1)) (pow-add 2 (p - 1) t) (pow_mono (omega arith))) first)

-- none is left
pub none_left : (v t : ℕ) → v < 2 ^ 119 → 120 ≤ t → v / 2 ^ t ≡ 0
none_left v t few far =
    let large : 2 ^ 120 ≤ 2 ^ t = pow_mono far in div-eq_of_lt (omega (arith, few, large))

pub shifted_out : (v t : ℕ) (more : Bool) → v < 2 ^ 119 → 120 ≤ t → shifted v t more ≡ 0
shifted_out v t more few far =
    let large : 2 ^ 120 ≤ 2 ^ t = pow_mono far in
    let q : v / 2 ^ t ≡ 0 = none_left v t few far in
    let r : v % 2 ^ t ≡ v = mod-eq_of_lt (omega (arith, few, large)) in
    let below : v * 2 + sticky_bit more < 2 ^ t = small more (omega (arith, few, large)) in
    (λ i. nearest (q i) (compare (r i * 2 + sticky_bit more) (2 ^ t)))
    ∙ ap (λ o. nearest 0 o) (compare_lt (v * 2 + sticky_bit more) (2 ^ t) below)
  where
    small : (more : Bool) → v * 2 + 1 < 2 ^ t → v * 2 + sticky_bit more < 2 ^ t
    small true h = h
    small false h = omega (arith, h)
