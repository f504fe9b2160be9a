-- Two numbers between the same two neighbours of a grid that is fine enough round alike.
use Rattle.std.proofs.Common.{◌≡◌, ℕ, ◌+◌, ◌-◌, ◌*◌, ◌/◌, ◌%◌, ◌^◌, ◌<◌, ◌≤◌, Bool, true, false, cond, refl, sym, ap, subst, ◌∙◌, arith}
use Prim.Native.Nat.{compare, Ordering}
use mathlib.Core.Bool.{not}
use lib.Dec.{T, is_le, compare_is_eq, ltb, ltb→lt, nltb→le, leb→le, nleb→lt, eqb→eq, eqb_refl}
use lib.Pow.{pow_pos, pow-add}
use native.Mathlib.Nat.{mul_comm, mul-le-mul_right, mul-pos, lt_of_mul-lt-mul_right, div-add-mod', div-eq_of_lt-le, mod-lt}
use lib.Ieee.{Float, Format, prec, low, size, units, nearest, round}
use lib.Ieee.Fits.{round_is}

-- twice a / b is above h and below h + 1
pub record IsBetweenHalves (a b h : ℕ) : Type 0 where
  pub above : h * b < 2 * a
  pub below : 2 * a < (h + 1) * b

pub compare_lt : (a b : ℕ) → a < b → compare a b ≡ Ordering.lt
compare_lt a b h = go (compare a b) (nleb→lt a b) (eqb→eq a b)
  where
    go : (o : Ordering) → (T (not (is_le o)) → b < a) → (T (compare_is_eq o) → a ≡ b)
        → o ≡ Ordering.lt
    go Ordering.lt m e = refl
    go Ordering.eq m e = absurd (omega (arith, e tt))
    go Ordering.gt m e = absurd (omega (arith, m tt))

pub compare_gt : (a b : ℕ) → b < a → compare a b ≡ Ordering.gt
compare_gt a b h = go (compare a b) (leb→le a b)
  where
    go : (o : Ordering) → (T (is_le o) → a ≤ b) → o ≡ Ordering.gt
    go Ordering.lt m = absurd (omega (arith, m tt))
    go Ordering.eq m = absurd (omega (arith, m tt))
    go Ordering.gt m = refl

pub compare_eq : (a b : ℕ) → a ≡ b → compare a b ≡ Ordering.eq
compare_eq a b e =
    go (compare a b) (subst (λ z. T (compare_is_eq (compare a z))) e (eqb_refl a))
  where
    go : (o : Ordering) → T (compare_is_eq o) → o ≡ Ordering.eq
    go Ordering.lt t = absurd t
    go Ordering.eq t = refl
    go Ordering.gt t = absurd t

module _ (a b h : ℕ) (B : 0 < b) (within : IsBetweenHalves a b h) where
  whole : (p : ℕ) → 0 < p → a / (b * p) ≡ h / (p * 2)
  whole p P =
      let q : ℕ = h / (p * 2) in
      let r : ℕ = h % (p * 2) in
      let cut : q * (p * 2) + r ≡ h = div-add-mod' h (p * 2) in
      let less : r < p * 2 = mod-lt h (mul-pos P (omega arith)) in
      let low_h : q * (p * 2) * b ≤ h * b = mul-le-mul_right b (omega arith) in
      let high_h : (h + 1) * b ≤ (q * (p * 2) + p * 2) * b = mul-le-mul_right b (omega arith) in
      let e : q * (p * 2) * b ≡ 2 * (q * (b * p)) = grind arith in
      let f : (q * (p * 2) + p * 2) * b ≡ 2 * ((q + 1) * (b * p)) = grind arith in
      div-eq_of_lt-le (b * p) (omega (arith, within.above)) (omega (arith, within.below))

  rest : (p : ℕ) → 0 < p → IsBetweenHalves (a % (b * p)) b (h % (p * 2))
  rest p P =
      let q : ℕ = h / (p * 2) in
      let r : ℕ = h % (p * 2) in
      let cut : q * (p * 2) + r ≡ h = div-add-mod' h (p * 2) in
      let parts : a / (b * p) * (b * p) + a % (b * p) ≡ a = div-add-mod' a (b * p) in
      let same : q * (b * p) + a % (b * p) ≡ a =
      subst (λ (x : ℕ). x * (b * p) + a % (b * p) ≡ a) (whole p P) parts in
      let e : h * b ≡ 2 * (q * (b * p)) + r * b = ap (λ (x : ℕ). x * b) (sym cut) ∙ grind arith in
      let f : (h + 1) * b ≡ h * b + b = grind arith in
      let g : (r + 1) * b ≡ r * b + b = grind arith in
      record { above = omega (arith, within.above); below = omega (arith, within.below) }

abbrev side : ℕ → ℕ → Ordering
side t p = cond (ltb t p) Ordering.lt Ordering.gt

compares : (a b t p : ℕ) → IsBetweenHalves a b t → compare (a * 2) (b * p) ≡ side t p
compares a b t p within = go (ltb t p) (ltb→lt t p) (nltb→le t p)
  where
    go : (o : Bool) → (T o → t < p) → (T (not o) → p ≤ t)
        → compare (a * 2) (b * p) ≡ cond o Ordering.lt Ordering.gt
    go true l m =
        let h : (t + 1) * b ≤ p * b = mul-le-mul_right b (omega (arith, l tt)) in
        let c : p * b ≡ b * p = mul_comm p b in
        compare_lt (a * 2) (b * p) (omega (arith, within.below))
    go false l m =
        let h : p * b ≤ t * b = mul-le-mul_right b (m tt) in
        let c : p * b ≡ b * p = mul_comm p b in
        compare_gt (a * 2) (b * p) (omega (arith, within.above))

-- in units of the format, with k digits dropped
abbrev units_of : Format → Bool → ℕ → ℕ → Float
units_of f s h k = units f s (nearest (h / (2 ^ k * 2)) (side (h % (2 ^ k * 2)) (2 ^ k))) k

abbrev round_by : Format → Bool → ℕ → Float
round_by f s h = units_of f s h (size (h / (1 * 2)) - prec f)

module _ (f : Format) (s : Bool) (num den h : ℕ) (D : 0 < den)
    (within : IsBetweenHalves (num * 2 ^ low f) den h) where
  is_by : round f s num den ≡ round_by f s h
  is_by =
      let n : ℕ = num * 2 ^ low f in
      let w : n / den ≡ h / (1 * 2) =
      subst (λ (x : ℕ). n / x ≡ h / (1 * 2)) (omega arith)
      (whole n den h D within 1 (omega arith)) in
      let at : (k : ℕ) → units f s
      (nearest (n / (den * 2 ^ k)) (compare (n % (den * 2 ^ k) * 2) (den * 2 ^ k))) k
      ≡ units_of f s h k =
      λ k.
      rw (
        whole n den h D within (2 ^ k) (pow_pos k),
        compares (n % (den * 2 ^ k)) den (h % (2 ^ k * 2)) (2 ^ k)
            (rest n den h D within (2 ^ k) (pow_pos k)),
      )
      refl in
      round_is f s num den ∙ at (size (n / den) - prec f)
      ∙ ap (λ (x : ℕ). units_of f s h (size x - prec f)) w

-- between K and K + 1 steps of 1 / (2 ^ (low f + 1) * m)
module _ (f : Format) (s : Bool) (m K : ℕ) (M : 0 < m) where
  halves : (a b : ℕ) → K * b < a * (2 ^ (low f + 1) * m) → a * (2 ^ (low f + 1) * m) < (K + 1) * b
      → IsBetweenHalves (a * 2 ^ low f) b (K / m)
  halves a b above below =
      let q : ℕ = K / m in
      let r : ℕ = K % m in
      let cut : q * m + r ≡ K = div-add-mod' K m in
      let less : r < m = mod-lt K M in
      let two : 2 ^ (low f + 1) ≡ 2 ^ low f * 2 = pow-add 2 (low f) 1 in
      let e : a * (2 ^ (low f + 1) * m) ≡ 2 * (a * 2 ^ low f) * m =
      ap (λ (x : ℕ). a * (x * m)) two ∙ grind arith in
      let lo : q * m * b ≤ K * b = mul-le-mul_right b (omega arith) in
      let hi : (K + 1) * b ≤ (q * m + m) * b = mul-le-mul_right b (omega arith) in
      let i : q * m * b ≡ q * b * m = grind arith in
      let j : (q * m + m) * b ≡ (q + 1) * b * m = grind arith in
      record {
        above = lt_of_mul-lt-mul_right m (omega arith);
        below = lt_of_mul-lt-mul_right m (omega arith);
      }

  pub round_within : (a b c d : ℕ) → 0 < b → 0 < d
      → K * b < a * (2 ^ (low f + 1) * m) → a * (2 ^ (low f + 1) * m) < (K + 1) * b
      → K * d < c * (2 ^ (low f + 1) * m) → c * (2 ^ (low f + 1) * m) < (K + 1) * d
      → round f s a b ≡ round f s c d
  round_within a b c d B D p q r t =
      is_by f s a b (K / m) B (halves a b p q) ∙ sym (is_by f s c d (K / m) D (halves c d r t))
