-- The product of the digits and the row of a power of ten bounds the number.
use Rattle.std.proofs.Common.{◌≡◌, ℕ, zero, suc, ◌+◌, ◌-◌, ◌*◌, ◌/◌, ◌%◌, ◌^◌, ◌<◌, ◌≤◌, Bool, true, false, ltb, refl, sym, ap, ◌∙◌, arith, mul-le-mul_right, mul-le-mul_left, ◌⊎◌, inl, inr}
use native.Mathlib.Nat.{mul-lt-mul_of_pos_right, lt_of_mul-lt-mul_right, le_of_mul-le-mul_right, mul-pos, mul_comm}
use Rattle.std.proofs.lemmas.Bool.{lt-ltb, ltb-true, ltb-false}
use lib.Pow.{pow-add, pow_pos}
use lib.Ieee.{Format, prec, low, units, nearest, round}
use Rattle.digit_floats.specs.Near.{power_scale, IsRow, IsScaled}
use Rattle.digit_floats.specs.Binary.{IsWholePart, sticky_bit, shifted}
use Rattle.digit_floats.proofs.CutOff.{compare_lt, compare_gt}
use Rattle.digit_floats.proofs.Tens.{ten_pos}
use Rattle.digit_floats.proofs.WholePart.{rounds}

module _ (num den N D S C Z P : ℕ) (pos_d : 0 < D) where
  from : (h m t : ℕ) → h * P ≤ m * Z * t → t * (S * D) ≤ N * C → m * N * den ≤ num * D
      → h * P * S * den ≤ num * Z * C
  from h m t a b e =
      let x : h * P * (S * D * den) ≤ m * Z * t * (S * D * den) =
      mul-le-mul_right (S * D * den) a in
      let y : t * (S * D) * (m * Z * den) ≤ N * C * (m * Z * den) =
      mul-le-mul_right (m * Z * den) b in
      let z : m * N * den * (Z * C) ≤ num * D * (Z * C) = mul-le-mul_right (Z * C) e in
      let i : h * P * S * den * D ≡ h * P * (S * D * den) = grind arith in
      let j : m * Z * t * (S * D * den) ≡ t * (S * D) * (m * Z * den) = grind arith in
      let k : N * C * (m * Z * den) ≡ m * N * den * (Z * C) = grind arith in
      let l : num * D * (Z * C) ≡ num * Z * C * D = grind arith in
      le_of_mul-le-mul_right {k = D} (omega (arith, x, y, z, i, j, k, l)) pos_d

  from_lt : (h m t : ℕ) → 0 < S → 0 < den → h * P < m * Z * t → t * (S * D) ≤ N * C
      → m * N * den ≤ num * D → h * P * S * den < num * Z * C
  from_lt h m t pos_s pos_den a b e =
      let x : h * P * (S * D * den) < m * Z * t * (S * D * den) =
      mul-lt-mul_of_pos_right a (mul-pos (mul-pos pos_s pos_d) pos_den) in
      let y : t * (S * D) * (m * Z * den) ≤ N * C * (m * Z * den) =
      mul-le-mul_right (m * Z * den) b in
      let z : m * N * den * (Z * C) ≤ num * D * (Z * C) = mul-le-mul_right (Z * C) e in
      let i : h * P * S * den * D ≡ h * P * (S * D * den) = grind arith in
      let j : m * Z * t * (S * D * den) ≡ t * (S * D) * (m * Z * den) = grind arith in
      let k : N * C * (m * Z * den) ≡ m * N * den * (Z * C) = grind arith in
      let l : num * D * (Z * C) ≡ num * Z * C * D = grind arith in
      lt_of_mul-lt-mul_right D (omega (arith, x, y, z, i, j, k, l))

  to_lt : (g m t : ℕ) → 0 < m * Z * den → m * Z * (t + 1) ≤ g * P → N * C < (t + 1) * (S * D)
      → num * D ≤ m * N * den → num * Z * C < g * P * S * den
  to_lt g m t pos a b e =
      let x : m * Z * (t + 1) * (S * D * den) ≤ g * P * (S * D * den) =
      mul-le-mul_right (S * D * den) a in
      let y : N * C * (m * Z * den) < (t + 1) * (S * D) * (m * Z * den) =
      mul-lt-mul_of_pos_right b pos in
      let z : num * D * (Z * C) ≤ m * N * den * (Z * C) = mul-le-mul_right (Z * C) e in
      let i : g * P * S * den * D ≡ g * P * (S * D * den) = grind arith in
      let j : m * Z * (t + 1) * (S * D * den) ≡ (t + 1) * (S * D) * (m * Z * den) = grind arith in
      let k : N * C * (m * Z * den) ≡ m * N * den * (Z * C) = grind arith in
      let l : num * D * (Z * C) ≡ num * Z * C * D = grind arith in
      lt_of_mul-lt-mul_right D (omega (arith, x, y, z, i, j, k, l))

-- the same in units of 1 / L
module _ (num den P S Z C K L R T : ℕ) (pos_z : 0 < Z) (pos_t : 0 < T) (a : P * S * R ≡ K * Z * T)
    (b : L * T ≡ C * R) where
  unit_from : (h : ℕ) → h * P * S * den ≤ num * Z * C → h * K * den ≤ num * L
  unit_from h p =
      let x : h * P * S * den * R ≤ num * Z * C * R = mul-le-mul_right R p in
      let i : h * P * S * den * R ≡ h * (P * S * R) * den = grind arith in
      let j : h * (K * Z * T) * den ≡ h * K * den * (Z * T) = grind arith in
      let k : num * Z * C * R ≡ num * (C * R) * Z = grind arith in
      let l : num * (L * T) * Z ≡ num * L * (Z * T) = grind arith in
      le_of_mul-le-mul_right {k = Z * T} (rw (← l, b, ← j, ← a, ← i, ← k) x) (mul-pos pos_z pos_t)

  unit_from_lt : (h : ℕ) → 0 < R → h * P * S * den < num * Z * C → h * K * den < num * L
  unit_from_lt h pos_r p =
      let x : h * P * S * den * R < num * Z * C * R = mul-lt-mul_of_pos_right p pos_r in
      let i : h * P * S * den * R ≡ h * (P * S * R) * den = grind arith in
      let j : h * (K * Z * T) * den ≡ h * K * den * (Z * T) = grind arith in
      let k : num * Z * C * R ≡ num * (C * R) * Z = grind arith in
      let l : num * (L * T) * Z ≡ num * L * (Z * T) = grind arith in
      lt_of_mul-lt-mul_right (Z * T) (rw (← l, b, ← j, ← a, ← i, ← k) x)

  unit_to_lt : (g : ℕ) → 0 < R → num * Z * C < g * P * S * den → num * L < g * K * den
  unit_to_lt g pos_r p =
      let x : num * Z * C * R < g * P * S * den * R = mul-lt-mul_of_pos_right p pos_r in
      let i : g * P * S * den * R ≡ g * (P * S * R) * den = grind arith in
      let j : g * (K * Z * T) * den ≡ g * K * den * (Z * T) = grind arith in
      let k : num * Z * C * R ≡ num * (C * R) * Z = grind arith in
      let l : num * (L * T) * Z ≡ num * L * (Z * T) = grind arith in
      lt_of_mul-lt-mul_right (Z * T) (rw (← l, b, ← j, ← a, ← i, ← k) x)

-- ---- the number is from `v` to below `v + 1` of units that are 2 ^ k of 2 ^ -l: the units and the
-- bits that are cut off the product are those of a format

module _ (num den m more q t z s k l : ℕ) (D : 0 < den) (M : 0 < m) (r : IsRow q t)
    (b : IsScaled num den m (m + more) q) (places : s + power_scale q + l ≡ k + z + 1200) where
  three : (x y u v : ℕ) → x + y + u ≡ v → 2 ^ x * 2 ^ y * 2 ^ u ≡ 2 ^ v
  three x y u v e =
      ap (λ n. n * 2 ^ u) (sym (pow-add 2 x y)) ∙ sym (pow-add 2 (x + y) u) ∙ ap (λ n. 2 ^ n) e

  places_are : 2 ^ s * 2 ^ power_scale q * 2 ^ l ≡ 2 ^ k * 2 ^ z * 2 ^ 1200
  places_are = three s (power_scale q) l _ places ∙ sym (three k z 1200 _ refl)

  turned : 2 ^ l * 2 ^ 1200 ≡ 2 ^ 1200 * 2 ^ l
  turned = mul_comm (2 ^ l) (2 ^ 1200)

  pub from_kept : (v : ℕ) → v * 2 ^ s ≤ m * 2 ^ z * t → v * 2 ^ k * den ≤ num * 2 ^ l
  from_kept v a =
      unit_from num den (2 ^ s) (2 ^ power_scale q) (2 ^ z) (2 ^ 1200) (2 ^ k) (2 ^ l) (2 ^ l)
      (2 ^ 1200) (pow_pos z) (pow_pos 1200) places_are turned v
      (from num den (10 ^ (q - 342)) (10 ^ (342 - q)) (2 ^ power_scale q) (2 ^ 1200) (2 ^ z)
      (2 ^ s) (ten_pos (342 - q)) v m t a r.from b.from)

  pub above_kept : (v : ℕ) → v * 2 ^ s < m * 2 ^ z * t → v * 2 ^ k * den < num * 2 ^ l
  above_kept v a =
      unit_from_lt num den (2 ^ s) (2 ^ power_scale q) (2 ^ z) (2 ^ 1200) (2 ^ k) (2 ^ l) (2 ^ l)
      (2 ^ 1200) (pow_pos z) (pow_pos 1200) places_are turned v (pow_pos l)
      (from_lt num den (10 ^ (q - 342)) (10 ^ (342 - q)) (2 ^ power_scale q) (2 ^ 1200) (2 ^ z)
      (2 ^ s) (ten_pos (342 - q)) v m t (pow_pos (power_scale q)) D a r.from b.from)

  pub below_next : (g : ℕ) → (m + more) * 2 ^ z * (t + 1) ≤ g * 2 ^ s
      → num * 2 ^ l < g * 2 ^ k * den
  below_next g a =
      let some : 0 < m + more = omega (arith, M) in
      unit_to_lt num den (2 ^ s) (2 ^ power_scale q) (2 ^ z) (2 ^ 1200) (2 ^ k) (2 ^ l) (2 ^ l)
      (2 ^ 1200) (pow_pos z) (pow_pos 1200) places_are turned g (pow_pos l)
      (to_lt num den (10 ^ (q - 342)) (10 ^ (342 - q)) (2 ^ power_scale q) (2 ^ 1200) (2 ^ z)
      (2 ^ s)
      (ten_pos (342 - q)) g (m + more) t (mul-pos (mul-pos some (pow_pos z)) D) a r.below b.to)

-- ---- the number is from `h` to below `g` of units that are 2 ^ 64 of the product

module _ (num den m more q t z : ℕ) (D : 0 < den) (M : 0 < m) (r : IsRow q t)
    (b : IsScaled num den m (m + more) q) where
  pub least_product : (h : ℕ) → h * 2 ^ 64 ≤ m * 2 ^ z * t
      → h * 2 ^ 64 * 2 ^ power_scale q * den ≤ num * 2 ^ z * 2 ^ 1200
  least_product h a =
      from num den (10 ^ (q - 342)) (10 ^ (342 - q)) (2 ^ power_scale q) (2 ^ 1200) (2 ^ z)
      (2 ^ 64) (ten_pos (342 - q)) h m t a r.from b.from

  pub most_product : (g : ℕ) → (m + more) * 2 ^ z * (t + 1) ≤ g * 2 ^ 64
      → num * 2 ^ z * 2 ^ 1200 < g * 2 ^ 64 * 2 ^ power_scale q * den
  most_product g a =
      let some : 0 < m + more = omega (arith, M) in
      to_lt num den (10 ^ (q - 342)) (10 ^ (342 - q)) (2 ^ power_scale q) (2 ^ 1200) (2 ^ z)
      (2 ^ 64) (ten_pos (342 - q)) g (m + more) t (mul-pos (mul-pos some (pow_pos z)) D) a
      r.below b.to

-- ---- a number of halves rounds

-- an odd one is exceeded
abbrev beyond : ℕ → ℕ → ℕ → Bool
beyond v b a = ltb (v * b) a

pub odd_up : (v : ℕ) (more : Bool) → (v % 2 ≡ 1 → more ≡ true) → shifted v 1 more ≡ (v + 1) / 2
odd_up v more odd = by (v % 2) more refl odd
  where
    by : (r : ℕ) (more : Bool) → v % 2 ≡ r → (v % 2 ≡ 1 → more ≡ true)
        → shifted v 1 more ≡ (v + 1) / 2
    by zero more e odd =
        ap (λ o. nearest (v / 2) o) (compare_lt (v % 2 * 2 + sticky_bit more) 2 (small more))
        ∙ omega (arith, e)
      where
        small : (more : Bool) → v % 2 * 2 + sticky_bit more < 2
        small true = omega (arith, e)
        small false = omega (arith, e)
    by (suc zero) more e odd =
        let large : 2 < v % 2 * 2 + sticky_bit more =
        rw (odd e) (omega (arith, e)) in
        ap (λ o. nearest (v / 2) o) (compare_gt (v % 2 * 2 + sticky_bit more) 2 large)
        ∙ omega (arith, e)
    by (suc (suc r)) more e odd = absurd (omega (arith, e))

module _ (f : Format) (num den m more q t z s e v : ℕ) (D : 0 < den) (M : 0 < m) (r : IsRow q t)
    (b : IsScaled num den m (m + more) q) (places : s + power_scale q + low f ≡ e + z + 1200)
    (lower : v * 2 ^ s ≤ m * 2 ^ z * t) (upper : (m + more) * 2 ^ z * (t + 1) ≤ (v + 1) * 2 ^ s)
    (odd : v % 2 ≡ 1 → v * 2 ^ s < m * 2 ^ z * t)
    (many : 2 ^ prec f ≤ v) (few : v < 2 ^ (prec f + 1)) where
  abbrev n : ℕ
  n = num * 2 ^ low f * 2 ^ 0

  one : n ≡ num * 2 ^ low f
  one = omega arith

  flat : (g : ℕ) → g * (2 ^ e * den) ≡ g * 2 ^ e * den
  flat g = grind arith

  is : IsWholePart n (2 ^ e * den) v (beyond v (2 ^ e * den) n)
  is =
      let least : v * (2 ^ e * den) ≤ n =
      rw (flat v, one) (from_kept num den m more q t z s e (low f) D M r b places v lower) in
      record {
        least = least;
        most =
            rw (flat (v + 1), one) (below_next num den m more q t z s e (low f) D M r b places
            (v + 1) upper);
        same = λ h. not_beyond (v * (2 ^ e * den)) n least h;
        above = λ h. ltb-true _ _ h;
      }
    where
      not_beyond : (x y : ℕ) → x ≤ y → ltb x y ≡ false → y ≡ x
      not_beyond x y l h = omega (arith, l, ltb-false x y h)

  exceeds : v % 2 ≡ 1 → beyond v (2 ^ e * den) n ≡ true
  exceeds h =
      lt-ltb _ _ (rw (flat v, one) (above_kept num den m more q t z s e (low f) D M r b places v
      (odd h)))

  pub rounds_up : units f false ((v + 1) / 2) (e + 1) ≡ round f false num den
  rounds_up =
      ap (λ c. units f false c (e + 1)) (sym (odd_up v _ exceeds))
      ∙ rounds f false num den v _ e 0 (e + 1) 1 (prec f + 1) D is (omega arith)
      (rw same many) few (omega arith) (omega arith) (omega arith)
    where
      same : prec f + 1 - 1 ≡ prec f
      same = omega arith

-- ---- bounds

-- ---- the digits that are kept of a product

pub top_bit : (v t : ℕ) → 2 ^ 63 ≤ v → 2 ^ 63 ≤ t → 2 ^ 62 ≤ v * t / 2 ^ 64
top_bit v t a b =
    let x : v * 2 ^ 63 ≤ v * t = mul-le-mul_left v b in omega (arith, a, x)

module _ (m more z t d v rest room : ℕ) (parts : m * 2 ^ z * t / 2 ^ 64 ≡ v * 2 ^ d + rest)
    (unit : rest + room ≡ 2 ^ d) where
  places : (g : ℕ) → g * 2 ^ (64 + d) ≡ g * 2 ^ d * 2 ^ 64
  places g = rw (pow-add 2 64 d) (grind arith)

  pub kept_from : v * 2 ^ (64 + d) ≤ m * 2 ^ z * t
  kept_from = omega (arith, places v, parts)

  pub kept_above : (0 < rest) ⊎ (0 < m * 2 ^ z * t % 2 ^ 64) → v * 2 ^ (64 + d) < m * 2 ^ z * t
  kept_above (inl h) = omega (arith, places v, parts, h)
  kept_above (inr h) = omega (arith, places v, parts, h)

  pub kept_to : m * 2 ^ z < 2 ^ 64 → t < 2 ^ 64 → 2 + more * 2 ^ z ≤ room
      → (m + more) * 2 ^ z * (t + 1) ≤ (v + 1) * 2 ^ (64 + d)
  kept_to few fits wide =
      let e : (m + more) * 2 ^ z * (t + 1)
      ≡ m * 2 ^ z * t + m * 2 ^ z + more * 2 ^ z * (t + 1) = grind arith in
      let l : more * 2 ^ z * (t + 1) ≤ more * 2 ^ z * 2 ^ 64 =
      mul-le-mul_left (more * 2 ^ z) (omega (arith, fits)) in
      let next : (v + 1) * 2 ^ d ≡ v * 2 ^ d + 2 ^ d = grind arith in
      omega (arith, places (v + 1), next, parts, unit, e, l, few, wide)
