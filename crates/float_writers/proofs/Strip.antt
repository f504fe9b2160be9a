-- The same decimal without the zeros at its end, and in the words of callers.
use Rattle.std.proofs.Common.{◌≡◌, ℕ, zero, suc, ◌+◌, ◌-◌, ◌*◌, ◌%◌, ◌^◌, ◌<◌, ◌≤◌, Bool, true, false, cond, T, ltb, refl, sym, ap, subst, ◌∙◌, ◌⊎◌, inl, inr, arith}
use Rattle.std.specs.Int.{abs_diff}
use mathlib.Core.Bool.{not}
use lib.Signed.{le_z_yes}
use lib.Dec.{le→leb, ltb→lt, nltb→le}
use Rattle.std.specs.Prelude.{ℤ, pos, negsuc, ◌-ℤ◌, ◌≤ℤ◌}
use native.Mathlib.Nat.{mul-one, eq_of_mul-eq-mul_right, lt_of_mul-lt-mul_right, mul-lt-mul_of_pos_right, pow-suc}
use Rattle.std.proofs.lemmas.Bool.{cases_lt}
use lib.Ieee.{Float, Format, round}
use lib.Ieee.Positive.{num, den}
use lib.Ieee.Scale.{round_same}
use Rattle.decimal_writers.specs.Text.{units_of, places_of}
use Rattle.float_writers.specs.Decimals.{ReadsAt, Reads, far_of, IsShortestAt, IsNearer, IsAsNear, HasNoMoreDigits}
use Rattle.float_writers.specs.declared.decimal.Decimal.{Decimal}
use Rattle.float_writers.proofs.Fewest.{ten_pos, joined}
use Rattle.float_writers.proofs.OnGrid.{abs_scaled}

-- ---- one number over two powers of ten

module _ (x : Float) (a v b w : ℕ) (same : a * 10 ^ w ≡ b * 10 ^ v) where
  pub far_same : far_of x a v * 10 ^ w ≡ far_of x b w * 10 ^ v
  far_same =
      sym (abs_scaled (a * den x) (num x * 10 ^ v) (10 ^ w))
      ∙ (λ i. abs_diff (one i) (swap (num x) (10 ^ v) (10 ^ w) i))
      ∙ abs_scaled (b * den x) (num x * 10 ^ w) (10 ^ v)
    where
      swap : (a b c : ℕ) → a * b * c ≡ a * c * b
      swap a b c = grind arith

      one : a * den x * 10 ^ w ≡ b * den x * 10 ^ v
      one = swap a (den x) (10 ^ w) ∙ ap (λ z. z * den x) same ∙ swap b (10 ^ v) (den x)

  pub read_same : (f : Format) → round f false a (10 ^ v) ≡ x → round f false b (10 ^ w) ≡ x
  read_same f r = round_same f false b (10 ^ w) a (10 ^ v) (ten_pos w) (ten_pos v) (sym same) ∙ r

  -- how it compares with another
  pub better_same : (other u : ℕ) (P : Type 0)
      → (far_of x a v * 10 ^ u < other * 10 ^ v) ⊎ ((far_of x a v * 10 ^ u ≡ other * 10 ^ v) × P)
      → (far_of x b w * 10 ^ u < other * 10 ^ w) ⊎ ((far_of x b w * 10 ^ u ≡ other * 10 ^ w) × P)
  better_same other u P = by (far_of x a v) (far_of x b w) (10 ^ u) (10 ^ v) (10 ^ w) (ten_pos v)
      (ten_pos w) far_same
    where
      by : (g h u v w : ℕ) → 0 < v → 0 < w → g * w ≡ h * v → (g * u < other * v)
          ⊎ ((g * u ≡ other * v) × P)
          → (h * u < other * w) ⊎ ((h * u ≡ other * w) × P)
      by g h u v w V W e o =
          let s : h * u * v ≡ g * u * w = turn h u v ∙ ap (λ z. z * u) (sym e) ∙ turn g w u in
          let t : other * v * w ≡ other * w * v = turn other v w in
          elim o [
            | inl less ↦
                let m : g * u * w < other * v * w = mul-lt-mul_of_pos_right less W in
                inl (lt_of_mul-lt-mul_right v (omega (arith, m, s, t)))
            | inr level ↦ inr (
              eq_of_mul-eq-mul_right v V _ _ (s ∙ ap (λ z. z * w) level.0 ∙ t),
              level.1,
            )
          ]
        where
          turn : (a b c : ℕ) → a * b * c ≡ a * c * b
          turn a b c = grind arith

-- ---- without zeros

pub strip : (f : Format) (x : Float) (digits p left j : ℕ) → left * 10 ^ j ≡ digits
    → IsShortestAt f x digits p → IsShortestAt f x left (p + j)
strip f x digits p left j value is = record {
  some = elim (cases_lt 0 left) [
    | inl l ↦ l
    | inr z ↦ let none : left ≡ 0 =
        omega (arith, z) in absurd (omega (arith, is.some, value, ap (λ y. y * 10 ^ j) none))
  ];
  reads = read_same x (digits * 10 ^ (p - 324)) (324 - p) (left * 10 ^ (p + j - 324))
      (324 - (p + j)) same f is.reads;
  none_shorter = λ d z e up down n at odd r less. is.none_shorter d (z + j) e up down n
      (whole d z at) odd r less;
  none_better = λ d z e up down n at odd r less most.
      better_same x (digits * 10 ^ (p - 324)) (324 - p) (left * 10 ^ (p + j - 324)) (324 - (p + j))
      same (far_of x (e * 10 ^ up) down) down _
      (is.none_better d (z + j) e up down n (whole d z at) odd r less most);
}
  where
    whole : (d z : ℕ) → left ≡ d * 10 ^ z → digits ≡ d * 10 ^ (z + j)
    whole d z at = sym value ∙ ap (λ y. y * 10 ^ j) at ∙ joined d z j

    same : digits * 10 ^ (p - 324) * 10 ^ (324 - (p + j)) ≡ left * 10 ^ (p + j - 324) * 10
        ^ (324 - p)
    same =
        ap (λ y. y * 10 ^ (p - 324) * 10 ^ (324 - (p + j))) (sym value)
        ∙ ap (λ y. y * 10 ^ (324 - (p + j))) (joined left j (p - 324))
        ∙ joined left (j + (p - 324)) (324 - (p + j))
        ∙ ap (λ y. left * 10 ^ y) {x = j + (p - 324) + (324 - (p + j))}
        {y = p + j - 324 + (324 - p)} (omega arith)
        ∙ sym (joined left (p + j - 324) (324 - p))

-- ---- in the words of callers

-- the powers of ten of a decimal
pub up_of : ℤ → ℕ
up_of (pos n) = n
up_of (negsuc n) = 0

units_is : (e : ℕ) (z : ℤ) → units_of e z ≡ e * 10 ^ up_of z
unfolding up_of
units_is e (pos n) = refl
units_is e (negsuc n) = sym (mul-one e)

-- a power of ten at which the digits have their count
module _ (d : ℕ) (P : Type 0) (some : 0 < d) (found : (n : ℕ) → d < 10 ^ n → 10 ^ n ≤ d * 10 → P)
  where
    pub counted : (b : ℕ) → d < 10 ^ b → P
    counted zero less = absurd (omega (arith, less, some))
    counted (suc b) less = elim (cases_lt d (10 ^ b)) [
      | inl l ↦ counted b l
      | inr more ↦ found (suc b) less (omega (arith, more, pow-suc 10 b))
    ]

module _ (f : Format) (x : Float) (d : Decimal) (left p : ℕ) (same : d.digits ≡ left)
    (units_ : units_of left d.power ≡ left * 10 ^ (p - 324))
    (places : places_of d.power ≡ 324 - p) (few_ : left < 10 ^ 20) (last_ : left % 10 ≡ 0 → ⊥)
    (is_ : IsShortestAt f x left p) where
  units : units_of d.digits d.power ≡ d.digits * 10 ^ (p - 324)
  units = subst (λ y. units_of y d.power ≡ y * 10 ^ (p - 324)) (sym same) units_

  few : d.digits < 10 ^ 20
  few = omega (arith, same, few_)

  last : d.digits % 10 ≡ 0 → ⊥
  last = subst (λ y. y % 10 ≡ 0 → ⊥) (sym same) last_

  is : IsShortestAt f x d.digits p
  is = subst (λ y. IsShortestAt f x y p) (sym same) is_

  pub reads_it : Reads f x d
  reads_it = rw (units, places) is.reads

  theirs : (other : Decimal) → Reads f x other → ReadsAt f x other.digits (up_of other.power)
      (places_of other.power)
  theirs other r = subst (λ z. round f false z (10 ^ places_of other.power) ≡ x)
      (units_is other.digits other.power) r

  pub shortest_it : (other : Decimal) → Reads f x other → HasNoMoreDigits d other
  shortest_it other r n less =
      is.none_shorter d.digits 0 other.digits (up_of other.power) (places_of other.power) n
      (sym (mul-one d.digits)) last (theirs other r) less

  best : (other : Decimal) → Reads f x other → HasNoMoreDigits other d
      → (IsNearer x d other)
      ⊎ ((IsAsNear x d other) × ((other.digits ≡ d.digits) ⊎ (d.digits % 2 ≡ 0)))
  best other r few_digits =
      rw (units, places, units_is other.digits other.power)
      (counted d.digits _ is.some
      (λ n below least.
      is.none_better d.digits 0 other.digits (up_of other.power) (places_of other.power) n
      (sym (mul-one d.digits)) last (theirs other r) (few_digits n below) least)
      20 few)

  pub closest_it : (other : Decimal) → Reads f x other → HasNoMoreDigits other d
      → (IsNearer x d other) ⊎ (IsAsNear x d other)
  closest_it other r few_digits = elim (best other r few_digits) [ inl l ↦ inl l | inr e ↦ inr e.0 ]

  pub even_it : (other : Decimal) → Reads f x other → HasNoMoreDigits other d → IsAsNear x d other
      → (other.digits ≡ d.digits) ⊎ (d.digits % 2 ≡ 0)
  even_it other r few_digits level =
      elim (best other r few_digits) [ inl l ↦ absurd (omega (arith, l, level)) | inr e ↦ e.1 ]

-- the power of ten of which that plus 324 is given
pub units_at : (d up : ℕ) (z : ℤ) → z ≡ pos up -ℤ pos 324 → units_of d z ≡ d * 10 ^ (up - 324)
units_at d up z is = ap (λ y. units_of d y) is ∙ by (ltb up 324) (ltb→lt up 324)
  where
    by : (b : Bool) → (T b → up < 324)
        → units_of d (cond b (negsuc (324 - suc up)) (pos (up - 324))) ≡ d * 10 ^ (up - 324)
    by true under =
        let none : up - 324 ≡ 0 = omega (arith, under tt) in
        sym (mul-one d) ∙ ap (λ y. d * 10 ^ y) (sym none)
    by false under = refl

pub places_at : (up : ℕ) (z : ℤ) → z ≡ pos up -ℤ pos 324 → places_of z ≡ 324 - up
places_at up z is = ap places_of is ∙ by (ltb up 324) (ltb→lt up 324) (nltb→le up 324)
  where
    by : (b : Bool) → (T b → up < 324) → (T (not b) → 324 ≤ up)
        → places_of (cond b (negsuc (324 - suc up)) (pos (up - 324))) ≡ 324 - up
    by true under over = omega (arith, under tt)
    by false under over = omega (arith, over tt)

pub range_at : (up : ℕ) (z : ℤ) → z ≡ pos up -ℤ pos 324 → up < 634
    → (negsuc 323 ≤ℤ z) × (z ≤ℤ pos 309)
range_at up z is few =
    subst (λ y. (negsuc 323 ≤ℤ y) × (y ≤ℤ pos 309)) (sym is)
    (by (ltb up 324) (ltb→lt up 324))
  where
    by : (b : Bool) → (T b → up < 324)
        → (negsuc 323 ≤ℤ cond b (negsuc (324 - suc up)) (pos (up - 324)))
        × (cond b (negsuc (324 - suc up)) (pos (up - 324)) ≤ℤ pos 309)
    by true under = (le_z_yes (le→leb _ _ (omega (arith, under tt))), le_z_yes tt)
    by false under = (le_z_yes tt, le_z_yes (le→leb _ _ (omega (arith, few))))
