-- A decimal of the grid is the shortest that reads as a float, and the closest.
use Rattle.std.proofs.Common.{◌≡◌, ℕ, zero, suc, ◌+◌, ◌-◌, ◌*◌, ◌%◌, ◌^◌, ◌<◌, ◌≤◌, false, sym, ap, subst, ◌∙◌, ◌⊎◌, inl, inr, arith, mul-le-mul_right}
use Rattle.std.specs.Int.{abs_diff}
use Rattle.std.proofs.lemmas.Bool.{cases_lt}
use native.Mathlib.Nat.{mul-pos, mul_assoc, eq_of_mul-eq-mul_right, le_of_mul-le-mul_right, lt_of_mul-lt-mul_right, mul-lt-mul_of_pos_right, mul-one, pow-suc, le-mul_of_pos_right, zero-mul}
use lib.Pow.{pow-add, pow_pos}
use lib.Ieee.{Float, Format, prec, low, units, round}
use lib.Ieee.Exact.{units_val}
use lib.Ieee.Positive.{num, den, den_pos, value→cross}
use lib.Ieee.Scale.{overflow, round_same}
use Rattle.float_writers.specs.Decimals.{ReadsAt, far_of, IsShortestAt}
use Rattle.float_writers.specs.Grid.{gap, step}
use Rattle.float_writers.proofs.Fewest.{ten_pos, joined, IsBest, fewest_of_one, fewest_of_none, closest_of_one, closest_of_none}
use Rattle.float_writers.proofs.Rounding.{IsMode, IsInside, inside_of_reads, reads_of_inside}

-- ---- at another scale

module _ (c m g y z : ℕ) (Z : 0 < z) where
  center : 4 * (m * (g * z)) ≡ 4 * (m * g) * z
  center = grind arith

  low_end : 4 * (y * z) + c * (g * z) ≡ (4 * y + c * g) * z
  low_end = grind arith

  high_end : 4 * (m * (g * z)) + 2 * (g * z) ≡ (4 * (m * g) + 2 * g) * z
  high_end = grind arith

  number : 4 * (y * z) ≡ 4 * y * z
  number = grind arith

  pub scaled_up : IsInside c m g y → IsInside c m (g * z) (y * z)
  scaled_up is = record {
    low = rw (center, low_end) (mul-le-mul_right z is.low);
    high = rw (number, high_end) (mul-le-mul_right z is.high);
    low_tie = λ h. is.low_tie (eq_of_mul-eq-mul_right z Z _ _ (sym center ∙ h ∙ low_end));
    high_tie = λ h. is.high_tie (eq_of_mul-eq-mul_right z Z _ _ (sym number ∙ h ∙ high_end));
  }

  pub scaled_down : IsInside c m (g * z) (y * z) → IsInside c m g y
  scaled_down is = record {
    low = le_of_mul-le-mul_right {k = z} (rw (← center, ← low_end) is.low) Z;
    high = le_of_mul-le-mul_right {k = z} (rw (← number, ← high_end) is.high) Z;
    low_tie = λ h. is.low_tie (center ∙ ap (λ t. t * z) h ∙ sym low_end);
    high_tie = λ h. is.high_tie (number ∙ ap (λ t. t * z) h ∙ sym high_end);
  }

pub abs_scaled : (a b c : ℕ) → abs_diff (a * c) (b * c) ≡ abs_diff a b * c
abs_scaled a b c = elim (cases_lt a b) [
  | inl l ↦
      let e : (b - a + a) * c ≡ b * c =
      ap (λ z. z * c) {x = b - a + a} {y = b} (omega (arith, l)) in
      let p : (b - a + a) * c ≡ (b - a) * c + a * c = grind arith in
      let d : abs_diff a b ≡ b - a = omega (arith, l) in
      omega (arith, e, p, ap (λ z. z * c) d)
  | inr l ↦
      let e : (a - b + b) * c ≡ a * c =
      ap (λ z. z * c) {x = a - b + b} {y = a} (omega (arith, l)) in
      let p : (a - b + b) * c ≡ (a - b) * c + b * c = grind arith in
      let d : abs_diff a b ≡ a - b = omega (arith, l) in
      omega (arith, e, p, ap (λ z. z * c) d)
]

-- ---- a set of numbers

module _ (c m g : ℕ) where
  pub inside_between : (x y z : ℕ) → x ≤ y → y ≤ z → IsInside c m g x → IsInside c m g z
      → IsInside c m g y
  inside_between x y z l h p q = record {
    low = omega (arith, p.low, l);
    high = omega (arith, q.high, h);
    low_tie = λ e. p.low_tie (omega (arith, e, p.low, l));
    high_tie = λ e. q.high_tie (omega (arith, e, q.high, h));
  }

  pub none_inside : 0 < m → 0 < g → c ≤ 2 → IsInside c m g 0 → ⊥
  none_inside M G few is =
      let a : 1 * g ≤ m * g = mul-le-mul_right g M in
      let b : c * g ≤ 2 * g = mul-le-mul_right g few in
      omega (arith, is.low, a, b, G)

  -- two multiples of ten steps
  pub one_inside : (s x y : ℕ) → (c + 2) * g < 40 * s → IsInside c m g (x * (10 * s))
      → IsInside c m g (y * (10 * s)) → x ≡ y
  one_inside s x y narrow p q = omega (arith, below x y p q, below y x q p)
    where
      below : (x y : ℕ) → IsInside c m g (x * (10 * s)) → IsInside c m g (y * (10 * s)) → x ≤ y
      below x y p q = elim (cases_lt y x) [
        | inr l ↦ l
        | inl less ↦
            let a : (y + 1) * (10 * s) ≤ x * (10 * s) =
            mul-le-mul_right (10 * s) (omega (arith, less)) in
            let b : (y + 1) * (10 * s) ≡ y * (10 * s) + 10 * s = grind arith in
            let e : (c + 2) * g ≡ c * g + 2 * g = grind arith in
            absurd (omega (arith, a, b, e, narrow, p.high, q.low))
      ]

-- ---- the floats

module _ (f : Format) (kf shift k m c : ℕ) (at : kf + shift ≡ k) (scale : low f + shift ≡ 1074)
    (some : 0 < m) (few : m < 2 ^ prec f)
    (fine : m * 2 ^ kf < overflow f) (mode : IsMode c (2 ^ (prec f - 1)) m kf) where
  abbrev x : Float
  x = units f false m kf

  abbrev R : ℕ → ℕ → Type 0
  R d n = round f false n d ≡ x

  small : c ≤ 2
  small = elim mode [ inl r ↦ omega (arith, r.0) | inr e ↦ omega (arith, e.0.0) ]

  gap_up : (d : ℕ) → d * 2 ^ kf * 2 ^ shift ≡ d * 2 ^ k
  gap_up d = mul_assoc d (2 ^ kf) (2 ^ shift)
      ∙ ap (λ z. d * z) (sym (pow-add 2 kf shift) ∙ ap (λ z. 2 ^ z) at)

  number_up : (n : ℕ) → n * 2 ^ low f * 2 ^ shift ≡ n * 2 ^ 1074
  number_up n = mul_assoc n (2 ^ low f) (2 ^ shift)
      ∙ ap (λ z. n * z) (sym (pow-add 2 (low f) shift) ∙ ap (λ z. 2 ^ z) scale)

  to_inside : (d n : ℕ) → 0 < d → R d n → IsInside c m (d * 2 ^ k) (n * 2 ^ 1074)
  to_inside d n D r =
      let is = scaled_up c m (d * 2 ^ kf) (n * 2 ^ low f) (2 ^ shift) (pow_pos shift)
      (inside_of_reads f n d m kf D some few fine r c mode) in
      subst (λ z. IsInside c m (d * 2 ^ k) z) (number_up n)
      (subst (λ z. IsInside c m z (n * 2 ^ low f * 2 ^ shift)) (gap_up d) is)

  of_inside : (d n : ℕ) → 0 < d → IsInside c m (d * 2 ^ k) (n * 2 ^ 1074) → R d n
  of_inside d n D is =
      let up = subst (λ z. IsInside c m (d * 2 ^ kf * 2 ^ shift) z) (sym (number_up n))
      (subst (λ z. IsInside c m z (n * 2 ^ 1074)) (sym (gap_up d)) is) in
      reads_of_inside f n d m kf c D few mode
      (scaled_down c m (d * 2 ^ kf) (n * 2 ^ low f) (2 ^ shift) (pow_pos shift) up)

  -- the same decimal over other powers of ten
  at_scale : (d up down i j : ℕ) → up + j ≡ i + down → ReadsAt f x d up down
      → R (10 ^ j) (d * 10 ^ i)
  at_scale d up down i j same r =
      round_same f false (d * 10 ^ i) (10 ^ j) (d * 10 ^ up) (10 ^ down) (ten_pos j) (ten_pos down)
      (joined d i down ∙ ap (λ z. d * 10 ^ z) {x = i + down} {y = up + j} (omega (arith, same))
      ∙ sym (joined d up j))
      ∙ r

  -- ---- how far a decimal is

  crossed : num x * 2 ^ 1074 ≡ m * 2 ^ k * den x
  crossed =
      let e = value→cross x _ _ (units_val f false m kf fine) in
      let a : num x * 2 ^ low f * 2 ^ shift ≡ m * 2 ^ kf * den x * 2 ^ shift =
      ap (λ z. z * 2 ^ shift) e in
      let b : m * 2 ^ kf * den x * 2 ^ shift ≡ m * 2 ^ kf * 2 ^ shift * den x = grind arith in
      sym (number_up (num x)) ∙ a ∙ b ∙ ap (λ z. z * den x) (gap_up m)

  distance : (d up down i j : ℕ) → up + j ≡ i + down
      → abs_diff (d * 10 ^ i * 2 ^ 1074) (m * (10 ^ j * 2 ^ k)) * (den x * 10 ^ down)
      ≡ far_of x (d * 10 ^ up) down * (10 ^ j * 2 ^ 1074)
  distance d up down i j same =
      let tens : d * 10 ^ i * 10 ^ down ≡ d * 10 ^ up * 10 ^ j =
      joined d i down ∙ ap (λ z. d * 10 ^ z) {x = i + down} {y = up + j} (omega (arith, same))
      ∙ sym (joined d up j) in
      sym (abs_scaled (d * 10 ^ i * 2 ^ 1074) (m * (10 ^ j * 2 ^ k)) (den x * 10 ^ down))
      ∙ (λ i_. abs_diff (first (d * 10 ^ i) (2 ^ 1074) (den x) (10 ^ down) (d * 10 ^ up) (10 ^ j)
      tens i_) (second m (10 ^ j) (2 ^ k) (den x) (10 ^ down) (num x) (2 ^ 1074) crossed i_))
      ∙ abs_scaled (d * 10 ^ up * den x) (num x * 10 ^ down) (10 ^ j * 2 ^ 1074)
    where
      first : (a l n v b w : ℕ) → a * v ≡ b * w → a * l * (n * v) ≡ b * n * (w * l)
      first a l n v b w e =
          let p : a * l * (n * v) ≡ a * v * (l * n) = grind arith in
          let q : b * w * (l * n) ≡ b * n * (w * l) = grind arith in
          p ∙ ap (λ z. z * (l * n)) e ∙ q

      second : (m w g n v u l : ℕ) → u * l ≡ m * g * n → m * (w * g) * (n * v) ≡ u * v * (w * l)
      second m w g n v u l e =
          let p : m * (w * g) * (n * v) ≡ m * g * n * (w * v) = grind arith in
          let q : u * l * (w * v) ≡ u * v * (w * l) = grind arith in
          p ∙ ap (λ z. z * (w * v)) (sym e) ∙ q

  -- the nearer of two at one scale
  better : (d last e e_ up down up_ down_ i b j : ℕ) → up + j ≡ i + down → up_ + j ≡ b + down_
      → IsBest (m * (10 ^ j * 2 ^ k)) (d * 10 ^ i * 2 ^ 1074) last (e * 10 ^ b * 2 ^ 1074) e_
      → (far_of x (d * 10 ^ up) down * 10 ^ down_ < far_of x (e * 10 ^ up_) down_ * 10 ^ down)
      ⊎ ((far_of x (d * 10 ^ up) down * 10 ^ down_ ≡ far_of x (e * 10 ^ up_) down_ * 10 ^ down)
      × ((e_ ≡ last) ⊎ (last % 2 ≡ 0)))
  better d last e e_ up down up_ down_ i b j same same_ is =
      by (abs_diff (d * 10 ^ i * 2 ^ 1074) (m * (10 ^ j * 2 ^ k)))
      (abs_diff (e * 10 ^ b * 2 ^ 1074) (m * (10 ^ j * 2 ^ k)))
      (far_of x (d * 10 ^ up) down) (far_of x (e * 10 ^ up_) down_) (den x) (10 ^ down) (10 ^ down_)
      (10 ^ j * 2 ^ 1074)
      (mul-pos (den_pos x) (mul-pos (ten_pos down) (ten_pos down_)))
      (mul-pos (ten_pos j) (pow_pos 1074))
      (distance d up down i j same) (distance e up_ down_ b j same_) is
    where
      by : (a b g h n v w l : ℕ) → 0 < n * (v * w) → 0 < l → a * (n * v) ≡ g * l
          → b * (n * w) ≡ h * l
          → (a < b) ⊎ ((a ≡ b) × ((e_ ≡ last) ⊎ (last % 2 ≡ 0)))
          → (g * w < h * v) ⊎ ((g * w ≡ h * v) × ((e_ ≡ last) ⊎ (last % 2 ≡ 0)))
      by a b g h n v w l some_ L p q o =
          let s : a * (n * (v * w)) ≡ g * w * l = one a n v w ∙ ap (λ z. z * w) p ∙ turn g l w in
          let t : b * (n * (v * w)) ≡ h * v * l = other b n v w ∙ ap (λ z. z * v) q ∙ turn h l v in
          elim o [
            | inl less ↦
                let m_ : a * (n * (v * w)) < b * (n * (v * w)) =
                mul-lt-mul_of_pos_right less some_ in
                inl (lt_of_mul-lt-mul_right l (omega (arith, m_, s, t)))
            | inr level ↦ inr (
              eq_of_mul-eq-mul_right l L _ _
                  (sym s ∙ ap (λ z. z * (n * (v * w))) level.0 ∙ t),
              level.1,
            )
          ]
        where
          one : (a n v w : ℕ) → a * (n * (v * w)) ≡ a * (n * v) * w
          one a n v w = grind arith

          other : (a n v w : ℕ) → a * (n * (v * w)) ≡ a * (n * w) * v
          other a n v w = grind arith

          turn : (g l w : ℕ) → g * l * w ≡ g * w * l
          turn g l w = grind arith

  -- ---- on the grid of a power of ten

  module _ (p : ℕ) (wide : 4 * step p ≤ (c + 2) * gap k p)
      (narrow : (c + 2) * gap k p < 40 * step p)
      (first : IsInside c m (gap k p) (1 * (10 * step p)) → 19 * step p < 2 * (m * gap k p)) where
    abbrev up : ℕ
    up = p - 324

    abbrev down : ℕ
    down = 324 - p

    abbrev g : ℕ
    g = gap k p

    abbrev s : ℕ
    s = step p

    some_gap : 0 < g
    some_gap = mul-pos (ten_pos down) (pow_pos k)

    least : s ≤ m * g
    least =
        let a : (c + 2) * g ≤ 4 * g = mul-le-mul_right g (omega (arith, small)) in
        let b : 1 * g ≤ m * g = mul-le-mul_right g some in
        omega (arith, wide, a, b)

    -- at a scale that is finer
    grid_gap : (w : ℕ) → 10 ^ (down + w) * 2 ^ k ≡ g * 10 ^ w
    grid_gap w = ap (λ z. z * 2 ^ k) (pow-add 10 down w) ∙ turn (10 ^ down) (10 ^ w) (2 ^ k)
      where
        turn : (a b c : ℕ) → a * b * c ≡ a * c * b
        turn a b c = grind arith

    grid_number : (t w : ℕ) → t * 10 ^ (up + w) * 2 ^ 1074 ≡ t * s * 10 ^ w
    grid_number t w = ap (λ z. t * z * 2 ^ 1074) (pow-add 10 up w)
        ∙ turn t (10 ^ up) (10 ^ w) (2 ^ 1074)
      where
        turn : (t a b c : ℕ) → t * (a * b) * c ≡ t * (a * c) * b
        turn t a b c = grind arith

    ten_number : (t w : ℕ) → t * 10 ^ suc (up + w) * 2 ^ 1074 ≡ t * (10 * s) * 10 ^ w
    ten_number t w = ap (λ z. t * z * 2 ^ 1074) (pow-suc 10 (up + w))
        ∙ turn t (10 ^ (up + w)) (2 ^ 1074) ∙ grid_number (t * 10) w ∙ turn_ t s (10 ^ w)
      where
        turn : (t a b : ℕ) → t * (a * 10) * b ≡ t * 10 * a * b
        turn t a b = grind arith

        turn_ : (t s b : ℕ) → t * 10 * s * b ≡ t * (10 * s) * b
        turn_ t s b = grind arith

    module _ (w : ℕ) where
      abbrev j : ℕ
      j = down + w

      abbrev here : ℕ → Type 0
      here n = R (10 ^ j) n

      inside_here : (n : ℕ) → here n → IsInside c m (g * 10 ^ w) (n * 2 ^ 1074)
      inside_here n r = subst (λ z. IsInside c m z (n * 2 ^ 1074)) (grid_gap w)
          (to_inside (10 ^ j) n (ten_pos j) r)

      here_inside : (n : ℕ) → IsInside c m (g * 10 ^ w) (n * 2 ^ 1074) → here n
      here_inside n is = of_inside (10 ^ j) n (ten_pos j)
          (subst (λ z. IsInside c m z (n * 2 ^ 1074)) (sym (grid_gap w)) is)

      convex : (a b c_ : ℕ) → a ≤ b → b ≤ c_ → here a → here c_ → here b
      convex a b c_ l h r q =
          here_inside b (inside_between c m (g * 10 ^ w) _ _ _ (mul-le-mul_right (2 ^ 1074) l)
          (mul-le-mul_right (2 ^ 1074) h) (inside_here a r) (inside_here c_ q))

      none : here 0 → ⊥
      none r = none_inside c m (g * 10 ^ w) some (mul-pos some_gap (ten_pos w)) small
          (inside_here 0 r)

      on_grid : (t : ℕ) → here (t * 10 ^ (up + w)) → IsInside c m g (t * s)
      on_grid t r = scaled_down c m g (t * s) (10 ^ w) (ten_pos w)
          (subst (λ z. IsInside c m (g * 10 ^ w) z) (grid_number t w) (inside_here _ r))

      of_grid : (t : ℕ) → IsInside c m g (t * s) → here (t * 10 ^ (up + w))
      of_grid t is = here_inside _
          (subst (λ z. IsInside c m (g * 10 ^ w) z) (sym (grid_number t w))
          (scaled_up c m g (t * s) (10 ^ w) (ten_pos w) is))

      on_tens : (t : ℕ) → here (t * 10 ^ suc (up + w)) → IsInside c m g (t * (10 * s))
      on_tens t r = scaled_down c m g (t * (10 * s)) (10 ^ w) (ten_pos w)
          (subst (λ z. IsInside c m (g * 10 ^ w) z) (ten_number t w) (inside_here _ r))

      of_tens : (t : ℕ) → IsInside c m g (t * (10 * s)) → here (t * 10 ^ suc (up + w))
      of_tens t is = here_inside _
          (subst (λ z. IsInside c m (g * 10 ^ w) z) (sym (ten_number t w))
          (scaled_up c m g (t * (10 * s)) (10 ^ w) (ten_pos w) is))

      one : (a b : ℕ) → here (a * 10 ^ suc (up + w)) → here (b * 10 ^ suc (up + w)) → a ≡ b
      one a b r q = one_inside c m g s a b narrow (on_tens a r) (on_tens b q)

      center_here : m * (10 ^ j * 2 ^ k) ≡ m * g * 10 ^ w
      center_here = ap (λ z. m * z) (grid_gap w) ∙ sym (mul_assoc m g (10 ^ w))

      step_here : 10 ^ (up + w) * 2 ^ 1074 ≡ s * 10 ^ w
      step_here = ap (λ z. z * 2 ^ 1074) (pow-add 10 up w) ∙ turn (10 ^ up) (10 ^ w) (2 ^ 1074)
        where
          turn : (a b c : ℕ) → a * b * c ≡ a * c * b
          turn a b c = grind arith

      first_here : here (1 * 10 ^ suc (up + w))
          → 19 * (10 ^ (up + w) * 2 ^ 1074) < 2 * (m * (10 ^ j * 2 ^ k))
      first_here r =
          let a : 19 * s * 10 ^ w < 2 * (m * g) * 10 ^ w =
          mul-lt-mul_of_pos_right (first (on_tens 1 r)) (ten_pos w) in
          rw (step_here, center_here)
          (omega (arith, a, turn 19 s (10 ^ w), turn 2 (m * g) (10 ^ w)))
        where
          turn : (a b c : ℕ) → a * b * c ≡ a * (b * c)
          turn a b c = grind arith

      least_here : 10 ^ (up + w) * 2 ^ 1074 ≤ m * (10 ^ j * 2 ^ k)
      least_here = rw (step_here, center_here) (mul-le-mul_right (10 ^ w) least)

    above_zero : (t y : ℕ) → IsInside c m g (t * y) → 0 < t
    above_zero zero y is =
        absurd (none_inside c m g some some_gap small
        (subst (λ z. IsInside c m g z) (zero-mul y) is))
    above_zero (suc t) y is = omega arith

    -- ---- a multiple of ten steps

    pub shortest_of_tens : (t : ℕ) → IsInside c m g (t * (10 * s)) → IsShortestAt f x t (p + 1)
    shortest_of_tens t is = record {
      some = above_zero t (10 * s) is;
      reads = at_scale t (suc up) down (p + 1 - 324) (324 - (p + 1)) (omega arith) here_at;
      none_shorter = λ d z e up_ w n same odd r less.
          fewest_of_one (here w) (convex w) (none w) (suc (up + w)) d z e (up_ + down) n (one w)
          (stripped d z w same) odd (theirs e up_ w r) less;
      none_better = λ d z e up_ w n same odd r less most.
          better t d e e (p + 1 - 324) (324 - (p + 1)) up_ w (suc (up + w)) (up_ + down) (down + w)
          (omega arith) (omega arith)
          (subst (λ y. IsBest (m * (10 ^ (down + w) * 2 ^ k)) (y * 10 ^ suc (up + w) * 2 ^ 1074) d
          (e * 10 ^ (up_ + down) * 2 ^ 1074) e) (sym same)
          (closest_of_one (here w) (convex w) (none w) (m * (10 ^ (down + w) * 2 ^ k)) (2 ^ 1074)
          (up + w) d z e (up_ + down) n (pow_pos 1074) (one w)
          (first_here w) (stripped d z w same) odd (theirs e up_ w r) less most));
    }
      where
        here_at : ReadsAt f x t (suc up) down
        here_at = subst (λ z. R (10 ^ z) (t * 10 ^ suc up)) {x = down + 0} {y = down} (omega arith)
            (subst (λ z. R (10 ^ (down + 0)) (t * 10 ^ suc z)) {x = up + 0} {y = up} (omega arith)
            (of_tens 0 t is))

        stripped : (d z w : ℕ) → t ≡ d * 10 ^ z → here w (d * 10 ^ z * 10 ^ suc (up + w))
        stripped d z w same = subst (λ y. here w (y * 10 ^ suc (up + w))) same (of_tens w t is)

        theirs : (e up_ w : ℕ) → ReadsAt f x e up_ w → here w (e * 10 ^ (up_ + down))
        theirs e up_ w r = at_scale e up_ w (up_ + down) (down + w) (omega arith) r

    -- ---- one step, where no multiple of ten reads

    pub shortest_of_step : (t : ℕ) → IsInside c m g (t * s)
        → ((i : ℕ) → IsInside c m g (i * (10 * s)) → ⊥)
        → ((i : ℕ) → IsInside c m g (i * s) → IsBest (m * g) (t * s) t (i * s) i)
        → IsShortestAt f x t p
    shortest_of_step t is empty near = record {
      some = above_zero t s is;
      reads = here_at;
      none_shorter = λ d z e up_ w n same odd r less.
          let all = fewest_of_none (here w) (convex w) (none w) (up + w) t e (up_ + down) n
          (λ i h. empty i (on_tens w i h)) (of_grid w t is) (theirs e up_ w r) less in
          omega (arith, all, same, le-mul_of_pos_right d (ten_pos z));
      none_better = λ d z e up_ w n same odd r less most.
          let bare : t ≡ d = no_zeros d z same in
          better t d e e up down up_ w (up + w) (up_ + down) (down + w) (omega arith) (omega arith)
          (subst (λ y. IsBest (m * (10 ^ (down + w) * 2 ^ k)) (t * 10 ^ (up + w) * 2 ^ 1074) y
          (e * 10 ^ (up_ + down) * 2 ^ 1074) e) bare
          (closest_of_none (here w) (convex w) (none w) (m * (10 ^ (down + w) * 2 ^ k)) (2 ^ 1074)
          (up + w) t e (up_ + down) n
          (λ i h. empty i (on_tens w i h)) (least_here w) (pow_pos 1074) (λ i h. near_here w i h)
          (of_grid w t is) (theirs e up_ w r) less
          (subst (λ y. 10 ^ n ≤ y * 10) (sym bare) most)));
    }
      where
        here_at : ReadsAt f x t up down
        here_at = subst (λ z. R (10 ^ z) (t * 10 ^ up)) {x = down + 0} {y = down} (omega arith)
            (subst (λ z. R (10 ^ (down + 0)) (t * 10 ^ z)) {x = up + 0} {y = up} (omega arith)
            (of_grid 0 t is))

        theirs : (e up_ w : ℕ) → ReadsAt f x e up_ w → here w (e * 10 ^ (up_ + down))
        theirs e up_ w r = at_scale e up_ w (up_ + down) (down + w) (omega arith) r

        no_zeros : (d z : ℕ) → t ≡ d * 10 ^ z → t ≡ d
        no_zeros d zero same = same ∙ mul-one d
        no_zeros d (suc z) same =
            let a : t * s ≡ d * 10 ^ z * (10 * s) =
            ap (λ y. y * s) same ∙ ap (λ y. d * y * s) (pow-suc 10 z) ∙ turn d (10 ^ z) s in
            absurd (empty (d * 10 ^ z) (subst (λ y. IsInside c m g y) a is))
          where
            turn : (d a s : ℕ) → d * (a * 10) * s ≡ d * a * (10 * s)
            turn d a s = grind arith

        near_here : (w i : ℕ) → here w (i * 10 ^ (up + w))
            → IsBest (m * (10 ^ (down + w) * 2 ^ k)) (t * 10 ^ (up + w) * 2 ^ 1074) t
            (i * 10 ^ (up + w) * 2 ^ 1074) i
        near_here w i h =
            rw (center_here w, grid_number t w, grid_number i w) (widened (near i (on_grid w i h)))
          where
            widened : IsBest (m * g) (t * s) t (i * s) i → IsBest (m * g * 10 ^ w) (t * s * 10 ^ w)
                t (i * s * 10 ^ w) i
            widened (inl less) = inl
                (rw (abs_scaled (t * s) (m * g) (10 ^ w), abs_scaled (i * s) (m * g) (10 ^ w))
                (mul-lt-mul_of_pos_right less (ten_pos w)))
            widened (inr level) =
                inr (
                  rw (abs_scaled (t * s) (m * g) (10 ^ w), abs_scaled (i * s) (m * g) (10 ^ w))
                      (ap (λ y. y * 10 ^ w) level.0),
                  level.1,
                )
