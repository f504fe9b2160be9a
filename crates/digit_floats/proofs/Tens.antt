-- One multiplication or division of two floats that are exact rounds once.
use Rattle.std.proofs.Common.{◌≡◌, ℕ, zero, suc, ◌+◌, ◌-◌, ◌*◌, ◌^◌, ◌<◌, ◌≤◌, Bool, true, false, ◌&&◌, true≢false, List, [], ◌∷◌, length, refl, ap, subst, ◌∙◌, arith}
use Rattle.std.specs.Prelude.{get_or, pos}
use native.Mathlib.Nat.{mul-pos, pow-suc}
use lib.Dec.{T, eqb, ltb→lt, eqb→eq}
use lib.Pow.{pow-add}
use borrow.Author.Tests.{ne_eqb}
use lib.Ieee.{Float, Format, nan, inf, fin, prec, round, mul, div, of_int, up, down}
use lib.Ieee.Back.{round_whole}
use lib.Ieee.Exact.{HasValue}
use lib.Ieee.Fits.{up_pos, down_pos, and_l, and_r}
use lib.Ieee.Positive.{positive, positive_of_value, num, den, den_pos, value→cross}
use lib.Ieee.Scale.{round_same}
use Rattle.digit_floats.specs.Exact.{IsTenTo}

pub ten_pos : (k : ℕ) → 0 < 10 ^ k
ten_pos zero = omega arith
ten_pos (suc k) = omega (arith, pow-suc 10 k, ten_pos k)

-- ---- a table of powers of ten

abbrev is_ten_to : ℕ → Float → Bool
is_ten_to k nan = false
is_ten_to k (inf s) = false
is_ten_to k (fin true m e) = false
is_ten_to k (fin false m e) = eqb (m * up e * 1) (10 ^ k * down e)

tested : (k : ℕ) (x : Float) → T (is_ten_to k x) → IsTenTo k x
tested k nan t = absurd t
tested k (inf s) t = absurd t
tested k (fin true m e) t = absurd t
tested k (fin false m e) t = (refl, eqb→eq _ _ t)

abbrev pub are_tens_from : ℕ → List Float → Bool
are_tens_from k [] = true
are_tens_from k (x ∷ xs) = is_ten_to k x && are_tens_from (suc k) xs

row : (xs : List Float) (k i j : ℕ) (d : Float) → T (are_tens_from k xs) → i < length xs → j ≡ k + i
    → IsTenTo j (get_or xs i d)
row [] k i j d t h e = absurd (omega arith)
row (x ∷ xs) k zero j d t h e =
    let s : k ≡ j = omega arith in subst (λ y. IsTenTo y x) s (tested k x (and_l _ _ t))
row (x ∷ xs) k (suc i) j d t h e =
    row xs (suc k) i j d (and_r (is_ten_to k x) _ t) (omega arith) (omega arith)

pub ten_at : (xs : List Float) (i : ℕ) (d : Float) → T (are_tens_from 0 xs) → i < length xs
    → IsTenTo i (get_or xs i d)
ten_at xs i d t h = row xs 0 i i d t h (omega arith)

-- ---- one operation

module _ (f : Format) where
  pub product_at : (x y : Float) (a b c d : ℕ) → 0 < c → 0 < d → HasValue x false a c
      → HasValue y false b d → mul f x y ≡ round f false (a * b) (c * d)
  unfolding mul
  product_at nan y a b c d C D p q = absurd p
  product_at (inf s) y a b c d C D p q = absurd p
  product_at (fin true m e) y a b c d C D p q = absurd (true≢false p.0)
  product_at (fin false m e) nan a b c d C D p q = absurd q
  product_at (fin false m e) (inf t) a b c d C D p q = absurd q
  product_at (fin false m e) (fin true n k) a b c d C D p q = absurd (true≢false q.0)
  product_at (fin false m e) (fin false n k) a b c d C D p q =
      round_same f false _ _ (a * b) (c * d) (mul-pos (down_pos e) (down_pos k)) (mul-pos C D)
      (cross (m * up e) (down e) (n * up k) (down k) p.1 q.1)
    where
      cross : (x dx y dy : ℕ) → x * c ≡ a * dx → y * d ≡ b * dy
          → x * y * (c * d) ≡ a * b * (dx * dy)
      cross x dx y dy p q =
          let l : x * y * (c * d) ≡ x * c * (y * d) = grind arith in
          let r : a * dx * (b * dy) ≡ a * b * (dx * dy) = grind arith in
          l ∙ rw (p, q) r

pub whole : (f : Format) (w : ℕ) → w ≤ 2 ^ prec f → HasValue (of_int f (pos w)) false w 1
unfolding of_int
whole f w h = round_whole f false w h

pub times_ten : (f : Format) (w k : ℕ) (x : Float) → w ≤ 2 ^ prec f → IsTenTo k x
    → mul f (of_int f (pos w)) x ≡ round f false (w * 10 ^ k) 1
times_ten f w k x h t = product_at f _ x w (10 ^ k) 1 1 (omega arith) (omega arith) (whole f w h) t

quotient : (f : Format) (x y : Float) (w : ℕ) → HasValue x false w 1 → T (positive y)
    → div f x y ≡ round f false (num x * den y) (num y * den x)
unfolding div
quotient f nan y w p q = absurd p
quotient f (inf s) y w p q = absurd p
quotient f (fin true m e) y w p q = absurd (true≢false p.0)
quotient f (fin false m e) nan w p q = absurd q
quotient f (fin false m e) (inf t) w p q = absurd q
quotient f (fin false m e) (fin true n d) w p q = absurd q
quotient f (fin false m e) (fin false n d) w p q =
    let above : 0 < n = ltb→lt 0 n q in
    rw (ne_eqb n 0 (λ z. omega arith))

num_pos : (y : Float) → T (positive y) → 0 < num y
num_pos nan p = absurd p
num_pos (inf s) p = absurd p
num_pos (fin true m e) p = absurd p
num_pos (fin false m e) p = mul-pos (ltb→lt 0 m p) (up_pos e)

cross : (nx dx ny dy w t : ℕ) → nx * 1 ≡ w * dx → ny * 1 ≡ t * dy → nx * dy * t ≡ w * (ny * dx)
cross nx dx ny dy w t a b =
    let p : nx ≡ w * dx = omega arith in
    let q : ny ≡ t * dy = omega arith in
    rw (p, q) (grind arith)

pub over_ten : (f : Format) (w k : ℕ) (x : Float) → w ≤ 2 ^ prec f → IsTenTo k x
    → div f (of_int f (pos w)) x ≡ round f false w (10 ^ k)
over_ten f w k x h t =
    let y = of_int f (pos w) in
    let px = positive_of_value x _ 1 t (ten_pos k) in
    quotient f y x w (whole f w h) px
    ∙ round_same f false _ _ w (10 ^ k) (mul-pos (num_pos x px) (den_pos y)) (ten_pos k)
    (cross (num y) (den y) (num x) (den x) w (10 ^ k) (value→cross y w 1 (whole f w h))
    (value→cross x (10 ^ k) 1 t))

-- ---- powers of ten above and below are one

split : (a b : ℕ) → b ≤ a → 10 ^ a ≡ 10 ^ (a - b) * 10 ^ b
split a b h = let e : a ≡ a - b + b = omega arith in ap (λ z. 10 ^ z) e ∙ pow-add 10 (a - b) b

pub times_rest : (f : Format) (w up down : ℕ) → down ≤ up
    → round f false (w * 10 ^ (up - down)) 1 ≡ round f false (w * 10 ^ up) (10 ^ down)
times_rest f w up down h =
    let s = split up down h in
    round_same f false _ 1 _ (10 ^ down) (omega arith) (ten_pos down) (rw s (grind arith))

pub over_rest : (f : Format) (w up down : ℕ) → up ≤ down
    → round f false w (10 ^ (down - up)) ≡ round f false (w * 10 ^ up) (10 ^ down)
over_rest f w up down h =
    let s = split down up h in
    round_same f false w _ _ (10 ^ down) (ten_pos (down - up)) (ten_pos down) (rw s (grind arith))
