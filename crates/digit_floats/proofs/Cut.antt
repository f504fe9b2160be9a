-- A number rounds as before if its digits after the first 1,420 become one, and its power of ten is
-- held between two bounds: each case is one of `zeros`, `low_rest`, `both_huge`, `tiny`, `nothing`.
use Rattle.std.proofs.Common.{◌≡◌, ℕ, zero, suc, ◌+◌, ◌-◌, ◌*◌, ◌^◌, ◌<◌, ◌≤◌, Bool, true, false, refl, sym, ap, subst, ◌∙◌, arith}
use Rattle.std.specs.Prelude.{min}
use Rattle.std.proofs.Math.Nat.{pow-le-pow_left, pow-le-pow_right, mul-le-mul_right, mul-le-mul, one-le-pow, one-le-mul, mul_assoc}
use Rattle.std.proofs.lemmas.Nat.{mul-pow}
use lib.Dec.{T, leb, leb→le, nleb→lt}
use mathlib.Core.Bool.{not}
use lib.Pow.{pow-add}
use lib.Ieee.{Format, inf, emax, low, round}
use lib.Ieee.Scale.{round_same}
use Rattle.digit_floats.specs.Cut.{IsCut, last_digit}
use Rattle.digit_floats.proofs.CutOff.{round_within}
use Rattle.digit_floats.proofs.Huge.{round_huge, emax_below, low_below}
use Rattle.digit_floats.proofs.Tens.{ten_pos}

tens : (i j : ℕ) → i ≤ j → 10 ^ i ≤ 10 ^ j
tens i j h = pow-le-pow_right {n = 10} (omega arith) h

eight_pow : (k : ℕ) → 2 ^ (k * 3) ≡ 8 ^ k
eight_pow zero = refl
eight_pow (suc k) =
    let e : 2 ^ (suc k * 3) ≡ 2 ^ (k * 3) * 8 =
    ap (λ (z : ℕ). 2 ^ z) (omega arith) ∙ pow-add 2 (k * 3) 3 in
    let g : 8 ^ suc k ≡ 8 ^ k * 8 = ap (λ (z : ℕ). 8 ^ z) (omega arith) ∙ pow-add 8 k 1 in
    rw (e, g, eight_pow k) refl

twos : (i j : ℕ) → i ≤ j * 3 → 2 ^ i ≤ 10 ^ j
twos i j h =
    let a : 2 ^ i ≤ 2 ^ (j * 3) = pow-le-pow_right {n = 2} (omega arith) h in
    let b : 8 ^ j ≤ 10 ^ j = pow-le-pow_left {n = 8} {m = 10} (omega arith) j in
    omega (arith, eight_pow j)

-- ---- numbers of many digits, and of few

huge : (f : Format) (n i j : ℕ) → 10 ^ i ≤ n → j + 342 ≤ i → round f false n (10 ^ j) ≡ inf false
huge f n i j h far =
    let k = i - j in
    let a : 2 ^ suc (emax f) ≤ 10 ^ k = twos _ k (omega (arith, emax_below f)) in
    let b : 2 ^ suc (emax f) * 10 ^ j ≤ 10 ^ k * 10 ^ j = mul-le-mul_right (10 ^ j) a in
    let c : 10 ^ i ≡ 10 ^ k * 10 ^ j = ap (λ (z : ℕ). 10 ^ z) (omega arith) ∙ pow-add 10 k j in
    round_huge f n (10 ^ j) (ten_pos j) (omega arith)

below : (f : Format) (n i j : ℕ) → n < 10 ^ i → i + 1075 ≤ j → n * (2 ^ (low f + 1) * 1) < 10 ^ j
below f n i j h far =
    let k = low f + 1 in
    let a : 2 ^ k ≤ 10 ^ k = twos k k (omega arith) in
    let b : (n + 1) * 2 ^ k ≤ 10 ^ i * 10 ^ k = mul-le-mul (omega arith) a in
    let c : 10 ^ i * 10 ^ k ≤ 10 ^ j =
    subst (λ (z : ℕ). z ≤ 10 ^ j) (pow-add 10 i k) (tens (i + k) j (omega (arith, low_below f))) in
    let d : (n + 1) * 2 ^ k ≡ n * (2 ^ k * 1) + 2 ^ k = grind arith in
    let e : 0 < 2 ^ k = one-le-pow k 2 (omega arith) in
    omega arith

tiny : (f : Format) (n m i j k l : ℕ) → 0 < n → n < 10 ^ i → i + 1075 ≤ j → 0 < m → m < 10 ^ k
    → k + 1075 ≤ l → round f false n (10 ^ j) ≡ round f false m (10 ^ l)
tiny f n m i j k l N ni ij M mk kl =
    let t = 2 ^ (low f + 1) * 1 in
    let T : 0 < t = omega (arith, one-le-pow (low f + 1) 2 (omega arith)) in
    let nt : 1 * 1 ≤ n * t = mul-le-mul N T in
    let mt : 1 * 1 ≤ m * t = mul-le-mul M T in
    let nb = below f n i j ni ij in
    let mb = below f m k l mk kl in
    round_within f false 1 0 (omega arith) n (10 ^ j) m (10 ^ l) (ten_pos j) (ten_pos l)
    (omega arith) (omega arith) (omega arith) (omega arith)

last_small : (more : Bool) → last_digit more ≤ 1
last_small true = omega arith
last_small false = omega arith

-- ---- a number d, of which v and w + 1 digits are kept, and c cut

module _ (f : Format) (d v c w : ℕ) (more : Bool) (a b : ℕ) (cut : IsCut d v c more) where
  abbrev s : ℕ
  s = last_digit more

  small : s ≤ 1
  small = last_small more

  at_least : 10 ^ w ≤ v → 10 ^ (w + (a + c)) ≤ d * 10 ^ a
  at_least h =
      let e : 10 ^ (w + (a + c)) ≡ 10 ^ w * 10 ^ c * 10 ^ a =
      ap (λ (z : ℕ). 10 ^ z) (omega arith) ∙ pow-add 10 (w + c) a
      ∙ ap (λ (z : ℕ). z * 10 ^ a) (pow-add 10 w c) in
      let g : 10 ^ w * 10 ^ c ≤ v * 10 ^ c = mul-le-mul_right (10 ^ c) h in
      let k : 10 ^ w * 10 ^ c * 10 ^ a ≤ d * 10 ^ a =
      mul-le-mul_right (10 ^ a) (omega (arith, cut.least)) in
      omega arith

  written_least : (up : ℕ) → 10 ^ w ≤ v → 10 ^ (w + 1 + up) ≤ (v * 10 + s) * 10 ^ up
  written_least up h =
      let e : 10 ^ (w + 1 + up) ≡ 10 ^ w * 10 * 10 ^ up =
      pow-add 10 (w + 1) up ∙ ap (λ (z : ℕ). z * 10 ^ up) (pow-add 10 w 1) in
      let k : 10 ^ w * 10 * 10 ^ up ≤ (v * 10 + s) * 10 ^ up =
      mul-le-mul_right (10 ^ up) (omega arith) in
      omega arith

  at_most : (x : ℕ) → v < 10 ^ x → d * 10 ^ a < 10 ^ (x + (a + c))
  at_most x h =
      let e : 10 ^ (x + (a + c)) ≡ 10 ^ x * 10 ^ c * 10 ^ a =
      ap (λ (z : ℕ). 10 ^ z) (omega arith) ∙ pow-add 10 (x + c) a
      ∙ ap (λ (z : ℕ). z * 10 ^ a) (pow-add 10 x c) in
      let g : (v + 1) * 10 ^ c ≤ 10 ^ x * 10 ^ c = mul-le-mul_right (10 ^ c) (omega arith) in
      let k : (d + 1) * 10 ^ a ≤ 10 ^ x * 10 ^ c * 10 ^ a =
      mul-le-mul_right (10 ^ a) (omega (arith, cut.most)) in
      let l : (d + 1) * 10 ^ a ≡ d * 10 ^ a + 10 ^ a = grind arith in
      omega (arith, ten_pos a)

  written_most : (x up : ℕ) → v < 10 ^ x → (v * 10 + s) * 10 ^ up < 10 ^ (x + 1 + up)
  written_most x up h =
      let e : 10 ^ (x + 1 + up) ≡ 10 ^ x * 10 * 10 ^ up =
      pow-add 10 (x + 1) up ∙ ap (λ (z : ℕ). z * 10 ^ up) (pow-add 10 x 1) in
      let k : (v * 10 + s + 1) * 10 ^ up ≤ 10 ^ x * 10 * 10 ^ up =
      mul-le-mul_right (10 ^ up) (omega (arith, small)) in
      let l : (v * 10 + s + 1) * 10 ^ up ≡ (v * 10 + s) * 10 ^ up + 10 ^ up = grind arith in
      omega (arith, ten_pos up)

-- a number that is d times ten to a over ten to b is written as v and a digit, and a power of ten
abbrev pub IsWritten : Format → ℕ → ℕ → Bool → ℕ → ℕ → ℕ → ℕ → Type 0
IsWritten f d v more a b up down = round f false (d * 10 ^ a) (10 ^ b)
    ≡ round f false ((v * 10 + last_digit more) * 10 ^ up) (10 ^ down)

-- ---- it rounds as before, times ten to a power that is held between two bounds

module _ (f : Format) (d v c w : ℕ) (more : Bool) (a b : ℕ) (cut : IsCut d v c more) where
  abbrev Same : ℕ → ℕ → Type 0
  Same up down = IsWritten f d v more a b up down

  -- the power is as it was, and what is cut is zeros
  zeros : (up down : ℕ) → more ≡ false → up + (b + 1) ≡ down + (a + c) → Same up down
  zeros up down e power =
      let p : 10 ^ (up + (b + 1)) ≡ 10 ^ up * (10 ^ b * 10) =
      pow-add 10 up (b + 1) ∙ ap (λ (z : ℕ). 10 ^ up * z) (pow-add 10 b 1) in
      let q : 10 ^ (down + (a + c)) ≡ 10 ^ down * (10 ^ a * 10 ^ c) =
      pow-add 10 down (a + c) ∙ ap (λ (z : ℕ). 10 ^ down * z) (pow-add 10 a c) in
      let r : 10 ^ up * (10 ^ b * 10) ≡ 10 ^ down * (10 ^ a * 10 ^ c) =
      sym p ∙ ap (λ (z : ℕ). 10 ^ z) power ∙ q in
      let s : v * (10 ^ up * (10 ^ b * 10)) ≡ v * (10 ^ down * (10 ^ a * 10 ^ c)) =
      ap (λ (z : ℕ). v * z) r in
      let t : (v * 10 + 0) * 10 ^ up * 10 ^ b ≡ v * (10 ^ up * (10 ^ b * 10)) = grind arith in
      let u : v * 10 ^ c * 10 ^ a * 10 ^ down ≡ v * (10 ^ down * (10 ^ a * 10 ^ c)) = grind arith in
      rw (e, cut.same e)
      (round_same f false (v * 10 ^ c * 10 ^ a) (10 ^ b) ((v * 10 + 0) * 10 ^ up) (10 ^ down)
      (ten_pos b) (ten_pos down) (omega arith))

  -- the power is as it was, and so low that what is cut can't matter
  low_rest : more ≡ true → a + c + low f + 1 ≤ b → Same 0 (b + 1 - (a + c))
  low_rest e far =
      let x = low f + 1 in
      let y = b - (a + c) in
      let m = 5 ^ x * 10 ^ (y - x) in
      let M : 0 < m = one-le-mul (one-le-pow x 5 (omega arith)) (ten_pos (y - x)) in
      let split : 10 ^ y ≡ 2 ^ x * m =
      ap (λ (z : ℕ). 10 ^ z) (omega arith) ∙ pow-add 10 x (y - x)
      ∙ ap (λ (z : ℕ). z * 10 ^ (y - x)) (mul-pow 2 5 x)
      ∙ mul_assoc (2 ^ x) (5 ^ x) (10 ^ (y - x)) in
      let B : 10 ^ b ≡ 10 ^ c * 10 ^ a * 10 ^ y =
      ap (λ (z : ℕ). 10 ^ z) (omega arith) ∙ pow-add 10 (c + a) y
      ∙ ap (λ (z : ℕ). z * 10 ^ y) (pow-add 10 c a) in
      let D : 10 ^ (b + 1 - (a + c)) ≡ 10 ^ y * 10 =
      ap (λ (z : ℕ). 10 ^ z) (omega arith) ∙ pow-add 10 y 1 in
      let one : 10 ^ 0 ≡ 1 = refl in
      let k = 10 ^ a * 10 ^ y in
      let K : 0 < k = one-le-mul (ten_pos a) (ten_pos y) in
      let lo : (v * 10 ^ c + 1) * k ≤ d * k = mul-le-mul_right k (omega (arith, cut.above e)) in
      let hi : (d + 1) * k ≤ (v + 1) * 10 ^ c * k = mul-le-mul_right k (omega (arith, cut.most)) in
      let l1 : (v * 10 ^ c + 1) * k ≡ v * (10 ^ c * 10 ^ a * 10 ^ y) + k = grind arith in
      let l2 : d * k ≡ d * 10 ^ a * 10 ^ y = grind arith in
      let h1 : (d + 1) * k ≡ d * 10 ^ a * 10 ^ y + k = grind arith in
      let h2 : (v + 1) * 10 ^ c * k ≡ (v + 1) * (10 ^ c * 10 ^ a * 10 ^ y) = grind arith in
      let Y : 0 < 10 ^ y = ten_pos y in
      let w1 : (v * 10 + 1) * 1 * 10 ^ y ≡ v * (10 ^ y * 10) + 10 ^ y = grind arith in
      let w2 : (v + 1) * (10 ^ y * 10) ≡ v * (10 ^ y * 10) + 10 * 10 ^ y = grind arith in
      let a1 : v * 10 ^ b < d * 10 ^ a * 10 ^ y = rw B (omega arith) in
      let a2 : d * 10 ^ a * 10 ^ y < (v + 1) * 10 ^ b = rw B (omega arith) in
      let b1 : v * 10 ^ (b + 1 - (a + c)) < (v * 10 + 1) * 1 * 10 ^ y = rw D (omega arith) in
      let b2 : (v * 10 + 1) * 1 * 10 ^ y < (v + 1) * 10 ^ (b + 1 - (a + c)) = rw D (omega arith) in
      rw e
      (round_within f false m v M (d * 10 ^ a) (10 ^ b) ((v * 10 + 1) * 1)
      (10 ^ (b + 1 - (a + c))) (ten_pos b) (ten_pos (b + 1 - (a + c)))
      (subst (λ (z : ℕ). v * 10 ^ b < d * 10 ^ a * z) split a1)
      (subst (λ (z : ℕ). d * 10 ^ a * z < (v + 1) * 10 ^ b) split a2)
      (subst (λ (z : ℕ). v * 10 ^ (b + 1 - (a + c)) < (v * 10 + 1) * 1 * z) split b1)
      (subst (λ (z : ℕ). (v * 10 + 1) * 1 * z < (v + 1) * 10 ^ (b + 1 - (a + c))) split b2))

  -- both are above all floats
  both_huge : (up down : ℕ) → 10 ^ w ≤ v → b + 342 ≤ w + (a + c) → down + 342 ≤ w + 1 + up
      → Same up down
  both_huge up down h far near =
      huge f _ _ b (at_least f d v c w more a b cut h) far
      ∙ sym (huge f _ _ down (written_least f d v c w more a b cut up h) near)

some_cut : (d v c : ℕ) (more : Bool) → more ≡ true → IsCut d v c more → 0 < c
some_cut d v zero more e cut =
    let one : 10 ^ 0 ≡ 1 = refl in
    absurd (omega (arith, cut.above e, cut.most))
some_cut d v (suc c) more e cut = omega arith

-- where no digit is kept, all are zeros
nothing : (f : Format) (d v c : ℕ) (more : Bool) (a b up down : ℕ) → IsCut d v c more → v ≡ 0
    → c ≡ 0 → IsWritten f d v more a b up down
nothing f d v c more a b up down cut V C = by_more more cut
  where
    most : (t : Bool) → IsCut d v c t → d ≡ 0
    most t cut =
        let h : d < (v + 1) * 10 ^ c = cut.most in
        let e : (v + 1) * 10 ^ c ≡ 1 = rw (V, C) refl in
        omega arith

    by_more : (t : Bool) → IsCut d v c t → IsWritten f d v t a b up down
    by_more true cut =
        let h : v * 10 ^ c < d = cut.above refl in
        absurd (omega (arith, most true cut))
    by_more false cut =
        rw (most false cut, V)
        (round_same f false (0 * 10 ^ a) (10 ^ b) (0 * 10 ^ up) (10 ^ down) (ten_pos b)
        (ten_pos down) (grind arith))

-- the exponent's two bounds, and how many digits are kept, are such that each case is one of these
module _ (f : Format) (d v c len : ℕ) (more : Bool) (a b : ℕ) (cut : IsCut d v c more)
    (first : 0 < len → 10 ^ len ≤ v * 10) (fits : v < 10 ^ len) (room : len ≤ 1420)
    (full : 0 < c → len ≡ 1420) where
  abbrev At : ℕ → ℕ → Type 0
  At up down = IsWritten f d v more a b up down

  first_digit : 0 < len → 10 ^ (len - 1) ≤ v
  first_digit l =
      let e : 10 ^ len ≡ 10 ^ (len - 1) * 10 =
      ap (λ (z : ℕ). 10 ^ z) (omega arith) ∙ pow-add 10 (len - 1) 1 in
      omega (arith, first l)

  none : len ≡ 0 → (up down : ℕ) → At up down
  none l up down =
      let V : v < 10 ^ 0 = subst (λ (z : ℕ). v < 10 ^ z) l fits in
      let C : c ≡ 0 = no_more c full in
      nothing f d v c more a b up down cut (omega arith) C
    where
      no_more : (n : ℕ) → (0 < n → len ≡ 1420) → n ≡ 0
      no_more zero h = refl
      no_more (suc n) h = absurd (omega (arith, h (omega arith)))

  some : 0 < len → At (min (a + c - (b + 1)) 400) (min (b + 1 - (a + c)) 3000)
  some l = by_top (leb (b + 401) (a + c)) (leb→le (b + 401) (a + c)) (nleb→lt (b + 401) (a + c))
    where
      p : ℕ
      p = a + c

      V : 1 ≤ v
      V = omega (arith, first l, ten_pos len)

      one : 10 ^ 0 ≤ v
      one = V

      D : 0 < d * 10 ^ a
      D =
          let h : 1 * 1 ≤ v * 10 ^ c = mul-le-mul V (ten_pos c) in
          one-le-mul (omega (arith, cut.least)) (ten_pos a)

      W : 0 < (v * 10 + last_digit more) * 10 ^ 0
      W = omega arith

      by_far : (t : Bool) → more ≡ true → len ≡ 1420 → (T t → p + low f + 1 ≤ b)
          → (T (not t) → b < p + low f + 1) → p < b + 401 → At (p - (b + 1)) (b + 1 - p)
      by_far true e r y n t =
          let g : p - (b + 1) ≡ 0 = omega (arith, y tt) in
          rw g (low_rest f d v c 0 more a b cut e (y tt))
      by_far false e r y n t =
          let far = n tt in
          let low = low_below f in
          both_huge f d v c (len - 1) more a b cut (p - (b + 1)) (b + 1 - p) (first_digit l)
          (omega arith) (omega arith)

      by_more : (t : Bool) → more ≡ t → p < b + 401 → b + 1 < p + 3000
          → At (p - (b + 1)) (b + 1 - p)
      by_more false e t l = zeros f d v c 0 more a b cut (p - (b + 1)) (b + 1 - p) e (omega arith)
      by_more true e t l =
          by_far (leb (p + low f + 1) b) e (full (some_cut d v c more e cut))
          (leb→le (p + low f + 1) b) (nleb→lt (p + low f + 1) b) t

      by_low : (t : Bool) → (T t → p + 3000 ≤ b + 1) → (T (not t) → b + 1 < p + 3000) → p < b + 401
          → At (min (p - (b + 1)) 400) (min (b + 1 - p) 3000)
      by_low true y n t =
          let e : min (p - (b + 1)) 400 ≡ 0 = omega (arith, y tt) in
          let g : min (b + 1 - p) 3000 ≡ 3000 = omega (arith, y tt) in
          let far = y tt in
          rw (e, g)
          (tiny f _ _ (len + (a + c)) b (len + 1 + 0) 3000 D
          (at_most f d v c 0 more a b cut len fits)
          (omega arith) W (written_most f d v c 0 more a b cut len 0 fits) (omega arith))
      by_low false y n t =
          let e : min (p - (b + 1)) 400 ≡ p - (b + 1) = omega arith in
          let g : min (b + 1 - p) 3000 ≡ b + 1 - p = omega (arith, n tt) in
          rw (e, g) (by_more more refl t (n tt))

      by_top : (t : Bool) → (T t → b + 401 ≤ p) → (T (not t) → p < b + 401)
          → At (min (p - (b + 1)) 400) (min (b + 1 - p) 3000)
      by_top true y n =
          let e : min (p - (b + 1)) 400 ≡ 400 = omega (arith, y tt) in
          let g : min (b + 1 - p) 3000 ≡ 0 = omega (arith, y tt) in
          rw (e, g)
          (both_huge f d v c 0 more a b cut 400 0 one (omega (arith, y tt)) (omega arith))
      by_top false y n = by_low (leb (p + 3000) (b + 1)) (leb→le _ _) (nleb→lt _ _) (n tt)

  pub round_cut : At (min (a + c - (b + 1)) 400) (min (b + 1 - (a + c)) 3000)
  round_cut = by_len (leb len 0) (leb→le len 0) (nleb→lt len 0)
    where
      by_len : (t : Bool) → (T t → len ≤ 0) → (T (not t) → 0 < len)
          → At (min (a + c - (b + 1)) 400) (min (b + 1 - (a + c)) 3000)
      by_len true y n = none (omega (arith, y tt)) _ _
      by_len false y n = some (n tt)
