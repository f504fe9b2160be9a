-- A number between two that round alike rounds as they do.
use Rattle.std.proofs.Common.{◌≡◌, ℕ, suc, ◌+◌, ◌*◌, ◌/◌, ◌^◌, ◌<◌, ◌≤◌, Bool, true, false, ◌&&◌, cond, T, ltb, refl, sym, ap, subst, ◌∙◌, true≢false, ◌⊎◌, inl, inr, arith, mul-le-mul_left, mul-le-mul_right}
use mathlib.Core.Bool.{◌||◌}
use native.Mathlib.Nat.{le_antisymm, le_of_lt, le_trans, le_of_mul-le-mul_right, mul-pos}
use Rattle.std.specs.Prelude.{min}
use Rattle.std.proofs.Math.Nat.{pow-le-pow_right}
use lib.Dec.{leb→le, ltb→lt, eqb, eqb→eq}
use lib.Pow.{pow-add, pow_pos, pow_mono}
use lib.Ieee.{Float, nan, inf, fin, Format, binary32, binary64, emax, low, prec, up, down, odd, units, fits, of_bits, round, le, lt, eq}
use lib.Ieee.Bits.{of_bits-to_bits}
use lib.Ieee.Exact.{HasValue, odd_sign}
use lib.Ieee.Fits.{down_pos, round_is, round-fits}
use lib.Ieee.Order.{round_mono, transfer}
use Rattle.digit_floats.specs.Binary.{IsWholePart}
use Rattle.digit_floats.specs.Near.{power_scale, IsRow, IsScaled, IsCutAt}
use Rattle.digit_floats.proofs.HexDigits.{zero_is}
use Rattle.digit_floats.proofs.Huge.{above_inf, round_huge, emax_below}
use Rattle.digit_floats.proofs.Product.{least_product, most_product}
use Rattle.digit_floats.proofs.Squeeze.{bits_of_value}
use Rattle.digit_floats.proofs.Tens.{ten_pos}

-- ---- two floats in both orders are one

-- a times the least float above 0, or the infinity
abbrev IsValue : Format → Float → ℕ → Type 0
IsValue f x a = (x ≡ inf false) ⊎ HasValue x false a (2 ^ low f)

units_value : (f : Format) (q k : ℕ) → IsValue f (units f false q k) (q * 2 ^ k)
unfolding units
units_value f q k = go (ltb (q * 2 ^ k) (2 ^ (low f + suc (emax f))))
  where
    go : (b : Bool)
        → IsValue f (cond b (odd (suc (prec f)) false q k (low f)) (inf false)) (q * 2 ^ k)
    go true = inr (odd_sign (suc (prec f)) false q k (low f))
    go false = inl refl

or_le : (p q : Bool) (a b : ℕ) → (T p → a < b) → (T q → a ≡ b) → T (p || (q && true)) → a ≤ b
or_le true q a b l e t = omega (arith, l tt)
or_le false true a b l e t = omega (arith, e tt)
or_le false false a b l e t = absurd t

values_le : (x y : Float) (a b c : ℕ) → 0 < c → HasValue x false a c → HasValue y false b c
    → T (le x y) → a ≤ b
unfolding le lt eq
values_le nan y a b c C v w t = absurd v
values_le (inf s) y a b c C v w t = absurd v
values_le (fin true m e) y a b c C v w t = absurd (true≢false v.0)
values_le (fin false m e) nan a b c C v w t = absurd w
values_le (fin false m e) (inf s) a b c C v w t = absurd w
values_le (fin false m e) (fin true n d) a b c C v w t = absurd (true≢false w.0)
values_le (fin false m e) (fin false n d) a b c C v w t =
    let x : ℕ = m * up e * down d in
    let y : ℕ = n * up d * down e in
    let l : x ≤ y = or_le (ltb x y) (eqb x y) x y (ltb→lt x y) (eqb→eq x y) t in
    le_of_mul-le-mul_right {k = c}
    (transfer a b c c (m * up e) (n * up d) (down e) (down d) (down_pos e) (down_pos d) (sym v.1)
    (sym w.1) l) C

anti : (f : Format) (x y : Float) (a b : ℕ) → T (fits f x) → T (fits f y) → IsValue f x a
    → IsValue f y b → T (le x y) → T (le y x) → x ≡ y
anti f x y a b X Y (inl e) w l m =
    e ∙ sym (above_inf y (subst (λ z. T (le z y)) e l))
anti f x y a b X Y (inr v) (inl g) l m =
    above_inf x (subst (λ z. T (le z x)) g m) ∙ sym g
anti f x y a b X Y (inr v) (inr w) l m =
    let same : a ≡ b =
    le_antisymm (values_le x y a b (2 ^ low f) (pow_pos (low f)) v w l)
    (values_le y x b a (2 ^ low f) (pow_pos (low f)) w v m) in
    sym (of_bits-to_bits f x X)
    ∙ ap (of_bits f)
    (bits_of_value f x false b (subst (λ z. HasValue x false z (2 ^ low f)) same v)
    ∙ sym (bits_of_value f y false b w))
    ∙ of_bits-to_bits f y Y

units_anti : (f : Format) (x y : Float) (q k r j : ℕ) → x ≡ units f false q k
    → y ≡ units f false r j → T (fits f x) → T (fits f y) → T (le x y) → T (le y x) → x ≡ y
units_anti f x y q k r j e g X Y l m =
    anti f x y (q * 2 ^ k) (r * 2 ^ j) X Y
    (subst (λ z. IsValue f z (q * 2 ^ k)) (sym e) (units_value f q k))
    (subst (λ z. IsValue f z (r * 2 ^ j)) (sym g) (units_value f r j)) l m

round_anti : (f : Format) (a b c d : ℕ) → T (le (round f false a b) (round f false c d))
    → T (le (round f false c d) (round f false a b)) → round f false a b ≡ round f false c d
round_anti f a b c d l m =
    units_anti f (round f false a b) (round f false c d) _ _ _ _ (round_is f false a b)
    (round_is f false c d) (round-fits f false a b) (round-fits f false c d) l m

-- num / den lies from a / b to c / e
pub rounds_alike : (f : Format) (num den a b c e : ℕ) → 0 < den → 0 < b → 0 < e
    → a * den ≤ num * b → num * e ≤ c * den → round f false a b ≡ round f false c e
    → round f false a b ≡ round f false num den
rounds_alike f num den a b c e D B E from to same =
    round_anti f a b num den (round_mono f a b num den B D from)
    (subst (λ z. T (le (round f false num den) z)) (sym same) (round_mono f num den c e D E to))

-- ---- beyond the powers of ten of the table

tens : {i j : ℕ} → i ≤ j → 10 ^ i ≤ 10 ^ j
tens h = pow-le-pow_right {n = 10} (omega arith) h

scaled : (n w c u h t b : ℕ) → n ≤ w * c → w * h ≤ t → t * (c * u) ≤ b → n * u * h ≤ b
scaled n w c u h t b l m k =
    let x : n * (u * h) ≤ w * c * (u * h) = mul-le-mul_right (u * h) l in
    let y : w * h * (c * u) ≤ t * (c * u) = mul-le-mul_right (c * u) m in
    let i : n * u * h ≡ n * (u * h) = grind arith in
    let j : w * c * (u * h) ≡ w * h * (c * u) = grind arith in
    omega (arith, x, y, i, j, k)

half_of_least : (f : Format) → round f false (0 * 1) 1 ≡ round f false 1 (2 ^ 1075)
unfolding round
half_of_least binary32 = refl
half_of_least binary64 = refl

module _ (f : Format) (n digits cut up below : ℕ) (is : IsCutAt n digits cut) (some : 0 < digits)
  where
    pub infinite : below + 309 ≤ cut + up → round f false (n * 10 ^ up) (10 ^ below) ≡ inf false
    infinite far =
        let two : 2 ^ suc (emax f) ≤ 2 ^ 1024 = pow_mono (emax_below f) in
        let ten : 2 ^ 1024 ≤ 10 ^ 309 = leb→le (2 ^ 1024) (10 ^ 309) tt in
        let one : 1 * 10 ^ cut ≤ digits * 10 ^ cut = mul-le-mul_right (10 ^ cut) some in
        let a : 10 ^ (cut + up) ≤ n * 10 ^ up =
        subst (λ z. z ≤ n * 10 ^ up) (sym (pow-add 10 cut up))
        (mul-le-mul_right (10 ^ up) (omega (arith, one, is.from))) in
        let b : 10 ^ (309 + below) ≤ 10 ^ (cut + up) = tens (omega (arith, far)) in
        let c : 2 ^ suc (emax f) * 10 ^ below ≤ 10 ^ 309 * 10 ^ below =
        mul-le-mul_right (10 ^ below) (le_trans two ten) in
        round_huge f (n * 10 ^ up) (10 ^ below) (ten_pos below)
        (omega (arith, a, b, c, pow-add 10 309 below))

    pub none : digits < 2 ^ 64 → cut + up + 343 ≤ below
        → units f false 0 0 ≡ round f false (n * 10 ^ up) (10 ^ below)
    none fits far =
        let last : (digits + min cut 1) * 10 ^ cut ≤ 2 ^ 64 * 10 ^ cut =
        mul-le-mul_right (10 ^ cut) (omega (arith, fits)) in
        let most : n * 10 ^ up * 2 ^ 1075 ≤ 10 ^ below =
        scaled n (2 ^ 64) (10 ^ cut) (10 ^ up) (2 ^ 1075) (10 ^ 343) (10 ^ below)
        (le_trans is.to last) (leb→le (2 ^ 64 * 2 ^ 1075) (10 ^ 343) tt)
        (subst (λ z. z ≤ 10 ^ below)
        (pow-add 10 343 (cut + up) ∙ ap (λ z. 10 ^ 343 * z) (pow-add 10 cut up))
        (tens (omega (arith, far)))) in
        zero_is f 0 1 1 refl (omega arith)
        ∙ rounds_alike f (n * 10 ^ up) (10 ^ below) (0 * 1) 1 1 (2 ^ 1075) (ten_pos below)
        (omega arith) (pow_pos 1075) (omega arith) (omega (arith, most)) (half_of_least f)

-- ---- between two products

exactly : (a b v : ℕ) → 0 < b → a ≡ v * b → IsWholePart a b v false
exactly a b v B e =
    let next : (v + 1) * b ≡ v * b + b = grind arith in
    record {
      least = omega (arith, e);
      most = omega (arith, e, next, B);
      same = λ _. e;
      above = λ h. absurd (true≢false (sym h));
    }

-- the number v of a product of a row, which is top / bottom
abbrev pub top : ℕ → ℕ → ℕ
top q v = v * (2 ^ 64 * 2 ^ power_scale q)

abbrev pub bottom : ℕ → ℕ
bottom z = 2 ^ z * 2 ^ 1200

pub bottom_pos : (z : ℕ) → 0 < bottom z
bottom_pos z = mul-pos (pow_pos z) (pow_pos 1200)

pub part_of : (f : Format) (q z v above below : ℕ) → above ≡ 64 + power_scale q + low f
    → below ≡ 1200 + z
    → IsWholePart (top q v * 2 ^ low f * 2 ^ below) (2 ^ above * bottom z) v false
part_of f q z v above below up down =
    let a : 2 ^ above ≡ 2 ^ 64 * 2 ^ power_scale q * 2 ^ low f =
    ap (λ x. 2 ^ x) up ∙ pow-add 2 (64 + power_scale q) (low f)
    ∙ ap (λ x. x * 2 ^ low f) (pow-add 2 64 (power_scale q)) in
    let c : 2 ^ below ≡ 2 ^ 1200 * 2 ^ z = ap (λ x. 2 ^ x) down ∙ pow-add 2 1200 z in
    exactly _ _ v (mul-pos (pow_pos above) (bottom_pos z)) (rw (a, c) (grind arith))

module _ (f : Format) (num den m more q t z h g : ℕ) (D : 0 < den) (M : 0 < m) (r : IsRow q t)
    (b : IsScaled num den m (m + more) q)
    (lower : h * 2 ^ 64 ≤ m * 2 ^ z * t) (upper : (m + more) * 2 ^ z * (t + 1) ≤ g * 2 ^ 64) where
  pub as_both : round f false (top q h) (bottom z) ≡ round f false (top q g) (bottom z)
      → round f false (top q h) (bottom z) ≡ round f false num den
  as_both same =
      let x : top q h * den ≡ h * 2 ^ 64 * 2 ^ power_scale q * den = grind arith in
      let y : num * bottom z ≡ num * 2 ^ z * 2 ^ 1200 = grind arith in
      let w : top q g * den ≡ g * 2 ^ 64 * 2 ^ power_scale q * den = grind arith in
      rounds_alike f num den (top q h) (bottom z) (top q g) (bottom z) D (bottom_pos z)
      (bottom_pos z)
      (rw (x, y) (least_product num den m more q t z D M r b h lower))
      (le_of_lt (rw (y, w) (most_product num den m more q t z D M r b g upper))) same

-- ---- the upper one of the two numbers of a product

pub above_product : (m more z t : ℕ) → m * 2 ^ z < 2 ^ 64 → t < 2 ^ 64
    → (m + more) * 2 ^ z * (t + 1) ≤ (m * 2 ^ z * t / 2 ^ 64 + 2 + more * 2 ^ z) * 2 ^ 64
above_product m more z t few fits =
    let e : (m + more) * 2 ^ z * (t + 1)
    ≡ m * 2 ^ z * t + m * 2 ^ z + more * 2 ^ z * (t + 1) = grind arith in
    let l : more * 2 ^ z * (t + 1) ≤ more * 2 ^ z * 2 ^ 64 =
    mul-le-mul_left (more * 2 ^ z) (omega (arith, fits)) in
    omega (arith, e, l, few)
