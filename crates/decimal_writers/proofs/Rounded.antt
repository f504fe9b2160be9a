-- A number rounded to one digit and so many places.
use Rattle.std.proofs.Common.{◌≡◌, ℕ, ℤ, zero, suc, ◌+◌, ◌-◌, ◌*◌, ◌/◌, ◌^◌, ◌<◌, ◌≤◌, Bool, true, false, List, ◌++◌, take, refl, sym, ap, subst, ◌∙◌, inl, inr, arith}
use Rattle.std.specs.Prelude.{pos, ◌+ℤ◌, ◌-ℤ◌, negsuc, ◌==◌, if◌then◌else◌}
use Rattle.std.specs.Float.{Float, nan, inf, fin}
use Rattle.std.specs.Float.Ieee.{up, down}
use Rattle.std.specs.Fmt.{sign_text}
use Rattle.std.proofs.Math.Nat.{div-one, zero-div}
use Rattle.std.proofs.lemmas.Bool.{cases_lt}
use Rattle.std.proofs.lemmas.Bool.Decides.{nat_tests}
use Rattle.std.proofs.lemmas.Int.{ints}
use native.Mathlib.Nat.{mul-pos, mul-lt-mul_of_pos_right, eq_of_mul-eq-mul_right, le-div_iff_mul-le, div-lt_iff_lt-mul, div-div-eq-div-mul}
use lib.Pow.{pow-add}
use lib.Ieee.Exact.{HasValue}
use lib.Ieee.Fits.{down_pos, nearest-le}
use lib.Ieee.Nearest.{closest, closest_same}
use Rattle.decimal_writers.specs.Big.{value_of, IsBig}
use Rattle.decimal_writers.specs.Scientific.{first_of, units_in, carried, rounded, mark_text, scientific_text, power_of}
use Rattle.decimal_writers.specs.Text.{with_point}
use Rattle.decimal_writers.specs.declared.exponent.ExponentText.{ExponentText}
use Rattle.decimal_writers.proofs.Bigs.{value_nil, ten_more}
use Rattle.decimal_writers.proofs.First.{IsFirst, first_by, first_big, first_same}
use Rattle.decimal_writers.proofs.Numerals.{ten_pos}
use Rattle.decimal_writers.proofs.Rounding.{closest_whole, front_below}

-- ---- in units of a power of ten

units_same : (a b c d : ℕ) (z : ℤ) → 0 < b → 0 < d → a * d ≡ c * b
    → units_in z a b ≡ units_in z c d
units_same a b c d (pos n) pos_b pos_d e =
    closest_same a (b * 10 ^ n) c (d * 10 ^ n) (mul-pos pos_b (ten_pos n))
    (mul-pos pos_d (ten_pos n)) (omega (arith, ap (λ (x : ℕ). x * 10 ^ n) e))
units_same a b c d (negsuc n) pos_b pos_d e =
    closest_same (a * 10 ^ (n + 1)) b (c * 10 ^ (n + 1)) d pos_b pos_d
    (omega (arith, ap (λ (x : ℕ). x * 10 ^ (n + 1)) e))

units_are : (v p dropped zeros : ℕ) (z : ℤ) → pos dropped -ℤ pos (zeros + p) ≡ z
    → units_in z v (10 ^ p) ≡ closest (v * 10 ^ zeros) (10 ^ dropped)
units_are v p dropped zeros (pos n) e =
    let all : dropped ≡ zeros + (p + n) = omega (arith, ints, e) in
    let tens : 10 ^ dropped ≡ 10 ^ zeros * (10 ^ p * 10 ^ n) =
    ap (λ (x : ℕ). 10 ^ x) all ∙ pow-add 10 zeros (p + n)
    ∙ ap (λ (x : ℕ). 10 ^ zeros * x) (pow-add 10 p n) in
    closest_same v (10 ^ p * 10 ^ n) (v * 10 ^ zeros) (10 ^ dropped)
    (mul-pos (ten_pos p) (ten_pos n)) (ten_pos dropped)
    (omega (arith, ap (λ (x : ℕ). v * x) tens))
units_are v p dropped zeros (negsuc n) e =
    let all : dropped + (n + 1) ≡ zeros + p = omega (arith, ints, e) in
    let tens : 10 ^ dropped * 10 ^ (n + 1) ≡ 10 ^ zeros * 10 ^ p =
    sym (pow-add 10 dropped (n + 1)) ∙ ap (λ (x : ℕ). 10 ^ x) all ∙ pow-add 10 zeros p in
    closest_same (v * 10 ^ (n + 1)) (10 ^ p) (v * 10 ^ zeros) (10 ^ dropped) (ten_pos p)
    (ten_pos dropped) (omega (arith, ap (λ (x : ℕ). v * x) tens))

-- ---- the carry

abbrev choice : Bool → ℕ → ℕ → ℤ → ℕ × ℤ
choice t places units z = if t then (10 ^ places, z +ℤ pos 1) else (units, z)

kept : (places units : ℕ) (z : ℤ) → units < 10 ^ (places + 1) → carried places units z ≡ (units, z)
kept places units z few =
    let no : (units == 10 ^ (places + 1)) ≡ false = grind (arith, nat_tests, few) in
    ap (λ (t : Bool). choice t places units z) no

more : (places units : ℕ) (z : ℤ) → units ≡ 10 ^ (places + 1)
    → carried places units z ≡ (10 ^ places, z +ℤ pos 1)
more places units z all =
    let yes : (units == 10 ^ (places + 1)) ≡ true = grind (arith, nat_tests, all) in
    ap (λ (t : Bool). choice t places units z) yes

-- ---- of 0, and of others

abbrev if_zero : Bool → ℕ × ℤ → ℕ × ℤ
if_zero t number = if t then (0, pos 0) else number

rounded_none : (places a b : ℕ) → a ≡ 0 → rounded places a b ≡ (0, pos 0)
rounded_none places a b e = ap (λ (x : ℕ). rounded places x b) e

rounded_some : (places a b : ℕ) (z : ℤ) → 0 < a → first_of a b ≡ z
    → rounded places a b ≡ carried places (units_in (z -ℤ pos places) a b) z
rounded_some places a b z some first =
    let no : (a == 0) ≡ false = grind (arith, nat_tests, some) in
    ap (λ (t : Bool). if_zero t
    (carried places (units_in (first_of a b -ℤ pos places) a b) (first_of a b))) no
    ∙ ap (λ (y : ℤ). carried places (units_in (y -ℤ pos places) a b) y) first

-- equal fractions are rounded alike
rounded_same : (places a b c d : ℕ) (z : ℤ) → 0 < b → 0 < d → a * d ≡ c * b → 0 < c → IsFirst c d z
    → rounded places a b ≡ rounded places c d
rounded_same places a b c d z pos_b pos_d e some is =
    let back : c * b ≡ a * d = sym e in
    let both : 0 < c * b = mul-pos some pos_b in
    let above : 0 < a = elim (cases_lt 0 a) [
      | inl l ↦ l
      | inr none ↦
          let nothing : a ≡ 0 = omega (arith, none) in
          absurd (omega (arith, both, back, ap (λ (x : ℕ). x * d) nothing))
    ] in
    rounded_some places a b z above
    (first_by a b z pos_b (first_same c d a b z pos_d pos_b back is))
    ∙ ap (λ (x : ℕ). carried places x z) (units_same a b c d (z -ℤ pos places) pos_b pos_d e)
    ∙ sym (rounded_some places c d z some (first_by c d z pos_d is))

-- ---- of digits

diff : (len dropped nulls p places : ℕ) → len + nulls ≡ places + 1 + dropped
    → pos dropped -ℤ pos (nulls + p) ≡ pos len -ℤ pos (p + 1) -ℤ pos places
diff len dropped nulls p places sum = omega (arith, ints, sum)

rounded_is : (v p places len dropped zeros : ℕ) → 0 < len → v < 10 ^ len → 10 ^ (len - 1) ≤ v
    → len + zeros ≡ places + 1 + dropped
    → rounded places v (10 ^ p)
    ≡ carried places (closest (v * 10 ^ zeros) (10 ^ dropped)) (pos len -ℤ pos (p + 1))
rounded_is v p places len dropped zeros some below least sum =
    let z = pos len -ℤ pos (p + 1) in
    let above : 0 < v = omega (arith, ten_pos (len - 1), least) in
    rounded_some places v (10 ^ p) z above
    (first_by v (10 ^ p) z (ten_pos p) (first_big v p len z some below least refl))
    ∙ ap (λ (x : ℕ). carried places x z)
    (units_are v p dropped zeros (z -ℤ pos places) (diff len dropped zeros p places sum))

power_is : (len p : ℕ) → 0 < len → power_of len p ≡ pos len -ℤ pos (p + 1)
power_is len p some =
    let no : (len == 0) ≡ false = grind (arith, nat_tests, some) in
    ap (λ (t : Bool). if t then pos 0 else pos len -ℤ pos (p + 1)) no

pair : (m n : ℕ) (y z : ℤ) → m ≡ n → y ≡ z → ◌≡◌ {A = ℕ × ℤ} (m, y) (n, z)
pair m n y z e f = λ i. (e i, f i)

-- few digits, and zeros after them
pub few_are : (bytes : List ℕ) (len places fraction : ℕ)
    → IsBig bytes len (value_of (take len bytes)) → len ≤ places + 1 → fraction ≡ len - 1
    → (p : ℕ)
    → rounded places (value_of (take len bytes)) (10 ^ p)
    ≡ (value_of (take len bytes) / 10 ^ 0 * 10 ^ (places - fraction), power_of len p)
few_are bytes zero places fraction big few is p =
    let v = value_of (take 0 bytes) in
    let none : v / 10 ^ 0 * 10 ^ (places - fraction) ≡ 0 =
    ap (λ (x : ℕ). x / 10 ^ 0 * 10 ^ (places - fraction)) value_nil
    ∙ ap (λ (x : ℕ). x * 10 ^ (places - fraction)) (zero-div (10 ^ 0)) ∙ omega arith in
    rounded_none places v (10 ^ p) value_nil
    ∙ pair 0 (v / 10 ^ 0 * 10 ^ (places - fraction)) (pos 0) (pos 0) (sym none) refl
few_are bytes (suc l) places fraction big few is p =
    let v = value_of (take (suc l) bytes) in
    let zeros = places - fraction in
    let below : v < 10 ^ suc l = front_below bytes (suc l) big.digits in
    let sum : suc l + zeros ≡ places + 1 + 0 = omega (arith, few, is) in
    let tens : 10 ^ (places + 1) ≡ 10 ^ suc l * 10 ^ zeros =
    let all : places + 1 ≡ suc l + zeros = omega (arith, sum) in
    ap (λ (x : ℕ). 10 ^ x) all ∙ pow-add 10 (suc l) zeros in
    let down : v * 10 ^ zeros < 10 ^ suc l * 10 ^ zeros =
    mul-lt-mul_of_pos_right below (ten_pos zeros) in
    let z = pos (suc l) -ℤ pos (p + 1) in
    rounded_is v p places (suc l) 0 zeros (omega arith) below (big.least (omega arith)) sum
    ∙ ap (λ (x : ℕ). carried places x z) (closest_whole (v * 10 ^ zeros))
    ∙ kept places (v * 10 ^ zeros) z (omega (arith, down, tens))
    ∙ pair (v * 10 ^ zeros) (v / 10 ^ 0 * 10 ^ zeros) z (power_of (suc l) p)
    (ap (λ (x : ℕ). x * 10 ^ zeros) (sym (div-one v))) (sym (power_is (suc l) p (omega arith)))

-- many, of which the last ones are rounded off
module _ (old new : List ℕ) (len after places dropped : ℕ)
    (was : IsBig old len (value_of (take len old)))
    (is : IsBig new after (value_of (take after new))) (sum : dropped + (places + 1) ≡ len)
    (off : value_of (take after new) / 10 ^ dropped
    ≡ closest (value_of (take len old)) (10 ^ dropped)) (p : ℕ) where
  abbrev v : ℕ
  v = value_of (take len old)

  abbrev w : ℕ
  w = value_of (take after new)

  abbrev z : ℤ
  z = pos len -ℤ pos (p + 1)

  tens : 10 ^ len ≡ 10 ^ (places + 1) * 10 ^ dropped
  tens =
      let all : len ≡ places + 1 + dropped = omega (arith, sum) in
      ap (λ (x : ℕ). 10 ^ x) all ∙ pow-add 10 (places + 1) dropped

  begun : rounded places v (10 ^ p) ≡ carried places (w / 10 ^ dropped) z
  begun =
      let some : 0 < len = omega (arith, sum) in
      let one : v * 10 ^ 0 ≡ v = omega arith in
      rounded_is v p places len dropped 0 some (front_below old len was.digits) (was.least some)
      (omega (arith, sum))
      ∙ ap (λ (x : ℕ). carried places (closest x (10 ^ dropped)) z) one
      ∙ ap (λ (x : ℕ). carried places x z) (sym off)

  same_many : after ≡ len
      → rounded places v (10 ^ p)
      ≡ (w / 10 ^ (after - (places + 1)) * 10 ^ 0, power_of after p)
  same_many same =
      let below : w < 10 ^ after = front_below new after is.digits in
      let few : w / 10 ^ dropped < 10 ^ (places + 1) =
      (div-lt_iff_lt-mul (ten_pos dropped)).1
      (omega (arith, below, tens, ap (λ (x : ℕ). 10 ^ x) same)) in
      let back : dropped ≡ after - (places + 1) = omega (arith, sum, same) in
      let one : w / 10 ^ dropped ≡ w / 10 ^ (after - (places + 1)) * 10 ^ 0 =
      ap (λ (x : ℕ). w / 10 ^ x) back ∙ omega arith in
      begun ∙ kept places (w / 10 ^ dropped) z few
      ∙ pair (w / 10 ^ dropped) (w / 10 ^ (after - (places + 1)) * 10 ^ 0) z (power_of after p) one
      (ap (λ (x : ℕ). pos x -ℤ pos (p + 1)) (sym same)
      ∙ sym (power_is after p (omega (arith, sum, same))))

  one_more : after ≡ len + 1
      → rounded places v (10 ^ p)
      ≡ (w / 10 ^ (after - (places + 1)) * 10 ^ 0, power_of after p)
  one_more next =
      let back : after - 1 ≡ len = omega (arith, next) in
      let most : 10 ^ len ≤ w =
      subst (λ (x : ℕ). 10 ^ x ≤ w) back (is.least (omega (arith, next))) in
      let low : 10 ^ (places + 1) ≤ w / 10 ^ dropped =
      (le-div_iff_mul-le (ten_pos dropped)).1 (omega (arith, most, tens)) in
      let below : v < 10 ^ len = front_below old len was.digits in
      let part : v / 10 ^ dropped < 10 ^ (places + 1) =
      (div-lt_iff_lt-mul (ten_pos dropped)).1 (omega (arith, below, tens)) in
      let high : closest v (10 ^ dropped) ≤ suc (v / 10 ^ dropped) =
      nearest-le (v / 10 ^ dropped) _ in
      let all : w / 10 ^ dropped ≡ 10 ^ (places + 1) = omega (arith, low, part, high, off) in
      let gone : after - (places + 1) ≡ dropped + 1 = omega (arith, sum, next) in
      let tenth : 10 ^ (places + 1) / 10 ≡ 10 ^ places = omega (arith, ten_more places) in
      let digits : w / 10 ^ (after - (places + 1)) ≡ 10 ^ places =
      ap (λ (x : ℕ). w / 10 ^ x) gone ∙ ap (λ (x : ℕ). w / x) (ten_more dropped)
      ∙ sym (div-div-eq-div-mul w (10 ^ dropped) 10)
      ∙ ap (λ (x : ℕ). x / 10) all ∙ tenth in
      let one : 10 ^ places ≡ w / 10 ^ (after - (places + 1)) * 10 ^ 0 = omega (arith, digits) in
      let power : z +ℤ pos 1 ≡ pos after -ℤ pos (p + 1) = omega (arith, ints, next) in
      begun ∙ more places (w / 10 ^ dropped) z all
      ∙ pair (10 ^ places) (w / 10 ^ (after - (places + 1)) * 10 ^ 0) (z +ℤ pos 1)
      (power_of after p)
      one (power ∙ sym (power_is after p (omega (arith, next))))

  pub many_are : len ≤ after → after ≤ len + 1
      → rounded places v (10 ^ p)
      ≡ (w / 10 ^ (after - (places + 1)) * 10 ^ 0, power_of after p)
  many_are least most = elim (cases_lt len after) [
    | inl l ↦ one_more (omega (arith, l, most))
    | inr l ↦ same_many (omega (arith, l, least))
  ]

-- ---- the float

module _ (places q p t : ℕ) (bytes : List ℕ) (len : ℕ)
    (big : IsBig bytes len (value_of (take len bytes)))
    (same : q * 10 ^ p ≡ value_of (take len bytes) * t) (some : 0 < t) where
  abbrev value : ℕ
  value = value_of (take len bytes)

  of_value : (a b : ℕ) → 0 < b → a * 10 ^ p ≡ value * b
      → rounded places a b ≡ rounded places value (10 ^ p)
  of_value a b pos_b e = elim (cases_lt 0 value) [
    | inl above ↦
        let many : 0 < len = elim (cases_lt 0 len) [
          | inl l ↦ l
          | inr none ↦
              let nothing : len ≡ 0 = omega (arith, none) in
              absurd (omega (
                arith,
                above,
                front_below bytes len big.digits,
                ap (λ (x : ℕ). 10 ^ x) nothing,
              ))
        ] in
        let z = pos len -ℤ pos (p + 1) in
        rounded_same places a b value (10 ^ p) z pos_b (ten_pos p) e above
        (first_big value p len z many (front_below bytes len big.digits) (big.least many) refl)
    | inr none ↦
        let nothing : value ≡ 0 = omega (arith, none) in
        let left : a * 10 ^ p ≡ 0 * 10 ^ p =
        e ∙ ap (λ (x : ℕ). x * b) nothing ∙ omega arith in
        rounded_none places a b (eq_of_mul-eq-mul_right (10 ^ p) (ten_pos p) a 0 left)
        ∙ sym (rounded_none places value (10 ^ p) nothing)
  ]

  pub scientific_is : (x : Float) (negative : Bool) (style : ExponentText)
      → HasValue x negative q t
      → scientific_text x places style
      ≡ sign_text negative ++ (with_point places (rounded places value (10 ^ p)).0
      ++ mark_text style (rounded places value (10 ^ p)).1)
  scientific_is nan negative style has = absurd has
  scientific_is (inf s) negative style has = absurd has
  scientific_is (fin s m e) negative style has =
      let u = m * up e in
      let d = down e in
      let scaled : u * 10 ^ p * t ≡ value * d * t =
      swap u (10 ^ p) t ∙ ap (λ (y : ℕ). y * 10 ^ p) has.1 ∙ swap q d (10 ^ p)
      ∙ ap (λ (y : ℕ). y * d) same ∙ swap value t d in
      let equal : u * 10 ^ p ≡ value * d =
      eq_of_mul-eq-mul_right t some (u * 10 ^ p) (value * d) scaled in
      (λ i. sign_text (has.0 i)
      ++ (with_point places (of_value u d (down_pos e) equal i).0
      ++ mark_text style (of_value u d (down_pos e) equal i).1))
    where
      swap : (a b c : ℕ) → a * b * c ≡ a * c * b
      swap a b c = omega arith
