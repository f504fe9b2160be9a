-- The power of ten of the first digit of a number.
use Rattle.std.proofs.Common.{◌≡◌, ℕ, ℤ, ◌+◌, ◌-◌, ◌*◌, ◌/◌, ◌^◌, ◌<◌, ◌≤◌, Bool, true, false, length, sym, ap, subst, ◌∙◌, inl, inr, arith}
use Rattle.std.specs.Prelude.{pos, negsuc, ◌-ℤ◌, nat_lt, if◌then◌else◌}
use Rattle.std.proofs.Math.Nat.{mul-le-mul_left, mul-le-mul_right}
use Rattle.std.proofs.lemmas.Bool.{cases_lt}
use Rattle.std.proofs.lemmas.Bool.Decides.{nat_tests}
use Rattle.std.proofs.lemmas.Int.{ints}
use native.Mathlib.Nat.{mul_comm, mul-lt-mul_of_pos_right, le_of_mul-le-mul_right, lt_of_mul-lt-mul_right, le-div_iff_mul-le, div-lt_iff_lt-mul}
use lib.Pow.{pow-add}
use Rattle.decimal_writers.specs.Scientific.{first_of}
use Rattle.decimal_writers.specs.Text.{number_text}
use Rattle.decimal_writers.proofs.Counting.{length_is}
use Rattle.decimal_writers.proofs.Numerals.{ten_pos}

-- a / b is at least ten to a power, and below the next one
abbrev pub IsFirst : ℕ → ℕ → ℤ → Type 0
IsFirst a b (pos n) = (b * 10 ^ n ≤ a) × (a < b * 10 ^ (n + 1))
IsFirst a b (negsuc n) = (b ≤ a * 10 ^ (n + 1)) × (a * 10 ^ n < b)

above_none : (a b n : ℕ) → 0 < b → b ≤ a * 10 ^ (n + 1) → 0 < a
above_none a b n some l = elim (cases_lt 0 a) [
  | inl above ↦ above
  | inr none ↦
      let zero_is : a ≡ 0 = omega (arith, none) in
      absurd (omega (arith, some, l, ap (λ (x : ℕ). x * 10 ^ (n + 1)) zero_is))
]

count_is : (x n : ℕ) → 10 ^ n ≤ x → x < 10 ^ (n + 1) → length (number_text x) ≡ n + 1
count_is x n low high =
    let back : n + 1 - 1 ≡ n = omega arith in
    length_is x (n + 1) (omega arith) (subst (λ (k : ℕ). 10 ^ k ≤ x) (sym back) low) high

-- that is the power of the definition
pub first_by : (a b : ℕ) (z : ℤ) → 0 < b → IsFirst a b z → first_of a b ≡ z
first_by a b (pos n) some is =
    let least : b * 1 ≤ b * 10 ^ n = mul-le-mul_left b (ten_pos n) in
    let above : b ≤ a = omega (arith, least, is.0) in
    let no : nat_lt a b ≡ false = grind (arith, nat_tests, above) in
    let low : 10 ^ n ≤ a / b =
    (le-div_iff_mul-le some).1 (omega (arith, is.0, mul_comm b (10 ^ n))) in
    let high : a / b < 10 ^ (n + 1) =
    (div-lt_iff_lt-mul some).1 (omega (arith, is.1, mul_comm b (10 ^ (n + 1)))) in
    let back : n + 1 - 1 ≡ n = omega arith in
    ap (λ (t : Bool). if t then negsuc (length (number_text ((b - 1) / a)) - 1)
    else pos (length (number_text (a / b)) - 1)) no
    ∙ ap (λ (x : ℕ). pos (x - 1)) (count_is (a / b) n low high)
    ∙ ap pos back
first_by a b (negsuc n) some is =
    let above : 0 < a = above_none a b n some is.0 in
    let least : a * 1 ≤ a * 10 ^ n = mul-le-mul_left a (ten_pos n) in
    let below : a < b = omega (arith, least, is.1) in
    let yes : nat_lt a b ≡ true = grind (arith, nat_tests, below) in
    let low : 10 ^ n ≤ (b - 1) / a =
    (le-div_iff_mul-le above).1 (omega (arith, is.1, mul_comm a (10 ^ n))) in
    let high : (b - 1) / a < 10 ^ (n + 1) =
    (div-lt_iff_lt-mul above).1 (omega (arith, some, is.0, mul_comm a (10 ^ (n + 1)))) in
    let back : n + 1 - 1 ≡ n = omega arith in
    ap (λ (t : Bool). if t then negsuc (length (number_text ((b - 1) / a)) - 1)
    else pos (length (number_text (a / b)) - 1)) yes
    ∙ ap (λ (x : ℕ). negsuc (x - 1)) (count_is ((b - 1) / a) n low high)
    ∙ ap negsuc back

-- of a number of so many digits, of which the last p are places
pub first_big : (v p len : ℕ) (z : ℤ) → 0 < len → v < 10 ^ len → 10 ^ (len - 1) ≤ v
    → pos len -ℤ pos (p + 1) ≡ z → IsFirst v (10 ^ p) z
first_big v p len (pos n) some below least e =
    let all : len ≡ p + (n + 1) = omega (arith, ints, e) in
    let back : len - 1 ≡ p + n = omega (arith, all) in
    let low : 10 ^ (len - 1) ≡ 10 ^ p * 10 ^ n = ap (λ (x : ℕ). 10 ^ x) back ∙ pow-add 10 p n in
    let high : 10 ^ len ≡ 10 ^ p * 10 ^ (n + 1) = ap (λ (x : ℕ). 10 ^ x) all
    ∙ pow-add 10 p (n + 1) in
    (omega (arith, low, least), omega (arith, high, below))
first_big v p len (negsuc n) some below least e =
    let all : p ≡ len + n = omega (arith, ints, e) in
    let back : p ≡ len - 1 + (n + 1) = omega (arith, all, some) in
    let low : 10 ^ p ≡ 10 ^ (len - 1) * 10 ^ (n + 1) = ap (λ (x : ℕ). 10 ^ x) back
    ∙ pow-add 10 (len - 1) (n + 1) in
    let high : 10 ^ p ≡ 10 ^ len * 10 ^ n = ap (λ (x : ℕ). 10 ^ x) all ∙ pow-add 10 len n in
    let up : 10 ^ (len - 1) * 10 ^ (n + 1) ≤ v * 10 ^ (n + 1) =
    mul-le-mul_right (10 ^ (n + 1)) least in
    let down : v * 10 ^ n < 10 ^ len * 10 ^ n = mul-lt-mul_of_pos_right below (ten_pos n) in
    (omega (arith, low, up), omega (arith, high, down))

-- equal fractions have the same
pub first_same : (a b c d : ℕ) (z : ℤ) → 0 < b → 0 < d → a * d ≡ c * b → IsFirst a b z
    → IsFirst c d z
first_same a b c d (pos n) pos_b pos_d e is =
    let low : b * 10 ^ n * d ≤ a * d = mul-le-mul_right d is.0 in
    let high : a * d < b * 10 ^ (n + 1) * d = mul-lt-mul_of_pos_right is.1 pos_d in (
      le_of_mul-le-mul_right {k = b} (omega (arith, e, low)) pos_b,
      lt_of_mul-lt-mul_right b (omega (arith, e, high)),
    )
first_same a b c d (negsuc n) pos_b pos_d e is =
    let low : b * d ≤ a * 10 ^ (n + 1) * d = mul-le-mul_right d is.0 in
    let high : a * 10 ^ n * d < b * d = mul-lt-mul_of_pos_right is.1 pos_d in (
      le_of_mul-le-mul_right {k = b}
          (omega (arith, ap (λ (x : ℕ). x * 10 ^ (n + 1)) e, low)) pos_b,
      lt_of_mul-lt-mul_right b (omega (arith, ap (λ (x : ℕ). x * 10 ^ n) e, high)),
    )
