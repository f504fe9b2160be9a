-- The decimal digits that eight bytes in a word begin with: their test, and the number that they
-- write.
use Rattle.std.proofs.Common.{◌≡◌, ℕ, zero, suc, ◌+◌, ◌-◌, ◌*◌, ◌/◌, ◌%◌, ◌^◌, ◌<◌, ◌≤◌, bit_and, bit_or, List, length, refl, ap, sym, ◌∙◌, arith}
use Rattle.std.specs.Prelude.{slice_index}
use Rattle.std.specs.Int.{bit_at, trailing_zeros, w64}
use native.Mathlib.Numerals.{unary_clauses}
use Rattle.std.proofs.Math.Pow.{mod-mod-pow}
use Rattle.std.proofs.lemmas.Nat.{shr-shr, field_of, or_lt, and_le_l}
use Rattle.std.proofs.lemmas.Nat.Bits.{bit_at_or, bit_at_and, bit_at-trailing_zeros}
use Rattle.digit_words.specs.Eight.{byte_of, AreBelow, padded, spelt, number_of, written, IsWritten}
use Rattle.digit_words.proofs.WordOfDigits.{repeated, at_most, same_written}
use Rattle.digit_words.proofs.ShiftedWord.{below_each, placed}

-- ---- the test

abbrev place : ℕ → ℕ
place j = 8 * j + 7

-- the highest bit of each byte
top_bit : (j : ℕ) → j < 8 → bit_at 0x8080_8080_8080_8080 (place j) ≡ 1
top_bit zero l = refl
top_bit (suc zero) l = refl
top_bit (suc (suc zero)) l = refl
top_bit (suc (suc (suc zero))) l = refl
top_bit (suc (suc (suc (suc zero)))) l = refl
top_bit (suc (suc (suc (suc (suc zero))))) l = refl
top_bit (suc (suc (suc (suc (suc (suc zero)))))) l = refl
top_bit (suc (suc (suc (suc (suc (suc (suc zero))))))) l = refl
top_bit (suc (suc (suc (suc (suc (suc (suc (suc j)))))))) l = absurd (omega arith)

-- a bit of a word is that of the number
of_word : (v i : ℕ) → i < 64 → bit_at (v % 2 ^ 64) i ≡ bit_at v i
of_word v i l =
    let sum : 63 - i + 1 + i ≡ 64 = omega (arith, l) in
    let field : v % 2 ^ (63 - i + 1 + i) / 2 ^ i ≡ v / 2 ^ i % 2 ^ (63 - i + 1) =
    field_of v (63 - i + 1) i in
    let here : v % 2 ^ 64 / 2 ^ i ≡ v / 2 ^ i % 2 ^ (63 - i + 1) = rw sum at field in
    ap (λ k. k % 2) here ∙ mod-mod-pow (v / 2 ^ i) (63 - i) 1

-- the next byte's
next_bit : (x j : ℕ) → bit_at (x / 256) (place j) ≡ bit_at x (place (suc j))
next_bit x j =
    let sum : 8 + place j ≡ place (suc j) = omega arith in
    ap (λ k. k % 2) (rw sum at (shr-shr x 8 (place j)))

-- the bytes up to a place are digits, if they have no highest bit, and none with 118 added
first_below : (n k x y : ℕ) → k ≤ n → y ≡ x + repeated 118 n
    → ((j : ℕ) → j < k → bit_at x (place j) ≡ 0) → ((j : ℕ) → j < k → bit_at y (place j) ≡ 0)
    → (j : ℕ) → j < k → byte_of x j < 10
first_below n zero x y few is low high j l = absurd (omega arith)
first_below zero (suc k) x y few is low high j l = absurd (omega arith)
first_below (suc n) (suc k) x y few is low high zero l =
    let a : x / 2 ^ 7 % 2 ≡ 0 = low 0 (omega arith) in
    let b : y / 2 ^ 7 % 2 ≡ 0 = high 0 (omega arith) in
    omega (arith, a, b, is)
first_below (suc n) (suc k) x y few is low high (suc j) l =
    let a : x / 2 ^ 7 % 2 ≡ 0 = low 0 (omega arith) in
    let rest : y / 256 ≡ x / 256 + repeated 118 n = omega (arith, is, a) in
    first_below n k (x / 256) (y / 256) (omega arith) rest
    (λ i m. next_bit x i ∙ low (suc i) (omega (arith, m)))
    (λ i m. next_bit y i ∙ high (suc i) (omega (arith, m))) j (omega arith)

module _ (x others : ℕ) (is : others ≡ bit_or (bit_and x 0x8080_8080_8080_8080)
    (bit_and ((x + 0x7676_7676_7676_7676) % 2 ^ 64) 0x8080_8080_8080_8080)) where
  -- a bit that is set in neither
  none_at : (j : ℕ) → j < 8 → bit_at others (place j) ≡ 0
      → (bit_at x (place j) ≡ 0) × (bit_at (x + 0x7676_7676_7676_7676) (place j) ≡ 0)
  none_at j l none =
      let y : ℕ = (x + 0x7676_7676_7676_7676) % 2 ^ 64 in
      let mask : ℕ = 0x8080_8080_8080_8080 in
      let either = bit_at_or (bit_and x mask) (bit_and y mask) (place j) in
      let low = bit_at_and x mask (place j) in
      let high = bit_at_and y mask (place j) in
      let top = top_bit j l in
      let whole = of_word (x + 0x7676_7676_7676_7676) (place j) (omega (arith, l)) in
      let zero_there : bit_at (bit_or (bit_and x mask) (bit_and y mask)) (place j) ≡ 0 =
      rw is at none in (
        omega (arith, zero_there, either, low, top),
        omega (arith, zero_there, either, high, top, whole),
      )

  fits : x < 2 ^ 64 → others < 2 ^ 64
  fits l =
      let y : ℕ = (x + 0x7676_7676_7676_7676) % 2 ^ 64 in
      let mask : ℕ = 0x8080_8080_8080_8080 in
      let low : bit_and x mask < 2 ^ 64 = omega (arith, and_le_l x mask, l) in
      let high : bit_and y mask < 2 ^ 64 = omega (arith, and_le_l y mask) in
      rw is (or_lt 64 (bit_and x mask) (bit_and y mask) low high)

  pub first_are : x < 2 ^ 64 → 0 < others → (i : ℕ) → i < trailing_zeros w64 others / 8
      → byte_of x i < 10
  first_are l some =
      let k = trailing_zeros w64 others / 8 in
      let zeros = bit_at-trailing_zeros w64 others some (fits l) in
      let none : (j : ℕ) → j < k → bit_at others (place j) ≡ 0 =
      λ j l. zeros.2 (place j) (omega (arith, l)) in
      let few : k ≤ 8 = omega (arith, zeros.0) in
      first_below 8 k x (x + 0x7676_7676_7676_7676) few refl
      (λ j l. (none_at j (omega (arith, l, few)) (none j l)).0)
      (λ j l. (none_at j (omega (arith, l, few)) (none j l)).1)

-- ---- the bytes

-- each byte is `0` and a digit, as far as all before it are
each_is : (n k : ℕ) (b : ℕ → ℕ) (x c : ℕ) → k ≤ n → ((i : ℕ) → b i < 256)
    → x + repeated 48 n ≡ spelt n b + c * 256 ^ n
    → ((i : ℕ) → i < k → byte_of x i < 10)
    → (i : ℕ) → i < k → b i ≡ byte_of x i + 48
each_is n zero b x c few fit e below i l = absurd (omega arith)
each_is zero (suc k) b x c few fit e below i l = absurd (omega arith)
each_is (suc n) (suc k) b x c few fit e below zero l =
    let power : 256 ^ suc n ≡ 256 ^ n * 256 = simp unary_clauses refl in
    let all : c * 256 ^ suc n ≡ c * 256 ^ n * 256 = ap (λ p. c * p) power ∙ grind arith in
    omega (arith, e, all, below 0 (omega arith), fit 0)
each_is (suc n) (suc k) b x c few fit e below (suc i) l =
    let power : 256 ^ suc n ≡ 256 ^ n * 256 = simp unary_clauses refl in
    let all : c * 256 ^ suc n ≡ c * 256 ^ n * 256 = ap (λ p. c * p) power ∙ grind arith in
    each_is n k (λ j. b (suc j)) (x / 256) c (omega arith) (λ j. fit (suc j))
    (omega (arith, e, all, below 0 (omega arith), fit 0)) (λ j m. below (suc j) (omega (arith, m)))
    i (omega arith)

module _ (text : List ℕ) (at : ℕ) (within : at + 8 ≤ length text)
    (fit : (i : ℕ) → slice_index text (at + i) < 256) (word digits count value : ℕ)
    (spells : word ≡ spelt 8 (λ i. slice_index text (at + i)))
    (less : digits ≡ (word + (2 ^ 64 - 0x3030_3030_3030_3030)) % 2 ^ 64) (few : count ≤ 8)
    (below : (i : ℕ) → i < count → byte_of digits i < 10)
    (is : value ≡ written (byte_of digits) count) where
  bytes : (i : ℕ) → i < count → slice_index text (at + i) ≡ byte_of digits i + 48
  bytes =
      let c = (digits + 0x3030_3030_3030_3030) / 2 ^ 64 in
      let fits : word < 2 ^ 64 =
      omega (arith, spells, fit 0, fit 1, fit 2, fit 3, fit 4, fit 5, fit 6, fit 7) in
      let e : digits + repeated 48 8 ≡ spelt 8 (λ i. slice_index text (at + i)) + c * 256 ^ 8 =
      omega (arith, less, fits) ∙ ap (λ w. w + c * 256 ^ 8) spells in
      each_is 8 count (λ i. slice_index text (at + i)) digits c few fit e below

  pub front_written : IsWritten text at count value
  front_written = record {
    within = omega (arith, within, few);
    digits = λ i l. omega (arith, bytes i l, below i l);
    is = is ∙ same_written _ _ count (λ i l. omega (arith, bytes i l));
  }

-- ---- digits that are known

-- of bytes that are digits, what is left without `0`
known_below : (n k : ℕ) (b : ℕ → ℕ) (x c : ℕ) → k ≤ n → ((i : ℕ) → b i < 256)
    → x + repeated 48 n ≡ spelt n b + c * 256 ^ n
    → ((i : ℕ) → i < k → (48 ≤ b i) × (b i < 58))
    → (i : ℕ) → i < k → byte_of x i < 10
known_below n zero b x c few fit e digits i l = absurd (omega arith)
known_below zero (suc k) b x c few fit e digits i l = absurd (omega arith)
known_below (suc n) (suc k) b x c few fit e digits zero l =
    let power : 256 ^ suc n ≡ 256 ^ n * 256 = simp unary_clauses refl in
    let all : c * 256 ^ suc n ≡ c * 256 ^ n * 256 = ap (λ p. c * p) power ∙ grind arith in
    omega (arith, e, all, digits 0 (omega arith))
known_below (suc n) (suc k) b x c few fit e digits (suc i) l =
    let power : 256 ^ suc n ≡ 256 ^ n * 256 = simp unary_clauses refl in
    let all : c * 256 ^ suc n ≡ c * 256 ^ n * 256 = ap (λ p. c * p) power ∙ grind arith in
    known_below n k (λ j. b (suc j)) (x / 256) c (omega arith) (λ j. fit (suc j))
    (omega (arith, e, all, digits 0 (omega arith), fit 0))
    (λ j m. digits (suc j) (omega (arith, m))) i (omega arith)

pub known_digits : (text : List ℕ) (at word digits count : ℕ)
    → ((i : ℕ) → slice_index text (at + i) < 256)
    → word ≡ spelt 8 (λ i. slice_index text (at + i))
    → digits ≡ (word + (2 ^ 64 - 0x3030_3030_3030_3030)) % 2 ^ 64 → count ≤ 8
    → ((i : ℕ) → i < count
    → (48 ≤ slice_index text (at + i)) × (slice_index text (at + i) < 58))
    → (i : ℕ) → i < count → byte_of digits i < 10
known_digits text at word digits count fit spells less few known =
    let c = (digits + 0x3030_3030_3030_3030) / 2 ^ 64 in
    let fits : word < 2 ^ 64 =
    omega (arith, spells, fit 0, fit 1, fit 2, fit 3, fit 4, fit 5, fit 6, fit 7) in
    let e : digits + repeated 48 8 ≡ spelt 8 (λ i. slice_index text (at + i)) + c * 256 ^ 8 =
    omega (arith, less, fits) ∙ ap (λ w. w + c * 256 ^ 8) spells in
    known_below 8 count (λ i. slice_index text (at + i)) digits c few fit e known

-- ---- five to seven bytes

padded_before : (m i : ℕ) (b : ℕ → ℕ) → i < m → padded m b i ≡ 48
padded_before zero i b l = absurd (omega (arith, l))
padded_before (suc m) zero b l = refl
padded_before (suc m) (suc i) b l = padded_before m i b (omega (arith, l))

padded_after : (m i : ℕ) (b : ℕ → ℕ) → padded m b (m + i) ≡ b i
padded_after zero i b = ap b (omega arith)
padded_after (suc m) i b =
    ap (padded (suc m) b) {y = suc (m + i)} (omega arith) ∙ padded_after m i b

padded_fits : (m i : ℕ) (b : ℕ → ℕ) → ((i : ℕ) → b i < 256) → padded m b i < 256
padded_fits zero i b fit = fit i
padded_fits (suc m) zero b fit = omega arith
padded_fits (suc m) (suc i) b fit = padded_fits m i b fit

pub filled_written : (text : List ℕ) (word digits value : ℕ) → 5 ≤ length text
    → length text < 8 → ((i : ℕ) → slice_index text i < 256)
    → word ≡ spelt 8 (padded (8 - length text) (slice_index text))
    → word ≡ digits + 0x3030_3030_3030_3030 → AreBelow 10 8 digits
    → value ≡ number_of (byte_of digits) → IsWritten text 0 (length text) value
filled_written text word digits value some few fit spells less below is =
    let n = length text in
    let b = slice_index text in
    let m = 8 - n in
    let e : digits + repeated 48 8 ≡ spelt 8 (padded m b) + 0 * 256 ^ 8 =
    omega (arith, less) ∙ spells ∙ omega arith in
    let each : (i : ℕ) → i < 8 → padded m b i ≡ byte_of digits i + 48 =
    each_is 8 8 (padded m b) digits 0 (omega arith) (λ i. padded_fits m i b fit) e
    (below_each 8 digits below) in
    let bytes : (i : ℕ) → i < n → slice_index text (0 + i) ≡ byte_of digits (m + i) + 48 =
    λ i l. ap b {y = i} (omega arith) ∙ sym (padded_after m i b)
    ∙ each (m + i) (omega (arith, l, few)) in
    let zeros : (i : ℕ) → i < m → byte_of digits i ≡ 0 =
    λ i l. omega (arith, padded_before m i b l, each i (omega (arith, l))) in
    let fits : digits < 2 ^ 64 = omega (arith, at_most 9 8 digits below) in
    record {
      within = omega arith;
      digits = λ i l.
          omega (arith, bytes i l, below_each 8 digits below (m + i) (omega (arith, l, few)));
      is = is ∙ (placed m n digits (λ i. byte_of digits (m + i)) (omega (arith, few)) fits zeros
          (λ i l. refl) (λ i l. below_each 8 digits below (m + i) (omega (arith, l, few)))).1
          ∙ same_written _ _ n (λ i l. omega (arith, bytes i l));
    }
