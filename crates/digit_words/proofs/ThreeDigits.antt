-- Three decimal digits in a word, above a byte that is 0: their test, and the bytes that they are.
use Rattle.std.proofs.Common.{◌≡◌, ℕ, zero, suc, ◌+◌, ◌-◌, ◌*◌, ◌/◌, ◌%◌, ◌^◌, ◌<◌, ◌≤◌, List, length, bit_and, arith}
use Rattle.std.specs.Prelude.{slice_index}
use Rattle.std.proofs.Math.Nat.{mod-eq_of_lt}
use Rattle.digit_words.specs.Eight.{byte_of, AreBelow, spelt, written, IsWritten}
use Rattle.digit_words.specs.Three.{AreThree}
use Rattle.digit_words.proofs.WordOfDigits.{repeated, low_bytes, below_ten, at_most}

-- the test of `are_three`
pub three_is : (x : ℕ) → x < 2 ^ 32 → bit_and x 0x8080_8080 ≡ 0
    → bit_and ((x + 0x7676_767f) % 2 ^ 32) 0x8080_8080 ≡ 0 → AreThree x
three_is x l low high =
    let bytes : AreBelow 128 4 x = low_bytes 4 x l low in
    let few : x ≤ 0x7f7f_7f7f = at_most 127 4 x bytes in
    let sum : x + 0x7676_767f < 2 ^ 32 = omega (arith, few) in
    let more : AreBelow 128 4 (x + 0x7676_767f) =
    low_bytes 4 (x + 0x7676_767f) sum (rw (mod-eq_of_lt sum) at high) in
    let none : x % 256 ≡ 0 = omega (arith, bytes.0, more.0) in
    let rest : (x + 0x7676_767f) / 256 ≡ x / 256 + repeated 118 3 = omega (arith, none) in
    (none, below_ten 3 (x / 256) bytes.1 (rw rest at more.1))

-- ---- one to three bytes at the start

-- what a shift leaves of four bytes, when 48 was taken from each
one_left : (a rest d : ℕ) → a < 256
    → d ≡ (a + 256 * rest + (2 ^ 32 - 0x3030_3030)) % 2 ^ 32 * 2 ^ 24 % 2 ^ 32
    → d ≡ 2 ^ 24 * ((a + 208) % 256)
one_left a rest d A is = omega (arith, A, is)

two_left : (below rest d : ℕ) → below < 2 ^ 16
    → d ≡ (below + 2 ^ 16 * rest + (2 ^ 32 - 0x3030_3030)) % 2 ^ 32 * 2 ^ 16 % 2 ^ 32
    → d ≡ 2 ^ 16 * ((below + (2 ^ 16 - 0x3030)) % 2 ^ 16)
two_left below rest d B is = omega (arith, B, is)

three_left : (below rest d : ℕ) → below < 2 ^ 24
    → d ≡ (below + 2 ^ 24 * rest + (2 ^ 32 - 0x3030_3030)) % 2 ^ 32 * 2 ^ 8 % 2 ^ 32
    → d ≡ 2 ^ 8 * ((below + (2 ^ 24 - 0x30_3030)) % 2 ^ 24)
three_left below rest d B is = omega (arith, B, is)

one_is : (a d : ℕ) → a < 256 → d ≡ 2 ^ 24 * ((a + 208) % 256) → AreThree d
    → (48 ≤ a) × (a < 58) × (written (byte_of (d / 256)) 3 ≡ a - 48)
one_is a d A is k =
    let small = k.1.1.1.0 in
    let last : d / 256 / 256 / 256 % 256 ≡ (a + 208) % 256 = omega (arith, is) in
    let first : d / 256 % 256 ≡ 0 = omega (arith, is) in
    let second : d / 256 / 256 % 256 ≡ 0 = omega (arith, is) in
    let digit : (48 ≤ a) × (a < 58) × ((a + 208) % 256 ≡ a - 48) = omega (arith, A, small, last) in
    (digit.0, digit.1, omega (arith, last, first, second, digit.2))

two_is : (a b d : ℕ) → a < 256 → b < 256
    → d ≡ 2 ^ 16 * ((a + 256 * b + (2 ^ 16 - 0x3030)) % 2 ^ 16) → AreThree d
    → (48 ≤ a) × (a < 58) × (48 ≤ b) × (b < 58)
    × (written (byte_of (d / 256)) 3 ≡ (a - 48) * 10 + (b - 48))
two_is a b d A B is k =
    let x = d / 256 / 256 % 256 in
    let y = d / 256 / 256 / 256 % 256 in
    let first : d / 256 % 256 ≡ 0 = omega (arith, is) in
    let both : (a + 256 * b + (2 ^ 16 - 0x3030)) % 2 ^ 16 ≡ x + 256 * y = omega (arith, is) in
    let sum : a + 256 * b ≡ x + 48 + 256 * (y + 48) =
    omega (arith, A, B, both, k.1.1.0, k.1.1.1.0) in
    let low : a ≡ x + 48 = omega (arith, A, B, sum, k.1.1.0, k.1.1.1.0) in
    let high : b ≡ y + 48 = omega (arith, low, sum) in (
      omega (arith, low),
      omega (arith, low, k.1.1.0),
      omega (arith, high),
      omega (arith, high, k.1.1.1.0),
      omega (arith, first, low, high),
    )

three_are : (a b c d : ℕ) → a < 256 → b < 256 → c < 256
    → d ≡ 2 ^ 8 * ((a + 256 * (b + 256 * c) + (2 ^ 24 - 0x30_3030)) % 2 ^ 24) → AreThree d
    → (48 ≤ a) × (a < 58) × (48 ≤ b) × (b < 58) × (48 ≤ c) × (c < 58)
    × (written (byte_of (d / 256)) 3 ≡ ((a - 48) * 10 + (b - 48)) * 10 + (c - 48))
three_are a b c d A B C is k =
    let x = d / 256 % 256 in
    let y = d / 256 / 256 % 256 in
    let z = d / 256 / 256 / 256 % 256 in
    let all : (a + 256 * (b + 256 * c) + (2 ^ 24 - 0x30_3030)) % 2 ^ 24
    ≡ x + 256 * (y + 256 * z) = omega (arith, is) in
    let sum : a + 256 * (b + 256 * c) ≡ x + 48 + 256 * (y + 48 + 256 * (z + 48)) =
    omega (arith, A, B, C, all, k.1.0, k.1.1.0, k.1.1.1.0) in
    let low : a ≡ x + 48 = omega (arith, A, sum, k.1.0) in
    let rest : b + 256 * c ≡ y + 48 + 256 * (z + 48) = omega (arith, low, sum) in
    let middle : b ≡ y + 48 = omega (arith, B, rest, k.1.1.0) in
    let high : c ≡ z + 48 = omega (arith, middle, rest) in (
      omega (arith, low),
      omega (arith, low, k.1.0),
      omega (arith, middle),
      omega (arith, middle, k.1.1.0),
      omega (arith, high),
      omega (arith, high, k.1.1.1.0),
      omega (arith, low, middle, high),
    )

module _ (text : List ℕ) (start : ℕ) (within : start + 4 ≤ length text)
    (fit : (i : ℕ) → slice_index text (start + i) < 256) where
  abbrev byte : ℕ → ℕ
  byte i = slice_index text (start + i)

  abbrev Is : ℕ → Type 0
  Is i = (48 ≤ byte i) × (byte i < 58)

  first : Is 0 → (i : ℕ) → i < 1 → Is i
  first a zero l = a
  first a (suc i) l = absurd (omega (arith, l))

  first_two : Is 0 → Is 1 → (i : ℕ) → i < 2 → Is i
  first_two a b zero l = a
  first_two a b (suc zero) l = b
  first_two a b (suc (suc i)) l = absurd (omega (arith, l))

  first_three : Is 0 → Is 1 → Is 2 → (i : ℕ) → i < 3 → Is i
  first_three a b c zero l = a
  first_three a b c (suc zero) l = b
  first_three a b c (suc (suc zero)) l = c
  first_three a b c (suc (suc (suc i))) l = absurd (omega (arith, l))

  -- the shift of `head_at`
  pub head_written : (n d : ℕ) → 0 < n → n < 4
      → d ≡ (spelt 4 byte + (2 ^ 32 - 0x3030_3030)) % 2 ^ 32 * 2 ^ (32 - 8 * n) % 2 ^ 32
      → AreThree d → IsWritten text start n (written (byte_of (d / 256)) 3)
  head_written zero d some few is three = absurd (omega (arith, some))
  head_written (suc zero) d some few is three =
      let rest = byte 1 + 256 * (byte 2 + 256 * byte 3) in
      let left = one_left (byte 0) rest d (fit 0) (omega (arith, is)) in
      let a = one_is (byte 0) d (fit 0) left three in
      record {
        within = omega (arith, within);
        digits = first (a.0, a.1);
        is = omega (arith, a.2);
      }
  head_written (suc (suc zero)) d some few is three =
      let below = byte 0 + 256 * byte 1 in
      let small : below < 2 ^ 16 = omega (arith, fit 0, fit 1) in
      let left = two_left below (byte 2 + 256 * byte 3) d small (omega (arith, is)) in
      let a = two_is (byte 0) (byte 1) d (fit 0) (fit 1) left three in
      record {
        within = omega (arith, within);
        digits = first_two (a.0, a.1) (a.2, a.3);
        is = omega (arith, a.4);
      }
  head_written (suc (suc (suc zero))) d some few is three =
      let below = byte 0 + 256 * (byte 1 + 256 * byte 2) in
      let small : below < 2 ^ 24 = omega (arith, fit 0, fit 1, fit 2) in
      let left = three_left below (byte 3) d small (omega (arith, is)) in
      let a = three_are (byte 0) (byte 1) (byte 2) d (fit 0) (fit 1) (fit 2) left three in
      record {
        within = omega (arith, within);
        digits = first_three (a.0, a.1) (a.2, a.3) (a.4, a.5);
        is = omega (arith, a.6);
      }
  head_written (suc (suc (suc (suc n)))) d some few is three = absurd (omega (arith, few))

-- ---- a separator and three digits
