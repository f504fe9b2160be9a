-- A separator and three decimal digits in a word: their test, and the bytes that they are.
use Rattle.std.proofs.Common.{◌≡◌, ℕ, ◌+◌, ◌-◌, ◌*◌, ◌/◌, ◌%◌, ◌^◌, ◌<◌, ◌≤◌, true, List, length, sym, ap, ◌∙◌, arith}
use Rattle.std.specs.Prelude.{slice_index}
use Rattle.std.proofs.lemmas.Bool.Decides.{nat_tests}
use Rattle.lexical_digits.specs.Separators.{is_separator}
use Rattle.digit_words.specs.Eight.{byte_of, spelt, written}
use Rattle.digit_words.specs.Three.{AreThree}
use Rattle.digit_integers.specs.Groups.{IsGroup}
use Rattle.digit_values.proofs.PlainDigits.{decimal}

-- nothing was borrowed
not_borrowed : (w d separator : ℕ) → w < 2 ^ 32 → separator < 256
    → d ≡ (w + (2 ^ 32 - (0x3030_3000 + separator))) % 2 ^ 32 → d ≤ 0x0909_0909
    → w ≡ d + (0x3030_3000 + separator)
not_borrowed w d separator W S is few = omega (arith, W, S, is, few)

four_are : (s a b c d separator : ℕ) → s < 256 → a < 256 → b < 256 → c < 256 → separator < 256
    → s + 256 * (a + 256 * (b + 256 * c)) ≡ d + (0x3030_3000 + separator) → AreThree d
    → (s ≡ separator) × (48 ≤ a) × (a < 58) × (48 ≤ b) × (b < 58) × (48 ≤ c) × (c < 58)
    × (written (byte_of (d / 256)) 3 ≡ ((a - 48) * 10 + (b - 48)) * 10 + (c - 48))
four_are s a b c d separator S A B C few is k =
    let x = d / 256 % 256 in
    let y = d / 256 / 256 % 256 in
    let z = d / 256 / 256 / 256 % 256 in
    let none : d / 256 / 256 / 256 / 256 ≡ 0 = k.1.1.1.1 in
    let all : d ≡ 256 * (x + 256 * (y + 256 * z)) = omega (arith, k.0, none) in
    let sum : s + 256 * (a + 256 * (b + 256 * c))
    ≡ separator + 256 * (x + 48 + 256 * (y + 48 + 256 * (z + 48))) = omega (arith, is, all) in
    let same : s ≡ separator = omega (arith, S, few, sum) in
    let rest : a + 256 * (b + 256 * c) ≡ x + 48 + 256 * (y + 48 + 256 * (z + 48)) =
    omega (arith, same, sum) in
    let low : a ≡ x + 48 = omega (arith, A, rest, k.1.0) in
    let next : b + 256 * c ≡ y + 48 + 256 * (z + 48) = omega (arith, low, rest) in
    let middle : b ≡ y + 48 = omega (arith, B, next, k.1.1.0) in
    let high : c ≡ z + 48 = omega (arith, middle, next) in (
      same,
      omega (arith, low),
      omega (arith, low, k.1.0),
      omega (arith, middle),
      omega (arith, middle, k.1.1.0),
      omega (arith, high),
      omega (arith, high, k.1.1.1.0),
      omega (arith, low, middle, high),
    )

-- the bytes of a word of three digits are below ten
below_digits : (d : ℕ) → AreThree d → d ≤ 0x0909_0909
below_digits d k = omega (arith, k.0, k.1.0, k.1.1.0, k.1.1.1.0, k.1.1.1.1)

separates : (separator byte : ℕ) → 0 < separator → byte ≡ separator
    → is_separator separator byte ≡ true
unfolding is_separator
separates separator byte some is = grind (arith, nat_tests, some, is)

-- the subtraction of `group_at`
pub group_is : (separator : ℕ) (text : List ℕ) (at d : ℕ) → 0 < separator
    → separator < 256 → at + 4 ≤ length text
    → ((i : ℕ) → slice_index text (at + i) < 256)
    → d ≡ (spelt 4 (λ i. slice_index text (at + i))
    + (2 ^ 32 - (0x3030_3000 + separator))) % 2 ^ 32
    → AreThree d → IsGroup separator text at (written (byte_of (d / 256)) 3)
group_is separator text at d some small within fit is three =
    let byte : ℕ → ℕ = λ i. slice_index text (at + i) in
    let here : byte 0 ≡ slice_index text at = ap (slice_index text) (omega arith) in
    let whole : byte 0 + 256 * (byte 1 + 256 * (byte 2 + 256 * byte 3))
    ≡ d + (0x3030_3000 + separator) =
    not_borrowed _ d separator (omega (arith, fit 0, fit 1, fit 2, fit 3)) small
    (omega (arith, is)) (below_digits d three) in
    let k =
    four_are (byte 0) (byte 1) (byte 2) (byte 3) d separator (fit 0) (fit 1) (fit 2) (fit 3)
    small whole three in
    record {
      hundreds = byte 1 - 48;
      tens = byte 2 - 48;
      ones = byte 3 - 48;
      within = within;
      separates = separates separator _ some (sym here ∙ k.0);
      first = decimal (byte 1) k.1 k.2;
      second = decimal (byte 2) k.3 k.4;
      third = decimal (byte 3) k.5 k.6;
      is = omega (arith, k.7);
    }
