-- Eight hexadecimal digits of a text, by the word that they are.
use Rattle.std.proofs.Common.{◌≡◌, ℕ, zero, suc, ◌+◌, ◌/◌, ◌%◌, ◌<◌, ◌≤◌, List, length, refl, sym, ap, ◌∙◌, arith}
use Rattle.std.specs.Prelude.{slice_index, Some}
use Rattle.lexical_format.specs.Digits.{digit_of_radix}
use Rattle.lexical_digits.specs.declared.skip.rule.Rule.{Rule}
use Rattle.digit_words.specs.Eight.{byte_of, spelt}
use Rattle.digit_integers.specs.Hexadecimal.{AreHexadecimal}
use Rattle.digit_words.specs.Hexadecimal.{AreSpelt, hexadecimal}
use Rattle.digit_integers.proofs.Hexadecimals.{none_hexadecimal, hexadecimal_more}

-- each byte is a digit
byte_is : (n : ℕ) (b : ℕ → ℕ) (x : ℕ) → ((i : ℕ) → b i < 256) → AreSpelt n (spelt n b) x
    → (i : ℕ) → i < n → digit_of_radix 16 (b i) ≡ Some (byte_of x i)
byte_is zero b x fit h i l = absurd (omega arith)
byte_is (suc n) b x fit h zero l =
    let low : spelt (suc n) b % 256 ≡ b 0 = omega (arith, fit 0) in
    ap (digit_of_radix 16) (sym low) ∙ h.0
byte_is (suc n) b x fit h (suc i) l =
    let up : spelt (suc n) b / 256 ≡ spelt n (λ j. b (suc j)) = omega (arith, fit 0) in
    byte_is n (λ j. b (suc j)) (x / 256) (λ j. fit (suc j)) (rw up at h.1) i (omega arith)

-- so many of them write a number
so_many : (rule : Rule) (text : List ℕ) (at x : ℕ) → rule.radix ≡ 16 → at + 8 ≤ length text
    → ((i : ℕ) → i < 8 → digit_of_radix 16 (slice_index text (at + i)) ≡ Some (byte_of x i))
    → (n end : ℕ) → n ≤ 8 → end ≡ at + n
    → AreHexadecimal rule text at end (hexadecimal (byte_of x) n)
so_many rule text at x sixteen within each zero end l there =
    let here : end ≡ at = omega (arith, there) in
    rw here (none_hexadecimal rule text at (omega (arith, within)))
so_many rule text at x sixteen within each (suc n) end l there =
    hexadecimal_more rule text at (at + n) (hexadecimal (byte_of x) n) (byte_of x n) end
    (omega (arith, there)) sixteen
    (so_many rule text at x sixteen within each n (at + n) (omega (arith, l)) refl)
    (omega (arith, within, l)) (each n (omega (arith, l)))

pub eight_hexadecimal : (rule : Rule) (text : List ℕ) (at x : ℕ) → rule.radix ≡ 16
    → at + 8 ≤ length text → ((i : ℕ) → slice_index text (at + i) < 256)
    → (w : ℕ) → w ≡ spelt 8 (λ i. slice_index text (at + i)) → AreSpelt 8 w x
    → (value : ℕ) → value ≡ hexadecimal (byte_of x) 8
    → AreHexadecimal rule text at (at + 8) value
eight_hexadecimal rule text at x sixteen within fit w spells h value is =
    rw is (
    so_many rule text at x sixteen within
    (byte_is 8 (λ i. slice_index text (at + i)) x fit (rw spells at h)) 8 (at + 8) (omega arith)
    refl
    )
