-- The exact digits of a float are its value.
use Rattle.std.proofs.Common.{◌≡◌, ℕ, zero, suc, ◌+◌, ◌-◌, ◌*◌, ◌^◌, ◌<◌, ◌≤◌, List, length, take, get_or, refl, sym, ap, ◌∙◌, arith}
use native.Mathlib.Nat.{pow-suc, mul_assoc, mul-one}
use lib.Pow.{pow-add}
use Rattle.decimal_writers.specs.Big.{value_of, IsBig}
use Rattle.decimal_writers.proofs.Bigs.{value_nil}

-- a number that was written at the front
pub first_big : (old new : List ℕ) (len number : ℕ)
    → value_of (take len new) ≡ value_of (take 0 old) + number * 10 ^ 0
    → ((k : ℕ) → get_or new k 0 < 10) → len ≤ length new → (number ≡ 0 → len ≡ 0)
    → (0 < number → 10 ^ (len - 1) ≤ value_of (take len new))
    → IsBig new len (value_of (take len new))
first_big old new len number value digits within none least = record {
  digits = digits;
  within = within;
  value = refl;
  least = λ some. least (not_none number len none some);
}
  where
    not_none : (number len : ℕ) → (number ≡ 0 → len ≡ 0) → 0 < len → 0 < number
    not_none zero len none some = absurd (omega (arith, none refl))
    not_none (suc n) len none some = omega arith

pub first_value : (old new : List ℕ) (len number : ℕ)
    → value_of (take len new) ≡ value_of (take 0 old) + number * 10 ^ 0
    → value_of (take len new) ≡ number
first_value old new len number value = value ∙ omega (arith, value_nil)

tens_are : (k : ℕ) → 10 ^ k ≡ 5 ^ k * 2 ^ k
tens_are zero = omega arith
tens_are (suc k) =
    pow-suc 10 k ∙ ap (λ (x : ℕ). x * 10) (tens_are k) ∙ product (5 ^ k) (2 ^ k)
    ∙ (λ i. sym (pow-suc 5 k) i * sym (pow-suc 2 k) i)
  where
    product : (a b : ℕ) → a * b * 10 ≡ a * 5 * (b * 2)
    product a b = omega arith

pub down_value : (number shift value places : ℕ) → places + shift ≡ 1074
    → value ≡ number * 5 ^ places
    → number * 2 ^ shift * 10 ^ places ≡ value * 2 ^ 1074
down_value number shift value places sum is =
    let twos : 2 ^ 1074 ≡ 2 ^ places * 2 ^ shift = ap (λ (x : ℕ). 2 ^ x) (sym sum)
    ∙ pow-add 2 places shift in
    ap (λ (x : ℕ). number * 2 ^ shift * x) (tens_are places)
    ∙ moved number (2 ^ shift) (5 ^ places) (2 ^ places)
    ∙ (λ i. sym is i * sym twos i)
  where
    moved : (n a b c : ℕ) → n * a * (b * c) ≡ n * b * (c * a)
    moved n a b c = omega arith

pub up_value : (number shift value : ℕ) → 1074 ≤ shift → value ≡ number * 2 ^ (shift - 1074)
    → number * 2 ^ shift * 10 ^ 0 ≡ value * 2 ^ 1074
up_value number shift value many is =
    let back : shift - 1074 + 1074 ≡ shift = omega (arith, many) in
    let twos : 2 ^ shift ≡ 2 ^ (shift - 1074) * 2 ^ 1074 =
    ap (λ (x : ℕ). 2 ^ x) (sym back) ∙ pow-add 2 (shift - 1074) 1074 in
    mul-one (number * 2 ^ shift) ∙ ap (λ (x : ℕ). number * x) twos
    ∙ sym (mul_assoc number (2 ^ (shift - 1074)) (2 ^ 1074))
    ∙ ap (λ (x : ℕ). x * 2 ^ 1074) (sym is)

pub ruleset exacts = (first_big, first_value)
