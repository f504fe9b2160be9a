-- Bytes of a text that has several parts, by position.
use Rattle.std.proofs.Common.{◌≡◌, ℕ, zero, suc, ◌+◌, ◌-◌, ◌<◌, Bool, true, List, [], ◌∷◌, ◌++◌, length, ap, ◌∙◌, arith}
use Rattle.std.specs.Prelude.{slice_get}
use Rattle.std.specs.Char.{is_ascii_digit, digit_value}
use Rattle.std.specs.Str.Parse.{AllDigits}
use Rattle.std.proofs.lemmas.Bool.Decides.{nat_tests}
use Rattle.lexical_digits.specs.Cursor.{holds_of}
use Rattle.digit_floats.specs.Bytes.{stands}
use Rattle.digit_numbers.specs.Json.{IsDigits}

get_right : (xs ys : List ℕ) (i : ℕ) → slice_get (xs ++ ys) (length xs + i) ≡ slice_get ys i
get_right [] ys i = let none : 0 + i ≡ i = omega arith in ap (slice_get ys) none
get_right (x ∷ xs) ys i =
    let next : suc (length xs) + i ≡ suc (length xs + i) = omega arith in
    ap (slice_get (x ∷ (xs ++ ys))) next ∙ get_right xs ys i

get_left : (xs ys : List ℕ) (i : ℕ) → i < length xs → slice_get (xs ++ ys) i ≡ slice_get xs i
get_left [] ys i l = absurd (omega arith)
get_left (x ∷ xs) ys zero l = λ j. slice_get (x ∷ xs) 0
get_left (x ∷ xs) ys (suc i) l = get_left xs ys i (omega arith)

digit_at : (ds : List ℕ) → AllDigits 10 ds → (i : ℕ) → i < length ds
    → stands is_ascii_digit ds i ≡ true
digit_at [] all i l = absurd (omega arith)
digit_at (d ∷ ds) all zero l = first d all.0
  where
    first : (d : ℕ) → digit_value d < 10 → is_ascii_digit d ≡ true
    first d few = grind (arith, nat_tests, few)
digit_at (d ∷ ds) all (suc i) l = digit_at ds all.1 i (omega arith)

pub byte_there : (p : ℕ → Bool) (before after : List ℕ) (b : ℕ) → p b ≡ true
    → stands p (before ++ b ∷ after) (length before) ≡ true
byte_there p before after b is =
    let none : length before ≡ length before + 0 = omega arith in
    ap (λ (i : ℕ). stands p (before ++ b ∷ after) i) none
    ∙ ap (holds_of p) (get_right before (b ∷ after) 0) ∙ is

pub digits_there : (before ds after : List ℕ) → AllDigits 10 ds
    → IsDigits (before ++ (ds ++ after)) (length before) (length before + length ds)
digits_there before ds after all = record {
  onward = omega arith;
  all = λ i from to.
      let k = i - length before in
      let there : i ≡ length before + k = omega (arith, from) in
      let less : k < length ds = omega (arith, from, to) in
      ap (λ (j : ℕ). stands is_ascii_digit (before ++ (ds ++ after)) j) there
      ∙ ap (holds_of is_ascii_digit) (get_right before (ds ++ after) k)
      ∙ ap (holds_of is_ascii_digit) (get_left ds after k less)
      ∙ digit_at ds all k less;
}
