-- The digits of an integer, and its sign.
use Rattle.std.proofs.Common.{◌≡◌, ℕ, ◌+◌, ◌-◌, ◌/◌, ◌^◌, ◌<◌, ◌≤◌, List, ◌∷◌, ◌++◌, length, take, drop, set, sym, ap, subst, ◌∙◌, arith}
use Rattle.std.specs.Prelude.{decimal}
use Rattle.std.proofs.Math.Seq.{take-append_seam}
use Rattle.std.proofs.lemmas.List.{drop-set}
use Rattle.decimal_writers.specs.Text.{number_text, last_digits}
use Rattle.decimal_writers.proofs.Numerals.{counted, few_digits, number_is, number_more, number_one, some_digits}

-- the digits of a number that was cut by one
pub one_less : (n count left : ℕ) → 10 ≤ left
    → count + length (number_text left) ≡ length (number_text n) + 1
    → count + 1 + length (number_text (left / 10)) ≡ length (number_text n) + 1
one_less n count left many is = omega (arith, number_more left many, is)

pub last_one : (n count left : ℕ) → left < 10
    → count + length (number_text left) ≡ length (number_text n) + 1
    → count ≡ length (number_text n)
last_one n count left few is = omega (arith, number_one left few, is)

pub wide_few : (n : ℕ) → n < 2 ^ 128 → length (number_text n) ≤ 39
wide_few n few = few_digits n 39 (omega arith) (omega (arith, few))

pub some_digits_of : (n : ℕ) → 1 ≤ length (number_text n)
some_digits_of n = some_digits n

pub ruleset counts = (one_less, last_one, wide_few, some_digits)

all_digits : (n count : ℕ) → n < 10 ^ 64 → count ≡ length (number_text n)
    → last_digits count n ≡ decimal n
all_digits n count few is =
    ap (λ (x : ℕ). last_digits x n) is ∙ sym (counted n).same ∙ number_is n few

pub put_plain : (n count : ℕ) (old new : List ℕ) → n < 10 ^ 64 → count ≡ length (number_text n)
    → drop (count - count) new ≡ last_digits count n ++ drop count old → take count new ≡ decimal n
put_plain n count old new few is written =
    let none : count - count ≡ 0 = omega arith in
    let all : new ≡ decimal n ++ drop count old =
    subst (λ (k : ℕ). drop k new ≡ last_digits count n ++ drop count old) none written
    ∙ ap (λ (ds : List ℕ). ds ++ drop count old) (all_digits n count few is) in
    let long : count ≡ length (decimal n) = is ∙ ap length (number_is n few) in
    (λ i. take (long i) (all i)) ∙ take-append_seam (decimal n) (drop count old)

pub put_minus : (n count : ℕ) (old new : List ℕ) → n < 10 ^ 64 → count ≡ length (number_text n)
    → 1 ≤ length new
    → drop (count + 1 - count) new ≡ last_digits count n ++ drop (count + 1) old
    → take (count + 1) (set new 0 45) ≡ 45 ∷ decimal n
put_minus n count old new few is some written =
    let one : count + 1 - count ≡ 1 = omega arith in
    let rest : drop 1 new ≡ decimal n ++ drop (count + 1) old =
    subst (λ (k : ℕ). drop k new ≡ last_digits count n ++ drop (count + 1) old) one written
    ∙ ap (λ (ds : List ℕ). ds ++ drop (count + 1) old) (all_digits n count few is) in
    let front : drop 0 (set new 0 45) ≡ 45 ∷ drop (0 + 1) new = drop-set new 0 45 some in
    let next : 0 + 1 ≡ 1 = omega arith in
    let all : set new 0 45 ≡ (45 ∷ decimal n) ++ drop (count + 1) old =
    front ∙ ap (λ (k : ℕ). 45 ∷ drop k new) next ∙ ap (λ (ds : List ℕ). 45 ∷ ds) rest in
    let long : count + 1 ≡ length (45 ∷ decimal n) =
    omega (arith, is, ap length (number_is n few)) in
    (λ i. take (long i) (all i)) ∙ take-append_seam (45 ∷ decimal n) (drop (count + 1) old)
