-- Two digits at a step.
use Rattle.std.proofs.Common.{◌≡◌, ℕ, zero, suc, ◌+◌, ◌-◌, ◌*◌, ◌/◌, ◌%◌, ◌^◌, ◌<◌, ◌≤◌, Bool, true, ◌&&◌, eqb, List, [], ◌∷◌, ◌++◌, length, drop, set, get_or, refl, sym, ap, subst, ◌∙◌, inl, inr, arith, append_assoc}
use Rattle.std.proofs.lemmas.Bool.{cases_lt}
use Rattle.std.proofs.lemmas.Bool.Decides.{nat_tests}
use Rattle.std.proofs.lemmas.List.{drop-set, length-set}
use Rattle.decimal_writers.specs.declared.pairs.TheConstants.{PAIRS}
use Rattle.decimal_writers.specs.Text.{number_text, last_digits}
use Rattle.decimal_writers.proofs.Numerals.{last_none, last_step, last_split, last_of_rest, length-last, number_digit, number_one, number_parts, number_length}

-- ---- the table

abbrev test_pair : ℕ → Bool
test_pair n = eqb (get_or PAIRS (n * 2) 0) (48 + n / 10) && eqb (get_or PAIRS (n * 2 + 1) 0)
    (48 + n % 10)

abbrev tests : (ℕ → Bool) → ℕ → Bool
tests test zero = true
tests test (suc n) = test n && tests test n

each : (test : ℕ → Bool) (n k : ℕ) → tests test n ≡ true → k < n → test k ≡ true
each test zero k h l = absurd (omega arith)
each test (suc n) k h l = elim (cases_lt k n) [
  | inl a ↦ grind (arith, h, each test n k)
  | inr a ↦ let e : n ≡ k = omega arith in subst (λ x. test x ≡ true) e (grind (arith, h))
]

pub pair_is : (n : ℕ) → n < 100
    → (get_or PAIRS (n * 2) 0 ≡ 48 + n / 10) × (get_or PAIRS (n * 2 + 1) 0 ≡ 48 + n % 10)
pair_is n l = from_test _ _ _ _ (each test_pair 100 n refl l)
  where
    from_test : (a b c d : ℕ) → (eqb a b && eqb c d) ≡ true → (a ≡ b) × (c ≡ d)
    from_test a b c d h = (grind (arith, nat_tests, h), grind (arith, nat_tests, h))

-- ---- two digits

two_is : (n : ℕ) → n < 100 → last_digits 2 n ≡ (48 + n / 10) ∷ (48 + n % 10) ∷ []
two_is n few =
    let tens : n / 10 % 10 ≡ n / 10 = omega arith in
    last_step 1 n
    ∙ ap (λ (ds : List ℕ). ds ++ (48 + n % 10) ∷ [])
    (last_step 0 (n / 10)
    ∙ ap (λ (ds : List ℕ). ds ++ (48 + n / 10 % 10) ∷ []) (last_none (n / 10 / 10)))
    ∙ ap (λ (x : ℕ). (48 + x) ∷ (48 + n % 10) ∷ []) tens

pub two_put : (out : List ℕ) (n end tens ones : ℕ) → n < 100 → 2 ≤ end → end ≤ length out
    → tens ≡ get_or PAIRS (n * 2) 0 → ones ≡ get_or PAIRS (n * 2 + 1) 0
    → drop (end - 2) (set (set out (end - 1) ones) (end - 2) tens)
    ≡ last_digits 2 n ++ drop end out
two_put out n end tens ones few room within first second =
    let pair = pair_is n few in
    let a : tens ≡ 48 + n / 10 = first ∙ pair.0 in
    let b : ones ≡ 48 + n % 10 = second ∙ pair.1 in
    let one : end - 2 + 1 ≡ end - 1 = omega arith in
    let two : end - 1 + 1 ≡ end = omega arith in
    let long : length (set out (end - 1) ones) ≡ length out = length-set out (end - 1) ones in
    drop-set (set out (end - 1) ones) (end - 2) tens (omega (arith, long))
    ∙ ap (λ (x : ℕ). tens ∷ drop x (set out (end - 1) ones)) one
    ∙ ap (λ (ds : List ℕ). tens ∷ ds) (drop-set out (end - 1) ones (omega arith))
    ∙ (λ i. a i ∷ b i ∷ drop (two i) out)
    ∙ ap (λ (ds : List ℕ). ds ++ drop end out) (sym (two_is n few))

-- ---- so many digits, and those before them

pub both_put : (n high low j k end : ℕ) (old one new : List ℕ) → j + k ≤ end
    → high ≡ n / 10 ^ k → low ≡ n % 10 ^ k
    → drop (end - k) one ≡ last_digits k low ++ drop end old
    → drop (end - k - j) new ≡ last_digits j high ++ drop (end - k) one
    → drop (end - (j + k)) new ≡ last_digits (j + k) n ++ drop end old
both_put n high low j k end old one new room first second is_low is_high =
    let at : end - (j + k) ≡ end - k - j = omega (arith, room) in
    ap (λ (x : ℕ). drop x new) at ∙ is_high
    ∙ ap (λ (ds : List ℕ). last_digits j high ++ ds) is_low
    ∙ sym (append_assoc (last_digits j high) (last_digits k low) (drop end old))
    ∙ ap (λ (ds : List ℕ). ds ++ drop end old)
    ((λ i. last_digits j (first i) ++ last_digits k (second i))
    ∙ ap (λ (ds : List ℕ). last_digits j (n / 10 ^ k) ++ ds) (last_of_rest k n)
    ∙ sym (last_split j k n))

-- a number with so many digits at its end
pub number_long : (n high k : ℕ) → 10 ^ k ≤ n → high ≡ n / 10 ^ k
    → length (number_text n) ≡ length (number_text high) + k
number_long n high k many first =
    number_length k n many ∙ ap (λ (x : ℕ). length (number_text x) + k) (sym first)

pub number_left : (n high low k end : ℕ) (old new : List ℕ) → 10 ^ k ≤ n
    → high ≡ n / 10 ^ k → low ≡ n % 10 ^ k
    → drop (end - k) new ≡ last_digits k low ++ drop end old
    → number_text high ++ drop (end - k) new ≡ number_text n ++ drop end old
number_left n high low k end old new many first second is =
    ap (λ (ds : List ℕ). number_text high ++ ds) is
    ∙ sym (append_assoc (number_text high) (last_digits k low) (drop end old))
    ∙ ap (λ (ds : List ℕ). ds ++ drop end old)
    ((λ i. number_text (first i) ++ last_digits k (second i))
    ∙ ap (λ (ds : List ℕ). number_text (n / 10 ^ k) ++ ds) (last_of_rest k n)
    ∙ sym (number_parts k n many))

-- ---- one and two digits

pub one_put : (n end : ℕ) (old : List ℕ) → n < 10 → 1 ≤ end → end ≤ length old
    → drop (end - 1) (set old (end - 1) (48 + n)) ≡ number_text n ++ drop end old
one_put n end old few some within =
    let next : end - 1 + 1 ≡ end = omega arith in
    drop-set old (end - 1) (48 + n) (omega arith)
    ∙ ap (λ (x : ℕ). (48 + n) ∷ drop x old) next
    ∙ ap (λ (ds : List ℕ). ds ++ drop end old) (sym (number_digit n few))

pub two_digits : (n : ℕ) → 10 ≤ n → n < 100 → last_digits 2 n ≡ number_text n
two_digits n many few =
    let tens : number_text (n / 10) ≡ (48 + n / 10) ∷ [] = number_digit (n / 10) (omega arith) in
    two_is n few
    ∙ sym (number_parts 1 n (omega arith)
    ∙ (λ i. tens i ++ last_digits 1 n)
    ∙ ap (λ (ds : List ℕ). (48 + n / 10) ∷ ds)
    (last_step 0 n ∙ ap (λ (ds : List ℕ). ds ++ (48 + n % 10) ∷ []) (last_none (n / 10))))

pub two_long : (n : ℕ) → 10 ≤ n → n < 100 → length (number_text n) ≡ 2
two_long n many few = ap length (sym (two_digits n many few)) ∙ length-last 2 n

pub two_written : (n end : ℕ) (old new : List ℕ) → 10 ≤ n → n < 100
    → drop (end - 2) new ≡ last_digits 2 n ++ drop end old
    → drop (end - 2) new ≡ number_text n ++ drop end old
two_written n end old new many few is =
    is ∙ ap (λ (ds : List ℕ). ds ++ drop end old) (two_digits n many few)

pub ruleset firsts = (one_put, number_one, two_long, two_written)
