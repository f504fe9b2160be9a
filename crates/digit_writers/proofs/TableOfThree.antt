-- The table of the three digits of each number.
use Rattle.std.proofs.Common.{◌≡◌, ℕ, zero, suc, ◌+◌, ◌*◌, ◌/◌, ◌%◌, ◌<◌, ◌≤◌, Bool, true, false, ◌&&◌, eqb, List, [], ◌∷◌, length, set, get_or, refl, sym, ap, ◌∙◌, arith}
use Rattle.std.specs.List.{splice}
use Rattle.std.proofs.lemmas.Bool.Decides.{nat_tests}
use Rattle.std.proofs.lemmas.List.{length-set}
use Rattle.digit_writers.specs.declared.triples.TheConstants.{TRIPLES}
use Rattle.digit_writers.specs.Digits.{last_decimals}
use Rattle.digit_writers.proofs.Decimals.{two_is, three_is}
use Rattle.digit_writers.proofs.Splices.{both, one_spliced}

-- the digits of one number after another, from this one on
abbrev are_triples : ℕ → List ℕ → Bool
are_triples n [] = true
are_triples n (a ∷ []) = false
are_triples n (a ∷ b ∷ []) = false
are_triples n (a ∷ b ∷ c ∷ rest) =
    (eqb a (48 + n / 100) && (eqb b (48 + n % 100 / 10) && eqb c (48 + n % 100 % 10)))
    && are_triples (n + 1) rest

record IsTriple (n a b c : ℕ) : Type 0 where
  hundreds : a ≡ 48 + n / 100
  tens : b ≡ 48 + n % 100 / 10
  ones : c ≡ 48 + n % 100 % 10

-- the first of them, and the others
first_is : (n a b c : ℕ) (rest : List ℕ) → are_triples n (a ∷ b ∷ c ∷ rest) ≡ true
    → IsTriple n a b c × (are_triples (n + 1) rest ≡ true)
first_is n a b c rest is =
    by (eqb a (48 + n / 100)) (eqb b (48 + n % 100 / 10)) (eqb c (48 + n % 100 % 10))
    (are_triples (n + 1) rest) refl refl refl is
  where
    by : (x y z others : Bool) → eqb a (48 + n / 100) ≡ x → eqb b (48 + n % 100 / 10) ≡ y
        → eqb c (48 + n % 100 % 10) ≡ z → ((x && (y && z)) && others) ≡ true
        → IsTriple n a b c × (others ≡ true)
    by true true true others p q r is = (
      record {
        hundreds = grind (arith, nat_tests, p);
        tens = grind (arith, nat_tests, q);
        ones = grind (arith, nat_tests, r);
      },
      is,
    )
    by false y z others p q r is = absurd (grind (arith, is))
    by true false z others p q r is = absurd (grind (arith, is))
    by true true false others p q r is = absurd (grind (arith, is))

triple_at : (k n : ℕ) (xs : List ℕ) → are_triples n xs ≡ true → k * 3 < length xs
    → IsTriple (n + k) (get_or xs (k * 3) 0) (get_or xs (k * 3 + 1) 0) (get_or xs (k * 3 + 2) 0)
triple_at k n [] is l = absurd (omega (arith, l))
triple_at k n (a ∷ []) is l = absurd (grind (arith, is))
triple_at k n (a ∷ b ∷ []) is l = absurd (grind (arith, is))
triple_at zero n (a ∷ b ∷ c ∷ rest) is l =
    let same : n + 0 ≡ n = omega arith in
    rw same (first_is n a b c rest is).0
triple_at (suc k) n (a ∷ b ∷ c ∷ rest) is l =
    let here : suc k * 3 ≡ suc (suc (suc (k * 3))) = omega arith in
    let next : suc (suc (suc (k * 3))) + 1 ≡ suc (suc (suc (k * 3 + 1))) = omega arith in
    let last : suc (suc (suc (k * 3))) + 2 ≡ suc (suc (suc (k * 3 + 2))) = omega arith in
    let number : n + suc k ≡ n + 1 + k = omega arith in
    let less : k * 3 < length rest = omega (arith, l, here) in
    rw (here, next, last, number) (triple_at k (n + 1) rest (first_is n a b c rest is).1 less)

triple_is : (n : ℕ) → n < 1000 → IsTriple n (get_or TRIPLES (n * 3) 0)
    (get_or TRIPLES (n * 3 + 1) 0) (get_or TRIPLES (n * 3 + 2) 0)
triple_is n l =
    let same : 0 + n ≡ n = omega arith in
    let long : length TRIPLES ≡ 3000 = refl in
    rw same at (triple_at n 0 TRIPLES refl (omega (arith, l, long)))

-- one byte after another
three_set : (out : List ℕ) (at a b c : ℕ) → at + 3 ≤ length out
    → set (set (set out at a) (at + 1) b) (at + 2) c ≡ splice out at (at + 3) (a ∷ b ∷ c ∷ [])
three_set out at a b c room =
    let one : List ℕ = set out at a in
    let two : List ℕ = set one (at + 1) b in
    let long : length one ≡ length out = length-set out at a in
    let longer : length two ≡ length one = length-set one (at + 1) b in
    let second : at + 1 + 1 ≡ at + 2 = omega arith in
    let third : at + 2 + 1 ≡ at + 3 = omega arith in
    let first_two : two ≡ splice out at (at + 2) (a ∷ b ∷ []) =
    one_spliced one (at + 1) b (omega (arith, long, room))
    ∙ ap (λ (end : ℕ). splice one (at + 1) end (b ∷ [])) second
    ∙ ap (λ (old : List ℕ). splice old (at + 1) (at + 2) (b ∷ []))
    (one_spliced out at a (omega (arith, room)))
    ∙ both out (a ∷ []) (b ∷ []) at (at + 1) (at + 2) (omega arith) (omega arith)
    (omega (arith, room)) in
    one_spliced two (at + 2) c (omega (arith, long, longer, room))
    ∙ ap (λ (end : ℕ). splice two (at + 2) end (c ∷ [])) third
    ∙ ap (λ (old : List ℕ). splice old (at + 2) (at + 3) (c ∷ [])) first_two
    ∙ both out (a ∷ b ∷ []) (c ∷ []) at (at + 2) (at + 3) (omega arith) (omega arith) room

pub triple_written : (out : List ℕ) (at n a b c : ℕ) → n < 1000 → at + 3 ≤ length out
    → a ≡ get_or TRIPLES (n * 3) 0 → b ≡ get_or TRIPLES (n * 3 + 1) 0
    → c ≡ get_or TRIPLES (n * 3 + 2) 0
    → set (set (set out at a) (at + 1) b) (at + 2) c ≡ splice out at (at + 3) (last_decimals 3 n)
triple_written out at n a b c l room first second third =
    let is = triple_is n l in
    let x : a ≡ 48 + n / 100 = first ∙ is.hundreds in
    let y : b ≡ 48 + n % 100 / 10 = second ∙ is.tens in
    let z : c ≡ 48 + n % 100 % 10 = third ∙ is.ones in
    let digits : last_decimals 3 n
    ≡ (48 + n / 100) ∷ (48 + n % 100 / 10) ∷ (48 + n % 100 % 10) ∷ [] =
    three_is n l ∙ ap (λ (ds : List ℕ). (48 + n / 100) ∷ ds) (two_is (n % 100) (omega arith)) in
    three_set out at a b c room
    ∙ ap (splice out at (at + 3)) ((λ i. x i ∷ y i ∷ z i ∷ []) ∙ sym digits)
