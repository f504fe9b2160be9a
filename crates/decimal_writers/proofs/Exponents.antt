-- The text of an exponent.
use Rattle.std.proofs.Common.{◌≡◌, ℕ, ℤ, suc, ◌+◌, ◌-◌, ◌^◌, ◌<◌, ◌≤◌, false, List, ◌∷◌, ◌++◌, length, drop, set, ap, ◌∙◌, arith, unsigned_abs}
use Rattle.std.specs.Prelude.{pos, negsuc, int_lt, ◌<ℤ◌, ◌≤ℤ◌, max}
use Rattle.std.specs.Fmt.{signed_decimal}
use Rattle.std.proofs.lemmas.Bool.Decides.{nat_tests}
use Rattle.std.proofs.lemmas.Int.{ints}
use Rattle.std.proofs.lemmas.List.{drop-set, length-set}
use mir.Val.{bool_byte}
use Rattle.decimal_writers.specs.Scientific.{mark_text}
use Rattle.decimal_writers.specs.Text.{number_text, last_digits}
use Rattle.decimal_writers.specs.declared.exponent.ExponentText.TheVariants.{Signed}
use Rattle.decimal_writers.proofs.Numerals.{number_is, length-last}

not_below : (n : ℕ) → int_lt (pos n) (pos 0) ≡ false
not_below n = grind (arith, nat_tests)

pub long_signed : (z : ℤ) → unsigned_abs z < 10 ^ 64
    → length (signed_decimal z)
    ≡ length (number_text (unsigned_abs z)) + bool_byte (int_lt z (pos 0))
long_signed (pos n) few =
    omega (arith, ap length (number_is n few), ap bool_byte (not_below n))
long_signed (negsuc n) few = omega (arith, ap length (number_is (suc n) few))

pub marked_plain : (n d end : ℕ) (old one : List ℕ) → n < 10 ^ 64 → 1 ≤ d → d ≤ length one
    → drop d one ≡ number_text n ++ drop end old
    → drop (d - 1) (set one (d - 1) 101) ≡ 101 ∷ signed_decimal (pos n) ++ drop end old
marked_plain n d end old one few some within is =
    let next : d - 1 + 1 ≡ d = omega arith in
    drop-set one (d - 1) 101 (omega arith)
    ∙ ap (λ (x : ℕ). 101 ∷ drop x one) next
    ∙ ap (λ (ds : List ℕ). 101 ∷ ds) is
    ∙ ap (λ (ds : List ℕ). 101 ∷ (ds ++ drop end old)) (number_is n few)

pub marked_minus : (n d end : ℕ) (old one : List ℕ) → suc n < 10 ^ 64 → 2 ≤ d → d ≤ length one
    → drop d one ≡ number_text (suc n) ++ drop end old
    → drop (d - 2) (set (set one (d - 1) 45) (d - 2) 101)
    ≡ 101 ∷ signed_decimal (negsuc n) ++ drop end old
marked_minus n d end old one few some within is =
    let next : d - 1 + 1 ≡ d = omega arith in
    let before : d - 2 + 1 ≡ d - 1 = omega arith in
    let long : length (set one (d - 1) 45) ≡ length one = length-set one (d - 1) 45 in
    drop-set (set one (d - 1) 45) (d - 2) 101 (omega (arith, long))
    ∙ ap (λ (x : ℕ). 101 ∷ drop x (set one (d - 1) 45)) before
    ∙ ap (λ (ds : List ℕ). 101 ∷ ds) (drop-set one (d - 1) 45 (omega arith))
    ∙ ap (λ (x : ℕ). 101 ∷ 45 ∷ drop x one) next
    ∙ ap (λ (ds : List ℕ). 101 ∷ 45 ∷ ds) is
    ∙ ap (λ (ds : List ℕ). 101 ∷ 45 ∷ (ds ++ drop end old)) (number_is (suc n) few)

pub marked_from : (z : ℤ) (d end : ℕ) (old one : List ℕ) → z <ℤ pos 0 → unsigned_abs z < 10 ^ 64
    → 2 ≤ d → d ≤ length one → drop d one ≡ number_text (unsigned_abs z) ++ drop end old
    → drop (d - 2) (set (set one (d - 1) 45) (d - 2) 101)
    ≡ 101 ∷ signed_decimal z ++ drop end old
marked_from (pos n) d end old one below few some within is = absurd (omega (arith, ints, below))
marked_from (negsuc n) d end old one below few some within is =
    marked_minus n d end old one few some within is

pub marked_to : (z : ℤ) (d end : ℕ) (old one : List ℕ) → pos 0 ≤ℤ z → unsigned_abs z < 10 ^ 64
    → 1 ≤ d → d ≤ length one → drop d one ≡ number_text (unsigned_abs z) ++ drop end old
    → drop (d - 1) (set one (d - 1) 101) ≡ 101 ∷ signed_decimal z ++ drop end old
marked_to (pos n) d end old one above few some within is =
    marked_plain n d end old one few some within is
marked_to (negsuc n) d end old one above few some within is = absurd (omega (arith, ints, above))

-- ---- with a sign and at least two digits

pub long_mark : (z : ℤ) → length (mark_text Signed z)
    ≡ max (length (number_text (unsigned_abs z))) 2 + 2
long_mark z =
    omega (
      arith,
      length-last (max (length (number_text (unsigned_abs z))) 2) (unsigned_abs z),
    )

signed_at : (n count sign place end : ℕ) (old one : List ℕ) → place ≡ end - count - 1
    → count + 2 ≤ end → end ≤ length one
    → drop (end - count) one ≡ last_digits count n ++ drop end old
    → drop (place - 1) (set (set one place sign) (place - 1) 101)
    ≡ 101 ∷ sign ∷ (last_digits count n ++ drop end old)
signed_at n count sign place end old one is room within written =
    let next : place - 1 + 1 ≡ place = omega (arith, is, room) in
    let after : place + 1 ≡ end - count = omega (arith, is, room) in
    let long : length (set one place sign) ≡ length one = length-set one place sign in
    drop-set (set one place sign) (place - 1) 101 (omega (arith, long, is, room, within))
    ∙ ap (λ (x : ℕ). 101 ∷ drop x (set one place sign)) next
    ∙ ap (λ (ds : List ℕ). 101 ∷ ds) (drop-set one place sign (omega (arith, is, room, within)))
    ∙ ap (λ (x : ℕ). 101 ∷ sign ∷ drop x one) after
    ∙ ap (λ (ds : List ℕ). 101 ∷ sign ∷ ds) written

pub minus_at : (z : ℤ) (count place end : ℕ) (old one : List ℕ) → z <ℤ pos 0
    → count ≡ max (length (number_text (unsigned_abs z))) 2 → place ≡ end - count - 1
    → count + 2 ≤ end → end ≤ length one
    → drop (end - count) one ≡ last_digits count (unsigned_abs z) ++ drop end old
    → drop (place - 1) (set (set one place 45) (place - 1) 101)
    ≡ mark_text Signed z ++ drop end old
minus_at (pos n) count place end old one below is at room within written =
    absurd (omega (arith, ints, below))
minus_at (negsuc n) count place end old one below is at room within written =
    signed_at (suc n) count 45 place end old one at room within written
    ∙ ap (λ (x : ℕ). 101 ∷ 45 ∷ (last_digits x (suc n) ++ drop end old)) is

pub plus_at : (z : ℤ) (count place end : ℕ) (old one : List ℕ) → pos 0 ≤ℤ z
    → count ≡ max (length (number_text (unsigned_abs z))) 2 → place ≡ end - count - 1
    → count + 2 ≤ end → end ≤ length one
    → drop (end - count) one ≡ last_digits count (unsigned_abs z) ++ drop end old
    → drop (place - 1) (set (set one place 43) (place - 1) 101)
    ≡ mark_text Signed z ++ drop end old
plus_at (pos n) count place end old one above is at room within written =
    signed_at n count 43 place end old one at room within written
    ∙ ap (λ (x : ℕ). 101 ∷ 43 ∷ (last_digits x n ++ drop end old)) is
plus_at (negsuc n) count place end old one above is at room within written =
    absurd (omega (arith, ints, above))

pub ruleset signed_marks = (long_mark, minus_at, plus_at)

pub ruleset lengths = long_signed

pub ruleset exponents = (long_signed, marked_from, marked_to)
