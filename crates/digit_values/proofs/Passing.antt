-- Bytes that are passed as long as a test holds: one, or none, or the first and others.
use Rattle.std.proofs.Common.{◌≡◌, ℕ, zero, suc, ◌+◌, ◌-◌, List, [], ◌∷◌, length, take, drop, take_while, refl, arith}
use Rattle.std.specs.Prelude.{Bool, true, false, slice_get}
use Rattle.std.proofs.lemmas.List.{drop_all, take_rest}
use Rattle.std.proofs.lemmas.List.Sums.{take_while-cons}
use Rattle.lexical_digits.specs.Cursor.{holds_of}

pub none_passed : (p : ℕ → Bool) (xs : List ℕ) (i : ℕ) → holds_of p (slice_get xs i) ≡ false
    → length (take_while p (drop i xs)) ≡ 0
none_passed p [] i e = rw (drop_all {X = ℕ} i [] (omega arith)) refl
none_passed p (x ∷ xs) zero e = grind (arith, e, take_while-cons p x xs)
none_passed p (x ∷ xs) (suc i) e = none_passed p xs i e

pub one_passed : (p : ℕ → Bool) (xs : List ℕ) (i : ℕ) → holds_of p (slice_get xs i) ≡ true
    → length (take_while p (drop i xs)) ≡ suc (length (take_while p (drop (i + 1) xs)))
one_passed p [] zero e = absurd (grind arith)
one_passed p [] (suc i) e = absurd (grind arith)
one_passed p (x ∷ xs) zero e = grind (arith, e, take_while-cons p x xs)
one_passed p (x ∷ xs) (suc i) e =
    let next : suc i + 1 ≡ suc (i + 1) = omega arith in
    rw next (one_passed p xs i e)

-- where the first is passed, it and the others after it
pub first_and_others : (p : ℕ → Bool) (xs : List ℕ) (i count : ℕ)
    → holds_of p (slice_get xs i) ≡ true
    → count ≡ length (take_while p (take (length xs - (i + 1)) (drop (i + 1) xs)))
    → i + 1 + count ≡ i + length (take_while p (drop i xs))
first_and_others p xs i count here is =
    let rest : count ≡ length (take_while p (drop (i + 1) xs)) =
    rw (take_rest xs (i + 1)) at is in
    omega (arith, rest, one_passed p xs i here)

pub ruleset passing = (none_passed, one_passed)
