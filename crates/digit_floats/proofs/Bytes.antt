-- Which byte stands at a position.
use Rattle.std.proofs.Common.{◌≡◌, ℕ, zero, suc, ◌<◌, Bool, true, false, List, [], ◌∷◌, length, slice_index, refl, sym, arith}
use Rattle.digit_floats.specs.Bytes.{stands}

pub stands_is : (p : ℕ → Bool) (text : List ℕ) (i : ℕ) → p 0 ≡ false
    → stands p text i ≡ p (slice_index text i)
stands_is p [] i z = sym z
stands_is p (x ∷ xs) zero z = refl
stands_is p (x ∷ xs) (suc i) z = stands_is p xs i z

pub stands_within : (p : ℕ → Bool) (text : List ℕ) (i : ℕ) → stands p text i ≡ true
    → i < length text
stands_within p [] i e = cc
stands_within p (x ∷ xs) zero e = omega arith
stands_within p (x ∷ xs) (suc i) e = let h = stands_within p xs i e in omega arith
