-- Bytes of which none is another than a digit.
use Rattle.std.proofs.Common.{◌≡◌, ℕ, ◌≤◌, Bool, true, false, List, [], ◌∷◌, length, refl, ap, arith}
use Rattle.std.specs.Char.{is_ascii_digit}
use Rattle.std.specs.List.{filter}

few_kept : (p : ℕ → Bool) (bytes : List ℕ) → length (filter p bytes) ≤ length bytes
few_kept p [] = omega arith
few_kept p (byte ∷ bytes) = by (p byte) refl (few_kept p bytes)
  where
    by : (b : Bool) → p byte ≡ b → length (filter p bytes) ≤ length bytes
        → length (filter p (byte ∷ bytes)) ≤ length (byte ∷ bytes)
    by true e less = rw e (omega (arith, less))
    by false e less = rw e (omega (arith, less))

pub all_kept : (p : ℕ → Bool) (bytes : List ℕ) → length (filter p bytes) ≡ length bytes
    → filter p bytes ≡ bytes
all_kept p [] h = refl
all_kept p (byte ∷ bytes) h = by (p byte) refl (all_kept p bytes) (few_kept p bytes) h
  where
    by : (b : Bool) → p byte ≡ b
        → (length (filter p bytes) ≡ length bytes → filter p bytes ≡ bytes)
        → length (filter p bytes) ≤ length bytes
        → length (filter p (byte ∷ bytes)) ≡ length (byte ∷ bytes)
        → filter p (byte ∷ bytes) ≡ byte ∷ bytes
    by true e others few h =
        let same : length (filter p bytes) ≡ length bytes = omega (arith, rw e at h) in
        rw e (ap (λ xs. byte ∷ xs) (others same))
    by false e others few h = absurd (omega (arith, rw e at h, few))

-- they are all digits where so many of them are
pub all_digits : (bytes : List ℕ) → length (filter is_ascii_digit bytes) ≡ length bytes
    → filter is_ascii_digit bytes ≡ bytes
all_digits bytes h = all_kept is_ascii_digit bytes h
