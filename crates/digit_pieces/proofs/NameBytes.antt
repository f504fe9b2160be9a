-- The bytes of a name from one on.
use Rattle.std.proofs.Common.{◌≡◌, ℕ, ◌+◌, ◌<◌, Bool, true, false, List, ◌∷◌, drop, get_or, length, refl, arith}
use Rattle.std.specs.Prelude.{◌==◌}
use Rattle.std.specs.List.{list_any}
use Rattle.std.proofs.lemmas.Bool.Decides.{nat_tests}
use Rattle.std.proofs.lemmas.List.{drop_more}
use Rattle.std.proofs.lemmas.List.Sums.{take_while-cons}
use Rattle.digit_numbers.specs.Specials.{bytes_of}

bytes_more : (name : List ℕ) (n : ℕ) → n < length name → (get_or name n 0 ≡ 0 → ⊥)
    → bytes_of (drop n name) ≡ get_or name n 0 ∷ bytes_of (drop (n + 1) name)
bytes_more name n l h =
    let e : get_or name n 0 == 0 ≡ false = grind (arith, nat_tests) in
    rw (drop_more name n 0 l, take_while-cons, e) refl

module _ (q : ℕ → Bool) (name : List ℕ) (n : ℕ) (l : n < length name)
    (more : get_or name n 0 ≡ 0 → ⊥) where
  -- the first of them passes, or doesn't
  pub any_here : q (get_or name n 0) ≡ true → list_any q (bytes_of (drop n name)) ≡ true
  any_here h = rw (bytes_more name n l more, h) refl

  pub any_next : q (get_or name n 0) ≡ false
      → list_any q (bytes_of (drop n name)) ≡ list_any q (bytes_of (drop (n + 1) name))
  any_next h = rw (bytes_more name n l more, h) refl
