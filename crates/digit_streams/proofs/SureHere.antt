-- Whether a byte that ends every number is at a position or after it.
use Rattle.std.proofs.Common.{◌≡◌, ℕ, ◌-◌, ◌<◌, ◌≤◌, Bool, true, false, List, length, arith, inl, inr}
use Rattle.std.specs.Prelude.{slice_index, nat_lt}
use Rattle.std.proofs.lemmas.Bool.{cases_lt}
use Rattle.std.proofs.lemmas.Bool.Decides.{nat_tests}
use Rattle.digit_pieces.specs.Cuts.{sure_end}
use Rattle.digit_pieces.proofs.SureEnds.{sure_within, sure_ends, sure_last}

module _ (p : ℕ → Bool) (text : List ℕ) (start : ℕ) where
  -- one is here
  pub some_sure : (at : ℕ) → start ≤ at → at < length text → p (slice_index text at) ≡ false
      → start < sure_end p text
  some_sure at low high ends = elim (cases_lt at (sure_end p text)) [
    | inl l ↦ omega arith
    | inr l ↦ let passes = sure_last p text at (omega arith) high in absurd cc
  ]

  pub some_is_sure : (at : ℕ) → start ≤ at → at < length text → p (slice_index text at) ≡ false
      → true ≡ nat_lt start (sure_end p text)
  some_is_sure at low high ends = let l = some_sure at low high ends in grind (arith, nat_tests)

  -- none is
  none_sure : ((i : ℕ) → start ≤ i → i < length text → p (slice_index text i) ≡ true)
      → sure_end p text ≤ start
  none_sure passes = elim (cases_lt start (sure_end p text)) [
    | inl l ↦
        let last : ℕ = sure_end p text - 1 in
        let ends = sure_ends p text last (omega arith) in
        let pass = passes last (omega arith) (omega (arith, sure_within p text)) in
        absurd cc
    | inr l ↦ omega arith
  ]

  pub none_is_sure : ((i : ℕ) → start ≤ i → i < length text → p (slice_index text i) ≡ true)
      → false ≡ nat_lt start (sure_end p text)
  none_is_sure passes = let l = none_sure passes in grind (arith, nat_tests)
