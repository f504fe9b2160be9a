-- What stands before the first of a byte, and what stands after it.
use Rattle.std.proofs.Common.{◌≡◌, ◌≢◌, ℕ, ◌+◌, ◌<◌, ◌≤◌, ◌==◌, List, ◌∷◌, ◌++◌, All, length, take, drop, arith, Some, None, get_or-take, length-take}
use Rattle.std.specs.List.{position, position_or_len}
use Rattle.std.proofs.Math.Seq.{take-length}
use Rattle.std.proofs.lemmas.Bool.Decides.{nat_tests}
use Rattle.std.proofs.lemmas.List.Elements.{All-from_get_or}
use Rattle.std.proofs.lemmas.List.Sums.{split_at_first, passes_at_first, fails_before_first}

module _ (mark : ℕ) (bytes : List ℕ) where
  abbrev at : ℕ
  at = position_or_len (λ byte. byte == mark) bytes

  others_before : (n : ℕ) → n ≤ at → All (λ byte. byte ≢ mark) (take n bytes)
  others_before n h = All-from_get_or (λ byte. byte ≢ mark) (take n bytes) 0 (λ i inside e.
      let below : i < n = omega (arith, simp length-take at inside) in
      let fails = fails_before_first (λ byte. byte == mark) bytes i 0 (omega arith) in
      grind (arith, nat_tests, get_or-take n bytes i 0 below))

  -- a list is what stands before the first mark, the mark, and what stands after it
  pub record Parts (front rest : List ℕ) : Type 0 where
    pub whole : bytes ≡ front ++ mark ∷ rest
    pub before : All (λ byte. byte ≢ mark) front

  splits : at < length bytes → Parts (take at bytes) (drop (at + 1) bytes)
  splits h =
      let split = split_at_first (λ byte. byte == mark) bytes 0 h in
      let here = passes_at_first (λ byte. byte == mark) bytes 0 h in
      grind (arith, nat_tests, others_before at)

  pub position_splits : (i : ℕ) → position (λ byte. byte == mark) bytes ≡ Some i
      → Parts (take i bytes) (drop (i + 1) bytes)
  position_splits i h = grind (arith, nat_tests, splits)

  pub position_none : position (λ byte. byte == mark) bytes ≡ None
      → All (λ byte. byte ≢ mark) bytes
  position_none h = grind (arith, nat_tests, others_before (length bytes), take-length bytes)

  pub position_within : (i : ℕ) → position (λ byte. byte == mark) bytes ≡ Some i → i < length bytes
  position_within i h = grind (arith, nat_tests)
