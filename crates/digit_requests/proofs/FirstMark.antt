-- What stands before the first of a mark, and what stands after it.
use Rattle.std.proofs.Common.{◌≡◌, ◌≢◌, ℕ, ◌+◌, ◌<◌, ◌≤◌, ◌==◌, not, List, [], ◌∷◌, ◌++◌, All, length, take, drop, refl, arith, Some, None, get_or-take, length-append, length-take}
use Rattle.std.specs.List.{position_or_len}
use Rattle.std.proofs.Math.Seq.{take-append_seam, take-length, drop-append-add}
use Rattle.std.proofs.lemmas.List.Folds.{prefix_len-append}
use Rattle.std.proofs.lemmas.Bool.Decides.{nat_tests}
use Rattle.std.proofs.lemmas.List.Elements.{All-head, All-tail, All-from_get_or}
use Rattle.std.proofs.lemmas.List.Sums.{split_at_first, passes_at_first, fails_before_first}
use Rattle.digit_requests.specs.Line.{cut}

-- a list is what stands before the first mark, the mark, and what stands after it
pub record Parts (mark : ℕ) (bytes front rest : List ℕ) : Type 0 where
  pub whole : bytes ≡ front ++ mark ∷ rest
  pub before : All (λ byte. byte ≢ mark) front

module _ (mark : ℕ) (bytes : List ℕ) where
  abbrev at : ℕ
  at = position_or_len (λ byte. byte == mark) bytes

  others_before : (n : ℕ) → n ≤ at → All (λ byte. byte ≢ mark) (take n bytes)
  others_before n h = All-from_get_or (λ byte. byte ≢ mark) (take n bytes) 0 (λ i inside e.
      let below : i < n = omega (arith, simp length-take at inside) in
      let fails = fails_before_first (λ byte. byte == mark) bytes i 0 (omega arith) in
      grind (arith, nat_tests, get_or-take n bytes i 0 below))

  splits : at < length bytes → Parts mark bytes (take at bytes) (drop (at + 1) bytes)
  splits h =
      let split = split_at_first (λ byte. byte == mark) bytes 0 h in
      let here = passes_at_first (λ byte. byte == mark) bytes 0 h in
      grind (arith, nat_tests, others_before at)

  pub cut_splits : (front rest : List ℕ) → cut mark bytes ≡ Some (front, rest)
      → Parts mark bytes front rest
  cut_splits front rest h = grind (arith, nat_tests, splits)

  pub cut_none : cut mark bytes ≡ None → All (λ byte. byte ≢ mark) bytes
  cut_none h = grind (arith, nat_tests, others_before (length bytes), take-length bytes)

at_end : (mark : ℕ) (bytes : List ℕ) → All (λ byte. byte ≢ mark) bytes →
    position_or_len (λ byte. byte == mark) bytes ≡ length bytes
at_end mark [] h = refl
at_end mark (byte ∷ bytes) h =
    let other = All-head (λ byte. byte ≢ mark) byte bytes h in
    let e = at_end mark bytes (All-tail (λ byte. byte ≢ mark) byte bytes h) in
    grind (arith, nat_tests)

pub cut_joined : (mark : ℕ) (front rest : List ℕ) → All (λ byte. byte ≢ mark) front
    → cut mark (front ++ mark ∷ rest) ≡ Some (front, rest)
cut_joined mark front rest h =
    let e = at_end mark front h in
    let more = prefix_len-append (λ byte. not (byte == mark)) front (mark ∷ rest) in
    grind (
      arith,
      nat_tests,
      length-append,
      take-append_seam front (mark ∷ rest),
      drop-append-add front (mark ∷ rest) 1,
    )

pub cut_of_none : (mark : ℕ) (bytes : List ℕ) → All (λ byte. byte ≢ mark) bytes →
    cut mark bytes ≡ None
cut_of_none mark bytes h = rw (at_end mark bytes h) (grind (arith, nat_tests))
