use Rattle.std.proofs.Common.{◌≡◌, ℕ, ◌<◌, ◌≤◌, true, length, slice_index}
use Rattle.digit_pieces.proofs.sure.sure_end.Given as goal

abbrev pub invariant-loop-at : goal.invariant-loop-at
invariant-loop-at g l =
    (i : ℕ) → l.at ≤ i → i < length l.text → g.K.Kind.has_byte l.kind (slice_index l.text i) ≡ true
