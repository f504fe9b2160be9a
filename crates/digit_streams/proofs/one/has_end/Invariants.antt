-- Each byte so far may be in a number.
use Rattle.std.proofs.Common.{◌≡◌, ℕ, ◌<◌, ◌≤◌, true}
use Rattle.std.specs.Prelude.{slice_index}
use Rattle.digit_streams.proofs.one.has_end.Given as goal

abbrev pub invariant-loop-at : goal.invariant-loop-at
invariant-loop-at g l = (i : ℕ) → l.fn.start ≤ i → i < l.at
    → g.K.Kind.has_byte l.kind (slice_index l.text i) ≡ true
