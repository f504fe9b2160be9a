-- No byte so far may be in a number, and between two.
use Rattle.std.proofs.Common.{◌≡◌, ℕ, ◌<◌, true, false}
use Rattle.digit_pieces.specs.Apart.{is_between}
use Rattle.digit_pieces.proofs.apart.is_apart.Given as goal

abbrev pub invariant-loop-at : goal.invariant-loop-at
invariant-loop-at g l =
    (b : ℕ) → b < l.at → g.K.Kind.has_byte l.kind b ≡ true → is_between l.gap b ≡ false
