-- The last separator so far, with blanks alone before it.
use Rattle.std.specs.Prelude.{IfSome}
use Rattle.digit_pieces.proofs.Found.{IsFound}
use Rattle.digit_pieces.proofs.piece.last_separator.Given as goal

abbrev pub invariant-loop-at : goal.invariant-loop-at
invariant-loop-at g l =
    IfSome l.found (IsFound (g.K.Kind.has_byte l.kind) l.gap l.text l.at)
