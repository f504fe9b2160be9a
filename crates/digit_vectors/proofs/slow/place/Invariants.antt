use Rattle.std.proofs.Common.{◌≡◌}
use Rattle.lexical_digits.specs.Separators.{kept_positions}
use Rattle.digit_vectors.proofs.Places.{kept_from}
use Rattle.digit_vectors.proofs.slow.place.Given as goal

-- none before this position is kept
abbrev pub invariant-loop-position : goal.invariant-loop-position
invariant-loop-position l = kept_from l.rule l.buffer l.start l.count l.position
    ≡ kept_positions l.rule l.buffer l.start l.count
