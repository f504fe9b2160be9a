use Rattle.std.proofs.Common.{arith, below_more}
use Rattle.digit_pieces.proofs.Shared.{apart_by_bytes, both_here, none_here}
use Rattle.digit_pieces.proofs.apart.is_apart.Goals as goal

pub loop-at-preserved : goal.loop-at-preserved
loop-at-preserved g c =
    below_more _ _ c.loop-at.invariant
    (none_here _ _ _ c.is_shared.ensures c.if-is_shared.false)

pub returns-then-is_shared-clause-shared : goal.returns-then-is_shared-clause-shared
returns-then-is_shared-clause-shared g c = λ same.
    let both = both_here _ _ _ c.is_shared.ensures c.if-is_shared.true in
    (c.loop-at.at, record { is_byte = omega arith; in_number = both.0; between = both.1 })

pub returns-then-is_shared-clause-none : goal.returns-then-is_shared-clause-none
returns-then-is_shared-clause-none g c = λ same apart.
    let both = both_here _ _ _ c.is_shared.ensures c.if-is_shared.true in
    let none = apart c.loop-at.at both.0 in
    absurd cc

pub returns-clause-apart : goal.returns-clause-apart
returns-clause-apart g c = λ same.
    apart_by_bytes (g.K.Kind.has_byte c.args.kind) c.args.gap
    (record { separators = omega arith; blanks = omega arith })
    (λ byte low h. c.loop-at.invariant byte (omega arith) h)
