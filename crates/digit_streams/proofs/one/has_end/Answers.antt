use Rattle.std.proofs.Common.{rules, arith}
use Rattle.digit_streams.proofs.SureHere.{some_is_sure, none_is_sure}
use Rattle.digit_streams.proofs.one.has_end.Goals as goal

pub returns-then-not-has_byte : goal.returns-then-not-has_byte
returns-then-not-has_byte g c =
    some_is_sure (g.K.Kind.has_byte c.args.kind) c.args.text.now c.args.start c.loop-at.at
    (search rules) (search rules) (search rules)

pub returns : goal.returns
returns g c =
    none_is_sure (g.K.Kind.has_byte c.args.kind) c.args.text.now c.args.start
    (λ i low high. c.loop-at.invariant i low (omega arith))
