use Rattle.std.proofs.Common.{rules, arith}
use Rattle.digit_streams.proofs.SureHere.{some_sure}
use Rattle.digit_streams.proofs.one.ends_at.Goals as goal

pub returns-in-Some : goal.returns-in-Some
returns-in-Some g c = λ ends.
    some_sure (g.K.Kind.has_byte c.args.kind) c.args.text.now c.args.at c.args.at
    (omega arith) (search rules) (search rules)
