use Rattle.std.proofs.Common.{sym, ◌∙◌, arith}
use Rattle.digit_floats.proofs.Mantissas.{no_power}
use Rattle.digit_floats.proofs.round.round_short.Goals as goal

pub returns-in-Some-clause-value : goal.returns-in-Some-clause-value
returns-in-Some-clause-value g c n e =
    c.in-Some.ensures.value
    ∙ sym (no_power g.F.Float.format c.args.negative _ c.args.mantissa.places n
    c.args.power.negative (omega arith))
