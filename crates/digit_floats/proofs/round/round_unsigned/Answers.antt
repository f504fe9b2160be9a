use Rattle.std.proofs.Common.{arith}
use Rattle.digit_floats.proofs.Numbers.{number_is}
use Rattle.digit_floats.proofs.Signs.{round_neg_if}
use Rattle.digit_floats.proofs.round.round_unsigned.Goals as goal

pub returns-in-Some-clause-value : goal.returns-in-Some-clause-value
returns-in-Some-clause-value g c n e =
    round_neg_if _ c.args.negative _ _ _ _ c.negated_if.ensures (c.in-Some.ensures.value n e)

pub returns-in-Some-clause-no_nan : goal.returns-in-Some-clause-no_nan
returns-in-Some-clause-no_nan g c =
    number_is _ _ _ _ (returns-in-Some-clause-value g c c.args.power.value (omega arith))
