use Rattle.std.specs.Float.{binary64}
use Rattle.digit_floats.specs.Float.{plain_marks}
use Rattle.digit_totals.proofs.ErrorsWithin.{float_within}
use Rattle.digit_totals.proofs.value.parse_float.Goals as goal

pub returns-in-Err-clause-within : goal.returns-in-Err-clause-within
returns-in-Err-clause-within c =
    float_within c.args.text.now c.args.word plain_marks binary64 c.past_bytes-begin.result
    c.in-Err.error c.in-Err.ensures.reads
