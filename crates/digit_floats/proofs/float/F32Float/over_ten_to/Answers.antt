use Rattle.std.proofs.Common.{arith}
use Rattle.std.specs.Float.{binary32}
use Rattle.digit_floats.proofs.Tens.{over_ten}
use Rattle.digit_floats.proofs.float.F32Float.over_ten_to.Goals as goal

pub returns : goal.returns
returns c =
    over_ten binary32 c.args.digits c.args.tens _ (omega arith) c.ten_to_f32.ensures
