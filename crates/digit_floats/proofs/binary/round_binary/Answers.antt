use Rattle.std.proofs.Common.{sym, ◌∙◌}
use Rattle.digit_floats.proofs.binary.round_binary.Goals as goal

pub returns : goal.returns
returns g c num den D is =
    c.of_units.ensures
    ∙ c.nearest_binary-count.ensures.is g.F.Float.format (sym c.precision.ensures.value) num den D
    is
