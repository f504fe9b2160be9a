use Rattle.std.proofs.Common.{sym, ◌∙◌}
use Rattle.digit_floats.proofs.near.nearest.Goals as goal

pub returns : goal.returns
returns g c num den D b =
    c.of_units.ensures
    ∙ c.in_ok-count.ensures.is g.F.Float.format (sym c.precision.ensures.value)
    (sym c.least.ensures) num den D b
