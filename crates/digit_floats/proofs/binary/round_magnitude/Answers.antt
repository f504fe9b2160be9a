use Rattle.std.proofs.Common.{◌≡◌, ◌*◌, ◌∙◌, arith}
use Rattle.digit_floats.proofs.HexDigits.{zero_is}
use Rattle.digit_floats.proofs.binary.round_magnitude.Goals as goal

pub returns-then-magnitude-eq0 : goal.returns-then-magnitude-eq0
returns-then-magnitude-eq0 g c =
    let one : c.args.magnitude * 1 ≡ c.args.magnitude = omega arith in
    c.of_units.ensures
    ∙ rw one at
    (zero_is g.F.Float.format c.args.magnitude 1 1 c.if-magnitude-eq0.true (omega arith))
