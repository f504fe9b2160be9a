use Rattle.std.proofs.Common.{◌*◌, ◌^◌, refl, ◌∙◌}
use Rattle.digit_floats.proofs.HexDigits.{zero_is}
use Rattle.digit_floats.proofs.Tens.{ten_pos}
use Rattle.digit_floats.proofs.round.zero.Goals as goal

pub returns : goal.returns
returns g c up down =
    c.signed.ensures (0 * 10 ^ up) (10 ^ down)
    (c.of_units.ensures ∙ zero_is g.F.Float.format 0 (10 ^ up) (10 ^ down) refl (ten_pos down))
