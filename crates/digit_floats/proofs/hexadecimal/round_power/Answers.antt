use Rattle.std.proofs.Common.{◌+◌, ◌*◌, ◌∙◌, arith}
use Rattle.digit_floats.proofs.HexDigits.{small_number, up_capped, down_capped}
use Rattle.digit_floats.proofs.hexadecimal.round_power.Goals as goal

pub returns-then-down : goal.returns-then-down
returns-then-down g c n number cap is =
    let kept = c.args.kept in
    rw c.if-down.true
    (c.round_kept.ensures number is
    ∙ down_capped g.F.Float.format (64 + 4 * kept.cut) (4 * c.args.places) n c.args.power
    (omega (arith, is.few)) (omega arith) cap number (small_number kept number is))

pub returns-else-down : goal.returns-else-down
returns-else-down g c n number cap is =
    let kept = c.args.kept in
    rw c.if-down.false
    (c.round_kept-else-down.ensures number is
    ∙ up_capped g.F.Float.format (64 + 4 * kept.cut) (4 * c.args.places + 0) n c.args.power
    (omega (arith, is.few)) (omega arith) cap number (small_number kept number is))
