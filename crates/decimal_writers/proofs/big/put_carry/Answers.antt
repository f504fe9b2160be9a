use Rattle.std.proofs.Common.{arith}
use Rattle.decimal_writers.proofs.Bigs.{carried_none, carried_one, carried_room}
use Rattle.decimal_writers.proofs.big.put_carry.Goals as goal

pub loop-left-init : goal.loop-left-init
loop-left-init c =
    carried_none c.args.digits.now c.args.start c.args.carry c.requires.small c.requires.digits

pub loop-left-preserved : goal.loop-left-preserved
loop-left-preserved c =
    let l = c.loop-left in
    carried_one c.args.digits.now l.digits c.args.start c.args.carry l.at l.left
    (omega (
      arith,
      carried_room c.args.digits.now l.digits c.args.start c.args.carry l.at l.left
          (omega arith) l.invariant,
    ))
    (omega arith) l.invariant
