use Rattle.std.proofs.Common.{arith}
use Rattle.decimal_writers.proofs.Points.{below_all, below_twenty}
use Rattle.decimal_writers.proofs.point.put_with_point.Goals as goal

pub put_below_one-requires-clause-below : goal.put_below_one-requires-clause-below
put_below_one-requires-clause-below c =
    below_twenty c.args.digits c.args.places (omega arith) c.if-places-ge20.true

pub put_below_one-requires-clause-room : goal.put_below_one-requires-clause-room
put_below_one-requires-clause-room c =
    let a = c.args in
    let below = below_twenty a.digits a.places (omega arith) c.if-places-ge20.true in
    omega (arith, c.requires.room, below_all a.digits a.places c.requires.some below)

pub returns-then-places-ge20-clause-start : goal.returns-then-places-ge20-clause-start
returns-then-places-ge20-clause-start c =
    let a = c.args in
    let below = below_twenty a.digits a.places (omega arith) c.if-places-ge20.true in
    omega (
      arith,
      c.put_below_one.ensures.start,
      below_all a.digits a.places c.requires.some below,
    )
