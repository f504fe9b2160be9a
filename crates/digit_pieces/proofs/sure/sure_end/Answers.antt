use Rattle.std.proofs.Common.{◌≡◌, ◌+◌, ◌-◌, ◌<◌, false, slice_index, arith}
use Rattle.digit_pieces.proofs.SureEnds.{sure_is, sure_stays}
use Rattle.digit_pieces.proofs.sure.sure_end.Goals as goal

pub returns-then-not-has_byte-clause-is : goal.returns-then-not-has_byte-clause-is
returns-then-not-has_byte-clause-is g c =
    let has = g.K.Kind.has_byte c.args.kind in
    let text = c.args.text.now in
    let some : 0 < c.loop-at.at = omega arith in
    let other : has (slice_index text (c.loop-at.at - 1)) ≡ false =
    rw (← c.has_byte.ensures) c.if-not-has_byte.true in
    sure_is has text (c.loop-at.at - 1 + 1) (omega arith)
    (λ i low within. c.loop-at.invariant i (omega arith) within)
    (λ i is. (let e : i ≡ c.loop-at.at - 1 = omega arith in rw e other))

pub returns-clause-is : goal.returns-clause-is
returns-clause-is g c =
    sure_is (g.K.Kind.has_byte c.args.kind) c.args.text.now 0 (omega arith)
    (λ i low within. c.loop-at.invariant i (omega arith) within)
    (λ i is. absurd (omega arith))

pub returns-then-not-has_byte-clause-stays : goal.returns-then-not-has_byte-clause-stays
returns-then-not-has_byte-clause-stays g c = λ more start valid l.
    let k = g.K.Kind in
    let kind = c.args.kind in
    let is = returns-then-not-has_byte-clause-is g c in
    sure_stays (k.has_byte kind) c.args.text.now (k.number_at kind)
    (λ text other at from upto low. g.met.K.Kind.follows kind text other at from valid upto low)
    more start (rw is at l)
