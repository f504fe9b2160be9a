use Rattle.std.proofs.Common.{take, arith}
use Rattle.decimal_writers.specs.Big.{value_of}
use Rattle.decimal_writers.proofs.Rounding.{added_nine, added_here, added_before}
use Rattle.decimal_writers.proofs.big.add_one.Goals as goal
use Rattle.decimal_writers.proofs.big.add_one.Goals.{then-loop-at-test+else-digits-at-eq9, else-loop-at-test}

pub loop-at-preserved : goal.loop-at-preserved
loop-at-preserved c =
    let l = c.loop-at in
    added_nine c.args.digits.now l.digits c.args.len c.args.place l.at c.loop-at-test.true
    (omega (arith, c.requires.room, l.auto.digits)) c.if-digits-at-eq9.true l.invariant

pub returns-then-at-len-clause-big : goal.returns-then-at-len-clause-big
returns-then-at-len-clause-big c =
    let l = c.loop-at in
    elim c.loop-at-test.branch [
      | then-loop-at-test+else-digits-at-eq9 w ↦
          added_here c.args.digits.now l.digits c.args.len c.args.place l.at
          (value_of (take c.args.len c.args.digits.now)) c.if-at-len.true
          (omega (
            arith,
            c.requires.room,
            l.auto.digits,
          )) w.if-digits-at-eq9.false l.invariant c.requires.big
      | else-loop-at-test w ↦ absurd (omega (arith, w.loop-at-test.false, c.if-at-len.true))
    ]

pub returns-clause-big : goal.returns-clause-big
returns-clause-big c =
    let l = c.loop-at in
    added_before c.args.digits.now l.digits c.args.len c.args.place l.at
    (value_of (take c.args.len c.args.digits.now)) c.if-at-len.false
    (omega (arith, c.requires.room, l.auto.digits)) l.invariant c.requires.big
