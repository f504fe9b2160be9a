use Rattle.std.proofs.Common.{◌+◌, ◌≤◌, length, arith}
use Rattle.digit_totals.proofs.Blocks.{onward}
use Rattle.digit_totals.proofs.search.find.Goals as goal

pub loop-at-preserved : goal.loop-at-preserved
loop-at-preserved c =
    let room : c.loop-at.at + 16 ≤ length c.args.bytes.now = omega (arith, c.loop-at-test.true) in (
      room,
      onward c.args.mark c.args.bytes.now c.loop-at.at room c.before_mark-before.result
          c.loop-at.invariant.1 c.before_mark-before.ensures c.if-before-lt-BLOCK.false,
    )
