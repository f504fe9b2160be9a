use Rattle.std.proofs.Common.{arith}
use Rattle.decimal_writers.proofs.Numerals.{put_last}
use Rattle.form_writers.proofs.integer.put_digits.Goals as goal

pub loop-at-preserved : goal.loop-at-preserved
loop-at-preserved c =
    let l = c.loop-at in (
      omega arith,
      put_last c.args.n c.args.end l.at l.left c.args.out.now l.out (omega arith)
          (omega (arith, c.requires.within, l.auto.out, l.invariant.1.within)) l.invariant.1,
    )
