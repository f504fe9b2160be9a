use Rattle.std.proofs.Common.{take, drop}
use Rattle.std.proofs.lemmas.Simd.{length-chunk}
use Rattle.digit_totals.proofs.Blocks.{none_is, first_is}
use Rattle.digit_totals.proofs.search.before_mark.Goals as goal

pub returns-then-marks-eq0 : goal.returns-then-marks-eq0
returns-then-marks-eq0 c =
    none_is c.args.mark (take 16 (drop c.args.at c.args.bytes.now))
    (length-chunk c.args.at 16 c.args.bytes.now c.requires) c.if-marks-eq0.true

pub returns-else-marks-eq0 : goal.returns-else-marks-eq0
returns-else-marks-eq0 c =
    first_is c.args.mark (take 16 (drop c.args.at c.args.bytes.now))
    (length-chunk c.args.at 16 c.args.bytes.now c.requires) c.if-marks-eq0.false
