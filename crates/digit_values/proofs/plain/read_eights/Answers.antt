use Rattle.std.proofs.Common.{refl, arith}
use Rattle.std.specs.Prelude.{None}
use Rattle.digit_values.proofs.PlainDigits.{none_plain, more_plain}
use Rattle.digit_values.proofs.plain.read_eights.Goals as goal

pub loop-next-init : goal.loop-next-init
loop-next-init c =
    none_plain c.args.rule c.args.text.now c.args.start c.args.before None c.requires.within
    (omega arith) tt

pub loop-next-preserved : goal.loop-next-preserved
loop-next-preserved c =
    more_plain c.args.rule c.args.text.now c.args.start c.args.before None c.requires.radix
    c.loop-next.end c.loop-next.value 8 _ _ _ c.loop-next.invariant c.in-Some.ensures refl tt
    (omega arith)
