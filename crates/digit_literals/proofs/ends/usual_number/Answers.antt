use Rattle.std.proofs.Common.{◌<◌, arith}
use Rattle.std.specs.Int.{trailing_zeros, w64}
use Rattle.lexical_digits.specs.declared.skip.component.Component.TheVariants.{Integer}
use Rattle.lexical_digits.specs.State.{rule_of}
use Rattle.digit_literals.proofs.ByEnds.{number_at_once}
use Rattle.digit_literals.proofs.ends.usual_number.Goals as goal

pub returns-clause-is : goal.returns-clause-is
returns-clause-is g c =
    let t = g.T.Integer in
    let more : 0 < trailing_zeros w64 c.args.rest = omega (arith, c.requires.count, c.requires.some)
    in
    let few : trailing_zeros w64 c.args.rest < 64 = omega (arith, c.requires.count, c.requires.few)
    in
    rw c.in_ok-read.ensures.is
    (number_at_once t.MIN_MAGNITUDE t.MAX (rule_of c.args.word Integer) c.args.gap
    c.args.text.now c.args.at c.args.rest _ c.in_ok-read.read.end
    c.requires.rest (omega arith) more few c.requires.list.digits c.in_ok-read.ensures.integer)
