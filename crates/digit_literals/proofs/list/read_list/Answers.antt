use Rattle.lexical_digits.specs.declared.skip.component.Component.TheVariants.{Integer}
use Rattle.lexical_digits.specs.State.{rule_of}
use Rattle.digit_values.specs.Errors.{literal_none_at}
use Rattle.digit_literals.specs.Lists.{SoFar}
use Rattle.digit_integers.specs.Numbers.{number_at}
use Rattle.digit_literals.proofs.Lists.{turns_begin}
use Rattle.digit_literals.proofs.list.read_list.Goals as goal
use Rattle.digit_literals.proofs.list.read_list.Goals.{then-out-ge-MANY+then-is_by_ends+in-Ok, else-out-ge-MANY}

pub returns-clause-is : goal.returns-clause-is
returns-clause-is g c =
    let t = g.T.Integer in
    let one = number_at t.MIN_MAGNITUDE t.MAX (rule_of c.args.word Integer) c.args.text.now in
    let so : SoFar t.number one literal_none_at c.args.gap c.args.text.now c.args.start
    c.if-out-ge-MANY.from c.if-out-ge-MANY.at c.args.out.now c.if-out-ge-MANY.out
    =
    elim c.if-out-ge-MANY.branch [
      | then-out-ge-MANY+then-is_by_ends+in-Ok w ↦
          rw (w.out-is, w.at-is, w.from-is) w.in-Ok.ensures.so
      | else-out-ge-MANY w ↦
          rw (w.out-is, w.at-is, w.from-is)
          (turns_begin t.number one literal_none_at c.args.gap c.args.text.now c.args.start
          c.args.out.now)
    ] in
    c.read_rest.ensures.fills c.args.start c.args.out.now so
