use Rattle.digit_totals.specs.Totals.{adding}
use Rattle.digit_totals.proofs.Adding.{leaves_more}
use Rattle.digit_totals.proofs.quick.add_integers.Goals as goal

pub loop-added-preserved : goal.loop-added-preserved
loop-added-preserved c =
    let a = adding c.args.options in
    let before = c.loop-added.added in
    let many = c.add_many-many.result in
    let few = c.add_few-added-in-loop-added.result in
    leaves_more a c.args.totals many.totals few.totals c.args.text.now many.rest.now few.rest.now
    (leaves_more a c.args.totals before.totals many.totals c.args.text.now before.rest.now
    many.rest.now c.loop-added.invariant c.add_many-many.ensures)
    c.add_few-added-in-loop-added.ensures
