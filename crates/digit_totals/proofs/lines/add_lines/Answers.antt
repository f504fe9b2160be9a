use Rattle.std.proofs.Common.{◌≤◌, length, arith, sym}
use Rattle.digit_totals.proofs.Adding.{one_leaves, leaves_more}
use Rattle.digit_totals.proofs.lines.add_lines.Goals as goal

pub loop-line-init : goal.loop-line-init
loop-line-init g c =
    leaves_more (g.K.Adds.adding c.args.options) c.args.totals c.add_many-many.result.totals
    c.in-Ok.added.totals c.args.text.now c.add_many-many.result.rest.now c.in-Ok.added.rest.now
    c.add_many-many.ensures c.in-Ok.ensures.rest

pub loop-line-preserved : goal.loop-line-preserved
loop-line-preserved g c =
    let a = g.K.Adds.adding c.args.options in
    let before = c.loop-line.added in
    let after = c.in-Some.after.now in
    let totals = c.in-Ok-add_line.totals in
    let so_far = c.loop-line.invariant in
    let short : length c.in-Some.line.now ≤ 65535 =
    omega (arith, c.in-Some.ensures.short, so_far.shorter, c.requires.short) in
    let one = one_leaves a before.totals before.rest.now c.in-Some.line.now after
    c.in-Some.ensures.lines short totals (sym c.in-Ok-add_line.ensures.is)
    c.in-Ok-add_line.ensures.count c.in-Some.ensures.shorter c.in-Some.ensures.suffix in
    leaves_more a c.args.totals totals c.in-Ok-add_quick.more.totals c.args.text.now after
    c.in-Ok-add_quick.more.rest.now
    (leaves_more a c.args.totals before.totals totals c.args.text.now before.rest.now after so_far
    one)
    c.in-Ok-add_quick.ensures.rest
