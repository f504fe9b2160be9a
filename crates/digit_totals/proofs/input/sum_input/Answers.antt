use Rattle.std.proofs.Common.{◌∙◌, take, subst, sym}
use Rattle.digit_totals.specs.Outcome.{Sums}
use Rattle.digit_totals.proofs.Header.{sums_after}
use Rattle.digit_totals.proofs.input.sum_input.Goals as goal

pub returns-in-Ok-clause-is : goal.returns-in-Ok-clause-is
returns-in-Ok-clause-is g c =
    let o = g.K.Adds.adding c.args.options in
    let remaining = g.R.Read.remaining in
    subst (Sums o (remaining c.args.reader.now)) (sym c.later.ensures)
    (sums_after o (remaining c.args.reader.now) (remaining c.pass_line.new.reader)
    (take c.in-Ok.count c.pass_line.new.buffer) c.sum_lines.result
    (sym c.has_header.ensures ∙ c.if-has_header.true) c.in-Ok.ensures.passed
    c.sum_lines.ensures.is)
