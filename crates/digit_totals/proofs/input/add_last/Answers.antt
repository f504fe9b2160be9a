use Rattle.std.proofs.Common.{◌∙◌, sym, arith}
use Rattle.digit_totals.proofs.Adding.{last_added}
use Rattle.digit_totals.proofs.input.add_last.Goals as goal

pub returns-else-is_empty : goal.returns-else-is_empty
returns-else-is_empty g c =
    c.add_line.ensures.is
    ∙ sym (last_added (g.K.Adds.adding c.args.options) c.args.totals c.args.text.now
    (grind (arith, c.if-is_empty.ensures, c.if-is_empty.false)) c.requires.short c.requires.whole)
