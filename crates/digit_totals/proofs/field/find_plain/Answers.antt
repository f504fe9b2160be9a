use Rattle.std.proofs.Common.{◌+◌, ◌∙◌, sym}
use Rattle.digit_totals.proofs.Fields.{front_read, front_quoted}
use Rattle.digit_totals.proofs.field.find_plain.Goals as goal

pub returns-then-is_quoted-clause-is : goal.returns-then-is_quoted-clause-is
returns-then-is_quoted-clause-is c =
    rw (← c.saturating_sub-before.ensures)
    (sym (c.in-Ok.ensures.is
    ∙ front_quoted c.args.column.separator c.args.line.now c.in-Ok.start c.in-Ok.ensures.within
    (c.saturating_sub-before.result + 1) c.find_end-end.result c.find_end-end.ensures.is.0
    c.find_end-end.ensures.is.1 (sym c.is_quoted.ensures ∙ c.if-is_quoted.true)))

pub returns-clause-is : goal.returns-clause-is
returns-clause-is c =
    rw (← c.saturating_sub-before.ensures)
    (sym (c.in-Ok.ensures.is
    ∙ front_read c.args.column.separator c.args.line.now c.in-Ok.start c.in-Ok.ensures.within
    (c.saturating_sub-before.result + 1) c.find_end-end.result c.find_end-end.ensures.is.0
    c.find_end-end.ensures.order c.find_end-end.ensures.within c.find_end-end.ensures.is.1
    (sym c.is_quoted.ensures ∙ c.if-is_quoted.false)))
