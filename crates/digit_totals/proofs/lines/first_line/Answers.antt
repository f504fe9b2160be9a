use Rattle.std.proofs.Common.{◌+◌, sym}
use Rattle.std.proofs.lemmas.List.{take_rest}
use Rattle.digit_totals.proofs.Adding.{ends_with_drop}
use Rattle.digit_totals.proofs.FirstLine.{first_is}
use Rattle.digit_totals.proofs.FirstMark.{position_none}
use Rattle.digit_totals.proofs.lines.first_line.Goals as goal

pub returns-in-Some-clause-lines : goal.returns-in-Some-clause-lines
returns-in-Some-clause-lines c =
    rw (take_rest c.args.text.now (c.in-Some.end + 1))
    (first_is c.args.text.now c.in-Some.end (sym c.in-Some.ensures))

pub returns-in-None-clause-lines : goal.returns-in-None-clause-lines
returns-in-None-clause-lines c = position_none 10 c.args.text.now (sym c.in-None.ensures)

pub returns-in-Some-clause-suffix : goal.returns-in-Some-clause-suffix
returns-in-Some-clause-suffix c =
    rw (take_rest c.args.text.now (c.in-Some.end + 1))
    (ends_with_drop c.args.text.now (c.in-Some.end + 1))
