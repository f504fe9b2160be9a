use Rattle.std.proofs.Common.{take, rules, FitsSigned}
use Rattle.std.proofs.lemmas.Int.{to_z-of_z}
use mir.Syntax.{w64}
use Rattle.digit_totals.proofs.NumberLine.{whole_integer}
use Rattle.digit_totals.proofs.column.integer_of.Goals as goal

pub returns-in-Ok : goal.returns-in-Ok
returns-in-Ok c =
    let fits : FitsSigned w64 c.in-Ok.value = search rules in
    rw (to_z-of_z w64 c.in-Ok.value fits)
    (whole_integer c.args.word (take c.args.count c.args.text.now) c.in-Ok.value c.requires.low
    c.in-Ok.ensures.is)
