use Rattle.std.proofs.Common.{◌+◌, refl, rules, FitsSigned, sym}
use Rattle.std.proofs.lemmas.Int.{to_z-of_z}
use Rattle.std.proofs.lemmas.List.{take_rest}
use mir.Syntax.{w64}
use Rattle.digit_totals.proofs.Adding.{ends_with_drop}
use Rattle.digit_totals.proofs.ColumnLine.{column_first}
use Rattle.digit_totals.proofs.column.column_line.Goals as goal

pub returns-in-Some-number_of-clause-is : goal.returns-in-Some-number_of-clause-is
returns-in-Some-number_of-clause-is c =
    let text = c.args.text.now in
    let value = c.in-Some-number_of.value in
    let fits : FitsSigned w64 value = search rules in
    let number = rw (take_rest text c.in-Ok.start) at c.in-Some-number_of.ensures in
    rw (to_z-of_z w64 value fits, take_rest text (c.in-Some.feed + 1))
    (column_first c.args.options c.args.word c.args.column c.args.options.kind text c.in-Some.feed
    c.in-Ok.start c.in-Ok.end value c.requires.column c.requires.word refl
    (sym c.in-Some.ensures) c.in-Ok.ensures.is c.in-Ok.ensures.within.0
    c.in-Ok.ensures.within.1 number)

pub returns-in-Some-number_of-clause-suffix : goal.returns-in-Some-number_of-clause-suffix
returns-in-Some-number_of-clause-suffix c =
    rw (take_rest c.args.text.now (c.in-Some.feed + 1))
    (ends_with_drop c.args.text.now (c.in-Some.feed + 1))
