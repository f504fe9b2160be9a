use Rattle.std.proofs.Common.{drop, rules, FitsSigned}
use Rattle.std.proofs.lemmas.Int.{to_z-of_z}
use Rattle.std.proofs.lemmas.List.{take_rest}
use mir.Syntax.{w64}
use Rattle.digit_totals.proofs.Adding.{ends_with_drop}
use Rattle.digit_totals.proofs.NumberLine.{begins_integer, line_is}
use Rattle.digit_totals.proofs.quick.quick_integer.Goals as goal

pub returns-in-Some-clause-is : goal.returns-in-Some-clause-is
returns-in-Some-clause-is c =
    let text = c.args.text.now in
    let fits : FitsSigned w64 c.in-Ok.value = search rules in
    rw (to_z-of_z w64 c.in-Ok.value fits, take_rest text c.in-Some.next)
    (line_is c.args.options c.args.word text (drop c.in-Some.next text) c.in-Ok.value
    c.requires.column c.requires.word
    (rw c.requires.kind (begins_integer c.args.word text c.begin_at-place.result c.in-Ok.value
    c.in-Ok.end c.in-Some.next c.requires.low c.begin_at-place.ensures.is c.in-Ok.ensures.is
    c.in-Ok.ensures.end.0 c.in-Ok.ensures.end.1 c.in-Some.ensures.is)))

pub returns-in-Some-clause-suffix : goal.returns-in-Some-clause-suffix
returns-in-Some-clause-suffix c =
    rw (take_rest c.args.text.now c.in-Some.next)
    (ends_with_drop c.args.text.now c.in-Some.next)
