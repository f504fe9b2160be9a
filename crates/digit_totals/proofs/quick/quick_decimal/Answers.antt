use Rattle.std.proofs.Common.{drop, rules, FitsSigned}
use Rattle.std.proofs.lemmas.Int.{to_z-of_z}
use Rattle.std.proofs.lemmas.List.{take_rest}
use mir.Syntax.{w64}
use Rattle.digit_totals.proofs.Adding.{ends_with_drop}
use Rattle.digit_totals.proofs.NumberLine.{begins_decimal, line_is}
use Rattle.digit_totals.proofs.quick.quick_decimal.Goals as goal

pub returns-in-Some-after_feed-clause-is : goal.returns-in-Some-after_feed-clause-is
returns-in-Some-after_feed-clause-is c =
    let text = c.args.text.now in
    let fits : FitsSigned w64 c.in-Some.value = search rules in
    rw (to_z-of_z w64 c.in-Some.value fits, take_rest text c.in-Some-after_feed.next)
    (line_is c.args.options c.args.word text (drop c.in-Some-after_feed.next text)
    c.in-Some.value c.requires.column c.requires.word
    (rw c.requires.kind (begins_decimal c.args.word text c.args.places
    c.begin_at-place.result c.in-Some.value c.in-Some.end c.in-Some-after_feed.next
    c.requires.low c.begin_at-place.ensures.is c.in-Some.ensures.is
    c.in-Some.ensures.some c.in-Some.ensures.within c.in-Some-after_feed.ensures.is)))

pub returns-in-Some-after_feed-clause-suffix : goal.returns-in-Some-after_feed-clause-suffix
returns-in-Some-after_feed-clause-suffix c =
    rw (take_rest c.args.text.now c.in-Some-after_feed.next)
    (ends_with_drop c.args.text.now c.in-Some-after_feed.next)
