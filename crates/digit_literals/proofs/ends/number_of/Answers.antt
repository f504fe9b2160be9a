use Rattle.std.proofs.Common.{◌+◌, ◌<◌, slice_index, refl, arith}
use Rattle.std.specs.Prelude.{if◌then◌else◌}
use Rattle.lexical_digits.specs.declared.skip.component.Component.TheVariants.{Integer}
use Rattle.lexical_digits.specs.State.{rule_of}
use Rattle.digit_literals.proofs.ByEnds.{first_room, first_other, no_digit}
use Rattle.digit_integers.proofs.Whole.{number_is_plain}
use Rattle.digit_literals.proofs.ends.number_of.Goals as goal

pub next_after_digits-requires-clause-within : goal.next_after_digits-requires-clause-within
next_after_digits-requires-clause-within g c =
    let room =
    first_room c.args.text.now c.args.head.begin c.args.head.others c.requires.others
    c.requires.some (omega arith) in
    omega (arith, room, c.requires.count)

pub returns-clause-integer : goal.returns-clause-integer
returns-clause-integer g c =
    let text = c.args.text.now in
    let begin = c.args.head.begin in
    let others = c.args.head.others in
    let rule = rule_of c.args.word Integer in
    let count = c.args.count in
    let most =
    if c.args.head.is_negative then g.T.Integer.MIN_MAGNITUDE else g.T.Integer.MAX in
    let room = first_room text begin others c.requires.others c.requires.some (omega arith) in
    let fit : slice_index text (begin + count) < 256 = let f = c.type_inv.text (begin + count) in
    omega arith in
    let marked =
    rw (← c.requires.count) at
    (first_other text begin others c.requires.others c.requires.some (omega arith)) in
    let other = no_digit rule (slice_index text (begin + count)) c.requires.list.ten fit marked in
    number_is_plain rule text begin c.requires.list.ten count c.args.value
    c.requires.written (omega (arith, room, c.requires.count)) other c.in_ok-next.ensures.all
    c.requires.more most (c.if-not-fits.ensures refl)
