use Rattle.std.proofs.Common.{ℕ, ◌+◌, ◌-◌, ◌%◌, ◌^◌, ◌<◌, slice_index, arith}
use Rattle.digit_words.specs.Three.{AreThree}
use Rattle.digit_integers.proofs.GroupOfThree.{group_is}
use Rattle.digit_integers.proofs.groups.group_at.Goals as goal

pub returns-then-are_three : goal.returns-then-are_three
returns-then-are_three c =
    let text = c.args.text.now in
    let at = c.args.at in
    let fit : (i : ℕ) → slice_index text (at + i) < 256 = λ i. let f =
    c.type_inv.text (at + i) in omega arith in
    let digits = (c.four_at.result + (2 ^ 32 - (0x3030_3000 + c.from-zeros.result))) % 2 ^ 32 in
    let three : AreThree digits = c.are_three.ensures c.if-are_three.true in
    let all =
    group_is c.args.separator text at digits c.requires.separates
    (omega (arith, c.from-zeros.ensures, c.from-zeros.type_inv)) c.requires.within fit
    (omega (arith, c.four_at.ensures, c.from-zeros.ensures)) three in
    rw (c.value_of_three.ensures) all
