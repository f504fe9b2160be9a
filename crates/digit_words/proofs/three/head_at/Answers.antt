use Rattle.std.proofs.Common.{ℕ, ◌+◌, ◌-◌, ◌*◌, ◌%◌, ◌^◌, ◌<◌, slice_index, ap, arith}
use Rattle.digit_words.proofs.ThreeDigits.{head_written}
use Rattle.digit_words.proofs.three.head_at.Goals as goal

pub returns-then-are_three : goal.returns-then-are_three
returns-then-are_three c =
    let text = c.args.text.now in
    let start = c.args.start in
    let fit : (i : ℕ) → slice_index text (start + i) < 256 = λ i. let f =
    c.type_inv.text (start + i) in omega arith in
    let all =
    head_written text start c.requires.within fit c.args.count _ c.requires.some c.requires.few
    (ap (λ w. (w + (2 ^ 32 - 0x3030_3030)) % 2 ^ 32 * 2 ^ (32 - 8 * c.args.count) % 2 ^ 32)
    c.four_at.ensures)
    (c.are_three.ensures c.if-are_three.true) in
    rw (c.value_of_three.ensures) all
