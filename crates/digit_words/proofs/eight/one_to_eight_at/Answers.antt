use Rattle.std.proofs.Common.{ℕ, ◌+◌, ◌-◌, ◌%◌, ◌^◌, ◌<◌, slice_index, ap, arith}
use Rattle.digit_words.proofs.FrontOfWord.{known_digits, front_written}
use Rattle.digit_words.proofs.eight.one_to_eight_at.Goals as goal

pub one_to_eight_of-requires-clause-below : goal.one_to_eight_of-requires-clause-below
one_to_eight_of-requires-clause-below c =
    let text = c.args.text.now in
    let at = c.args.at in
    let fit : (i : ℕ) → slice_index text (at + i) < 256 = λ i. let f =
    c.type_inv.text (at + i) in omega arith in
    let word = c.word_at-digits.result in
    known_digits text at word _ c.args.count fit c.word_at-digits.ensures
    (ap (λ w. (w + (2 ^ 64 - 0x3030_3030_3030_3030)) % 2 ^ 64) {y = word} (omega arith))
    c.requires.few c.requires.digits

pub returns-clause-is : goal.returns-clause-is
returns-clause-is c =
    let text = c.args.text.now in
    let at = c.args.at in
    let fit : (i : ℕ) → slice_index text (at + i) < 256 = λ i. let f =
    c.type_inv.text (at + i) in omega arith in
    let word = c.word_at-digits.result in
    let less = ap (λ w. (w + (2 ^ 64 - 0x3030_3030_3030_3030)) % 2 ^ 64) {y = word} (omega arith) in
    front_written text at c.requires.within fit word _ _ c.one_to_eight_of.result
    c.word_at-digits.ensures less c.requires.few
    (known_digits text at word _ c.args.count fit c.word_at-digits.ensures less c.requires.few
    c.requires.digits) c.one_to_eight_of.ensures.is
