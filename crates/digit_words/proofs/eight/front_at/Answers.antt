use Rattle.std.proofs.Common.{ℕ, ◌+◌, ◌-◌, ◌%◌, ◌^◌, ◌<◌, slice_index, ap, arith}
use Rattle.std.proofs.lemmas.Nat.{trailing_le}
use Rattle.digit_words.proofs.FrontOfWord.{front_written}
use Rattle.digit_words.proofs.eight.front_at.Goals as goal

pub returns-clause-is : goal.returns-clause-is
returns-clause-is c =
    let text = c.args.text.now in
    let at = c.args.at in
    let fit : (i : ℕ) → slice_index text (at + i) < 256 = λ i. let f =
    c.type_inv.text (at + i) in omega arith in
    let word = c.word_at-digits.result in
    front_written text at c.requires fit word _ _ c.first_of.result c.word_at-digits.ensures
    (ap (λ w. (w + (2 ^ 64 - 0x3030_3030_3030_3030)) % 2 ^ 64) {y = word} (omega arith))
    (omega (arith, trailing_le 64 c.others_of-others.result))
    (c.others_of-others.ensures.first (omega arith)) c.first_of.ensures.is
