use Rattle.std.proofs.Common.{ℕ, ◌<◌, slice_index, arith}
use Rattle.digit_words.proofs.FrontOfWord.{filled_written}
use Rattle.digit_words.proofs.eight.read_five_to_seven.Goals as goal

pub returns-in-Some : goal.returns-in-Some
returns-in-Some c = λ _.
    let fit : (i : ℕ) → slice_index c.args.text.now i < 256 =
    λ i. let f = c.type_inv.text i in omega arith in
    filled_written c.args.text.now _ c.in-Some.digits _ c.requires.some c.requires.few fit
    c.filled_word.ensures c.in-Some.ensures.is c.in-Some.ensures.below c.value_of.ensures.is
