use Rattle.std.proofs.Common.{ℕ, ◌+◌, ◌<◌, slice_index, arith}
use Rattle.digit_integers.proofs.EightHexadecimal.{eight_hexadecimal}
use Rattle.digit_integers.proofs.hexadecimal.eight_from.Goals as goal

pub returns : goal.returns
returns c =
    let text = c.args.text.now in
    let at = c.args.at in
    let fit : (i : ℕ) → slice_index text (at + i) < 256 = λ i. let f =
    c.type_inv.text (at + i) in omega arith in
    record {
      is =
          eight_hexadecimal c.args.rule text at c.in_ok-digits_of.field-0
          c.requires.sixteen c.requires.within fit c.word_at.result c.word_at.ensures
          c.in_ok-digits_of.ensures.is c.value_of.result c.value_of.ensures;
    }
