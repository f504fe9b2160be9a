use Rattle.std.proofs.Common.{◌≡◌, ℕ, ◌+◌, ◌<◌, List, slice_index, sym, ◌∙◌, arith}
use Rattle.std.specs.Prelude.{Option, Some, None, IfSome}
use Rattle.digit_words.specs.Eight.{AreBelow, AreDigits, spelt}
use Rattle.digit_words.proofs.WordOfDigits.{byte_is}
use Rattle.digit_words.proofs.eight.digits_at.Goals as goal

pub returns : goal.returns
returns c =
    let text = c.args.text.now in
    let at = c.args.at in
    let fit : (i : ℕ) → slice_index text (at + i) < 256 = λ i. let f =
    c.type_inv.text (at + i) in omega arith in
    if_digits text at fit c.word_at.result c.word_at.ensures c.digits_of.result
    c.digits_of.ensures.below c.digits_of.ensures.is
  where
    if_digits : (text : List ℕ) (at : ℕ) → ((i : ℕ) → slice_index text (at + i) < 256) → (word : ℕ)
        → word ≡ spelt 8 (λ i. slice_index text (at + i))
        → (result : Option ℕ) → IfSome result (AreBelow 10 8)
        → IfSome result (λ digits. word ≡ digits + 0x3030_3030_3030_3030)
        → IfSome result (AreDigits text at)
    if_digits text at fit word spells None below is = tt
    if_digits text at fit word spells (Some digits) below is =
        record {
          below = below;
          is = byte_is 8 (λ i. slice_index text (at + i)) digits fit below (sym spells ∙ is);
        }
