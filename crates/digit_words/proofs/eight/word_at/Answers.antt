use Rattle.std.proofs.Common.{◌≡◌, ℕ, ◌+◌, slice_index, get_or, refl, ap, arith}
use Rattle.digit_words.proofs.eight.word_at.Goals as goal

pub returns : goal.returns
returns c =
    let text = c.args.text.now in
    let at = c.args.at in
    let byte : ℕ → ℕ = λ i. slice_index text (at + i) in
    let here : (i : ℕ) → byte i ≡ get_or text (at + i) 0 = λ i. refl in
    let first : byte 0 ≡ get_or text at 0 = ap (λ k. get_or text k 0) {y = at} (omega arith) in
    omega (
      arith,
      c.from_le_bytes.ensures,
      first,
      here 1,
      here 2,
      here 3,
      here 4,
      here 5,
      here 6,
      here 7,
    )
