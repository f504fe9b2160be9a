use Rattle.std.proofs.Common.{sym, ◌∙◌}
use Rattle.digit_floats.proofs.EightDigits.{first_is, second_is, eight_digits}
use Rattle.digit_floats.proofs.eights.are_eight_digits.Goals as goal

pub returns : goal.returns
returns c = λ e.
    let g = first_is _ _ e in
    let f = first_is _ _ g in
    let h = first_is _ _ f in
    let i = first_is _ _ h in
    let j = first_is _ _ i in
    let k = first_is _ _ j in
    eight_digits c.args.rule c.args.text.now c.requires.radix c.args.at
    (sym c.is_ascii_digit.ensures.value ∙ first_is _ _ k)
    (sym c.is_ascii_digit-2.ensures.value ∙ second_is _ _ k)
    (sym c.is_ascii_digit-3.ensures.value ∙ second_is _ _ j)
    (sym c.is_ascii_digit-4.ensures.value ∙ second_is _ _ i)
    (sym c.is_ascii_digit-5.ensures.value ∙ second_is _ _ h)
    (sym c.is_ascii_digit-6.ensures.value ∙ second_is _ _ f)
    (sym c.is_ascii_digit-7.ensures.value ∙ second_is _ _ g)
    (sym c.is_ascii_digit-8.ensures.value ∙ second_is _ _ e)
