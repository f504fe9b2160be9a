use Rattle.std.proofs.Common.{sym, ◌∙◌}
use Rattle.digit_floats.specs.Float.{parts_at}
use Rattle.digit_numbers.proofs.Alone.{nearest_alone}
use Rattle.digit_numbers.proofs.ShortNumbers.{no_mark}
use Rattle.digit_numbers.proofs.float.round_unmarked.Goals as goal

pub returns-in-Some-clause-value : goal.returns-in-Some-clause-value
returns-in-Some-clause-value g c =
    let word = c.args.form.integers.decimal in
    let text = c.args.text.now in
    let parts = parts_at word text c.args.form.marks c.args.mantissa.start in
    let none = rw c.requires.is.end at c.requires.none in
    c.in-Some.ensures.value
    ∙ rw (c.requires.is.is.places, c.requires.is.integer, c.requires.is.fraction)
    (sym (nearest_alone g.F.Float.format c.args.negative parts
    (no_mark word text c.args.form.marks.exponent _ none)))
