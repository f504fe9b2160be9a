use Rattle.std.proofs.Common.{◌∙◌}
use Rattle.std.specs.Str.Parse.{digits_value}
use Rattle.digit_numbers.specs.Numbers.{exponent, parts}
use Rattle.digit_numbers.proofs.Alone.{same_sign}
use Rattle.digit_numbers.proofs.float.round_at.Goals as goal

pub returns-clause-value : goal.returns-clause-value
returns-clause-value g c =
    let f = c.args.form in
    let text = c.args.text.now in
    let at = c.args.mantissa.start in
    c.round_parts.ensures.value (digits_value 10 (exponent f text at)) c.requires.power.value
    ∙ rw (
      c.requires.is.is.places,
      c.requires.is.integer,
      c.requires.is.fraction,
      ← c.requires.power.fraction,
    )
    (same_sign g.F.Float.format c.args.negative _ _ _ c.args.power.negative
    (parts f text at).exponent_negative c.requires.power.negative)
