use Rattle.std.proofs.Common.{refl, ◌∙◌, arith}
use Rattle.digit_floats.proofs.Mantissas.{no_power}
use Rattle.digit_numbers.proofs.float.round_alone.Goals as goal

pub returns : goal.returns
returns g c = record {
  value = c.round_parts.ensures.value 0 (omega (arith, c.none.ensures.value))
      ∙ no_power g.F.Float.format c.args.negative _ c.args.mantissa.places 0 c.none.result.negative
      refl;
}
