use Rattle.std.proofs.Common.{arith}
use Rattle.std.proofs.lemmas.Str.Parse.{digits_value-take-le}
use Rattle.digit_values.proofs.outcomes_differ.Goals as goal

pub returns : goal.returns
returns g c = grind (arith, digits_value-take-le)
