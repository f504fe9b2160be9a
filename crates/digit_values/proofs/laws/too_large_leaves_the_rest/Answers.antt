use Rattle.digit_values.proofs.Rest.{leaves_rest}
use Rattle.digit_values.proofs.laws.too_large_leaves_the_rest.Goals as goal

pub returns : goal.returns
returns c = leaves_rest
