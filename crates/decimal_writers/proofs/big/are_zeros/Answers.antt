use Rattle.decimal_writers.proofs.Bigs.{value_nil}
use Rattle.decimal_writers.proofs.big.are_zeros.Goals as goal

pub loop-i-init : goal.loop-i-init
loop-i-init c = value_nil
