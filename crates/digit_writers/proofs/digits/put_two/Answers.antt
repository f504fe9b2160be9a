use Rattle.std.proofs.Common.{rules}
use Rattle.digit_writers.proofs.Decimals.{two_written}
use Rattle.digit_writers.proofs.digits.put_two.Goals as goal

pub returns : goal.returns
returns c = search (rules, two_written)
