use Rattle.std.proofs.Common.{arith}
use Rattle.lexical_digits.proofs.Looks.WhereSeparatorsStand.{separators}
use Rattle.lexical_digits.proofs.skip.decision.run_end.Goals as goal

pub returns-then-not-is_separator : goal.returns-then-not-is_separator
returns-then-not-is_separator g c = grind (arith, separators)

pub loop-i-preserved : goal.loop-i-preserved
loop-i-preserved g c = grind (arith, separators)

pub returns : goal.returns
returns g c = grind (arith, separators)
