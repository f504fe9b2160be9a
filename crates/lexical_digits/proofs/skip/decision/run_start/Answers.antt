use Rattle.std.proofs.Common.{arith}
use Rattle.lexical_digits.proofs.Looks.WhereSeparatorsStand.{separator_byte_at}
use Rattle.lexical_digits.proofs.skip.decision.run_start.Goals as goal

pub returns-then-not-is_separator : goal.returns-then-not-is_separator
returns-then-not-is_separator g c = grind (arith, separator_byte_at)

pub loop-i-preserved : goal.loop-i-preserved
loop-i-preserved g c = grind (arith, separator_byte_at)
