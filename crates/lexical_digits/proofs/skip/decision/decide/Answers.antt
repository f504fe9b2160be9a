use Rattle.std.proofs.Common.{arith}
use Rattle.lexical_digits.proofs.Looks.Spans.{judged}
use Rattle.lexical_digits.proofs.skip.decision.decide.Goals as goal

pub returns-then-at-length : goal.returns-then-at-length
returns-then-at-length g c = grind (arith, judged)

pub returns-then-not-is_separator : goal.returns-then-not-is_separator
returns-then-not-is_separator g c = grind (arith, judged)

pub span_at-span-requires : goal.span_at-span-requires
span_at-span-requires g c = grind (arith, judged)

pub returns : goal.returns
returns g c = grind (arith, judged)
