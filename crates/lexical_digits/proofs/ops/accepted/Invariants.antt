use Rattle.std.proofs.Common.{ℕ, ◌+◌, ◌-◌, ◌^◌, ◌<◌}
use Rattle.lexical_format.specs.Word.{bit}
use Rattle.lexical_digits.proofs.ops.accepted.Given as goal

abbrev pub invariant-loop-i : goal.invariant-loop-i
invariant-loop-i g l = record {
  small : l.bits < 2 ^ (128 - l.i);
  are : (j : ℕ) → l.i + j < 128 → g.F.Fn.post l.test (l.start + (l.i + j), tt) (bit l.bits j);
}
