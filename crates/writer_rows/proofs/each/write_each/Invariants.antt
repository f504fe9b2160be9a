use Rattle.std.proofs.Common.{◌≡◌, ◌≤◌, length}
use Rattle.writer_rows.proofs.each.write_each.Given as goal

abbrev pub invariant-loop-value : goal.invariant-loop-value
invariant-loop-value g l = (l.at ≤ length l.out) × (length l.out ≡ length l.fn.out)
