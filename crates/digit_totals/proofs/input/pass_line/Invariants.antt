-- What was read has no line feed.
use Rattle.std.proofs.Common.{◌≡◌, length}
use Rattle.digit_totals.proofs.Header.{SameAfter}
use Rattle.digit_totals.proofs.input.pass_line.Given as goal

abbrev pub invariant-loop : goal.invariant-loop
invariant-loop g l = record {
  same : SameAfter (g.R.Read.remaining l.initial.reader) (g.R.Read.remaining l.reader);
  same_length : length l.buffer ≡ length l.initial.buffer;
}
