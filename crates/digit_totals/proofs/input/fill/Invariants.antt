-- Nothing was read.
use Rattle.std.proofs.Common.{◌≡◌, length, take, []}
use Rattle.std.specs.Io.KnownBytes.{Consumes}
use Rattle.digit_totals.proofs.input.fill.Given as goal

abbrev pub invariant-loop : goal.invariant-loop
invariant-loop g l = record {
  none : Consumes (g.R.Read.remaining l.initial.reader) (g.R.Read.remaining l.reader) [];
  kept : take l.filled l.buffer ≡ take l.filled l.initial.buffer;
  same_length : length l.buffer ≡ length l.initial.buffer;
}
