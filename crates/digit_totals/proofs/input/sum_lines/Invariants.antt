-- The totals so far, with the lines of what is in the buffer and of what is left, are those of all.
use Rattle.std.proofs.Common.{◌≡◌, ◌≢◌, ◌+◌, ◌*◌, ◌≤◌, All, length, take}
use Rattle.digit_totals.specs.Outcome.{Continues, with_front}
use Rattle.digit_totals.proofs.input.sum_lines.Given as goal

abbrev pub invariant-loop : goal.invariant-loop
invariant-loop g l = record {
  continues : Continues (g.K.Adds.adding l.options)
      (with_front (take l.start l.initial.buffer) (g.R.Read.remaining l.initial.reader))
      (g.R.Read.remaining l.reader) (take l.end l.buffer) l.totals;
  whole : All (λ byte. byte ≢ 10) (take l.filled l.buffer);
  order : l.filled ≤ l.end;
  within : l.end ≤ 65536;
  same_length : length l.buffer ≡ 65536;
  count : (g.K.Adds.adding l.options).count_of l.totals + l.end ≤ (l.counter + 1) * 65536;
}
