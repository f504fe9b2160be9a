-- So many zeros are added.
use Rattle.std.proofs.Common.{◌≡◌, ◌++◌, replicate, string_bytes}
use Rattle.digit_totals.proofs.text.push_zeros.Given as goal

abbrev pub invariant-loop : goal.invariant-loop
invariant-loop g l =
    string_bytes l.text ≡ string_bytes l.initial.text ++ replicate l.counter 48
