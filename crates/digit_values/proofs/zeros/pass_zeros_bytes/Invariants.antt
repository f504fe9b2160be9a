use Rattle.std.proofs.Common.{◌≡◌, ◌+◌, ◌*◌, ◌-◌, ◌^◌, ◌≤◌, min, pos, ◌≤ℤ◌, ◌+ℤ◌}
use Rattle.lexical_digits.specs.CallTable.{zeros_of, past_zeros_of}
use Rattle.lexical_digits.specs.Looks.{owed}
use Rattle.digit_values.proofs.zeros.pass_zeros_bytes.Given as goal

-- of the zeros that lead, so many were passed, each with a look
abbrev pub invariant-loop-component : goal.invariant-loop-component
invariant-loop-component l =
    let k = l.fn.component in
    let old = l.initial.bytes in
    record {
      counts : l.zeros + zeros_of k l.bytes.state ≡ zeros_of k old.state;
      leaves : past_zeros_of k l.bytes.state ≡ past_zeros_of k old.state;
      below : l.zeros ≤ l.bytes.state.cursor;
      owes : owed l.bytes ≤ℤ (owed old +ℤ pos (4 * l.zeros));
      at_least : min (old.looks + l.zeros) (2 ^ 64 - 1) ≤ l.bytes.looks;
    }

abbrev pub decreases-loop-component : goal.decreases-loop-component
decreases-loop-component l = zeros_of l.fn.component l.bytes.state
