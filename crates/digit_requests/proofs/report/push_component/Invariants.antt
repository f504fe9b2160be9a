-- The bytes so far, before those that are left, are all of them; and the end stays the same.
use Rattle.std.proofs.Common.{◌≡◌, ◌++◌, length}
use Rattle.lexical_digits.specs.CallTable.{drain_of, after_drain}
use Rattle.digit_requests.proofs.report.push_component.Given as goal

abbrev pub invariant-loop-byte : goal.invariant-loop-byte
invariant-loop-byte g l =
    let k = l.fn.component in
    record {
      output : l.output.items ++ drain_of k l.bytes.state
          ≡ l.initial.output.items ++ drain_of k l.initial.bytes.state;
      leaves : after_drain k l.bytes.state ≡ after_drain k l.initial.bytes.state;
    }

abbrev pub decreases-loop-byte : goal.decreases-loop-byte
decreases-loop-byte g l = length (drain_of l.fn.component l.bytes.state)
