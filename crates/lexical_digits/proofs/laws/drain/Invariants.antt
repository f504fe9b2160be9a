use Rattle.std.proofs.Common.{◌≡◌, ◌+◌, ◌*◌, length, pos, ◌≤ℤ◌, ◌+ℤ◌}
use Rattle.lexical_digits.specs.Laws.Terms.{drain_of, after_drain, owed}
use Rattle.lexical_digits.proofs.laws.drain.Given as goal

-- what was yielded and what is left make up the drain
abbrev pub invariant-loop-byte : goal.invariant-loop-byte
invariant-loop-byte l =
    let k = l.fn.component in
    record {
      yielded : l.items + length (drain_of k l.bytes.state)
          ≡ length (drain_of k l.initial.bytes.state);
      leaves : after_drain k l.bytes.state ≡ after_drain k l.initial.bytes.state;
      owes : owed l.bytes ≤ℤ (owed l.initial.bytes +ℤ pos (4 * l.items));
    }

abbrev pub decreases-loop-byte : goal.decreases-loop-byte
decreases-loop-byte l = length (drain_of l.fn.component l.bytes.state)
