use Rattle.std.proofs.Common.{◌≡◌, length}
use Rattle.lexical_digits.specs.State.{start}
use Rattle.lexical_digits.specs.CallTable.{drain_of}
use Rattle.lexical_digits.specs.Stop.{stop_of}
use Rattle.digit_vectors.proofs.ends.component_end.Given as goal

-- the digits end where they did
abbrev pub invariant-loop-byte : goal.invariant-loop-byte
invariant-loop-byte l = record {
  text : l.bytes.state.buffer ≡ l.fn.text;
  stop : stop_of l.fn.component l.bytes.state ≡ stop_of l.fn.component (start l.fn.text l.fn.word);
}

abbrev pub decreases-loop-byte : goal.decreases-loop-byte
decreases-loop-byte l = length (drain_of l.fn.component l.bytes.state)
