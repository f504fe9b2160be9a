use Rattle.std.proofs.Common.{◌≡◌, length}
use Rattle.std.specs.Prelude.{◌==◌}
use Rattle.std.specs.List.{list_any}
use Rattle.std.specs.Io.BufRead.{drop_through}
use Rattle.lexical_digits.specs.CallTable.{drain_of, after_drain}
use Rattle.lexical_digits.specs.declared.skip.component.Component.TheVariants.{Integer}
use Rattle.digit_vectors.proofs.ends.take_through.Given as goal

-- it is the same `Bytes`, and what it yields from here on decides
abbrev pub invariant-loop-byte : goal.invariant-loop-byte
invariant-loop-byte l = record {
  keeps_loan : l.iter.byte.ghost_name ≡ l.initial.iter.byte.ghost_name;
  answer : list_any (λ byte. byte == l.wanted) (drain_of Integer l.iter.byte.now.state)
      ≡ list_any (λ byte. byte == l.wanted) (drain_of Integer l.initial.iter.byte.now.state);
  rest : drop_through l.wanted (drain_of Integer l.iter.byte.now.state)
      ≡ drop_through l.wanted (drain_of Integer l.initial.iter.byte.now.state);
  leaves : after_drain Integer l.iter.byte.now.state
      ≡ after_drain Integer l.initial.iter.byte.now.state;
}

-- each turn yields one of them
abbrev pub decreases-loop-byte : goal.decreases-loop-byte
decreases-loop-byte l = length (drain_of Integer l.iter.byte.now.state)
