use Rattle.std.proofs.Common.{◌≡◌, length}
use Rattle.std.specs.Prelude.{◌==◌}
use Rattle.std.specs.List.{list_any}
use Rattle.lexical_digits.specs.CallTable.{drain_of}
use Rattle.lexical_digits.specs.declared.skip.component.Component.TheVariants.{Integer}
use Rattle.digit_uses.proofs.loops.yields.Given as goal

-- it is the same `Bytes`, and what it still yields decides
abbrev pub invariant-loop-byte : goal.invariant-loop-byte
invariant-loop-byte l = record {
  keeps_loan : l.iter.byte.ghost_name ≡ l.initial.iter.byte.ghost_name;
  answer : list_any (λ byte. byte == l.wanted) (drain_of Integer l.iter.byte.now.state)
      ≡ list_any (λ byte. byte == l.wanted) (drain_of Integer l.initial.iter.byte.now.state);
}

abbrev pub decreases-loop-byte : goal.decreases-loop-byte
decreases-loop-byte l = length (drain_of Integer l.iter.byte.now.state)
