use Rattle.std.proofs.Common.{◌≡◌, ℕ, ◌+◌, ◌*◌, ◌≤◌, length}
use Rattle.std.specs.List.{sum_by}
use Rattle.lexical_digits.specs.State.{State}
use Rattle.lexical_digits.specs.CallTable.{drain_of, after_drain}
use Rattle.lexical_digits.specs.declared.skip.component.Component.TheVariants.{Fraction}
use Rattle.digit_vectors.specs.Loops.{worth}
use Rattle.digit_vectors.proofs.ends.Parser.sum_digits.Given as goal

-- the sum so far, with what is to come, is the whole sum
abbrev pub invariant-loop-byte : goal.invariant-loop-byte
invariant-loop-byte l =
    let sum : State → ℕ = λ s. sum_by (worth l.initial.self.radix) (drain_of Fraction s) in
    record {
      all : l.sum + sum l.self.bytes.state ≡ sum l.initial.self.bytes.state;
      leaves : after_drain Fraction l.self.bytes.state
          ≡ after_drain Fraction l.initial.self.bytes.state;
      radix : l.self.radix ≡ l.initial.self.radix;
      below : l.sum ≤ 36 * l.self.bytes.state.cursor;
    }

abbrev pub decreases-loop-byte : goal.decreases-loop-byte
decreases-loop-byte l = length (drain_of Fraction l.self.bytes.state)
