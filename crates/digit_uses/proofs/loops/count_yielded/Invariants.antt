use Rattle.std.proofs.Common.{◌≡◌, ℕ, ◌+◌, ◌≤◌, length, count_by}
use Rattle.lexical_digits.specs.Separators.{is_digit}
use Rattle.lexical_digits.specs.State.{State, start, rule_of}
use Rattle.lexical_digits.specs.CallTable.{drain_of}
use Rattle.digit_uses.proofs.loops.count_yielded.Given as goal

-- the digits so far and those to come are all of them
abbrev pub invariant-loop-byte : goal.invariant-loop-byte
invariant-loop-byte l =
    let count : State → ℕ = λ s. count_by (is_digit (rule_of l.fn.word l.fn.component))
    (drain_of l.fn.component s) in
    record {
      word : l.bytes.state.word ≡ l.fn.word;
      all : l.digits + count l.bytes.state ≡ count (start l.fn.text l.fn.word);
      below : l.digits ≤ l.bytes.state.cursor;
    }

abbrev pub decreases-loop-byte : goal.decreases-loop-byte
decreases-loop-byte l = length (drain_of l.fn.component l.bytes.state)
