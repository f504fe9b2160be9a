use Rattle.std.proofs.Common.{rules, arith}
use Rattle.std.specs.Prelude.{pos, ◌≤ℤ◌, ◌+ℤ◌}
use Rattle.std.proofs.lemmas.Int.{ints}
use Rattle.lexical_digits.specs.Looks.{owed}
use Rattle.digit_vectors.proofs.example.next_digit.Goals as goal

pub returns-then-not-is_digit-clause-owes : goal.returns-then-not-is_digit-clause-owes
returns-then-not-is_digit-clause-owes c =
    let owes : owed c.peek.new.self.byte.now ≤ℤ (owed c.args.bytes.now +ℤ pos 8) =
    omega (arith, ints, c.peek.ensures.costs.owes) in search rules

pub returns-clause-owes : goal.returns-clause-owes
returns-clause-owes c =
    let owes : owed c.next.new.self.byte.now ≤ℤ (owed c.args.bytes.now +ℤ pos 8) =
    omega (arith, ints, c.peek.ensures.costs.owes, c.next.ensures.steps.costs.owes) in search rules
