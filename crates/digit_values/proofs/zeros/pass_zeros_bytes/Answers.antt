use Rattle.std.proofs.Common.{arith}
use Rattle.std.proofs.lemmas.Int.{ints}
use Rattle.std.proofs.lemmas.Option.{gets}
use Rattle.digit_values.proofs.PassedZeros.{counting}
use Rattle.digit_values.proofs.zeros.pass_zeros_bytes.Goals as goal

pub loop-component-preserved : goal.loop-component-preserved
loop-component-preserved c = record {
  counts = grind (arith, counting);
  leaves = grind (arith, counting);
  below = grind (arith, counting);
  owes = grind (arith, ints);
  at_least = grind arith;
}

pub loop-component-smaller : goal.loop-component-smaller
loop-component-smaller c = grind (arith, counting)

pub returns-clause-zeros : goal.returns-clause-zeros
returns-clause-zeros c = grind (arith, counting)

pub returns-clause-state : goal.returns-clause-state
returns-clause-state c = grind (arith, counting)

pub returns-clause-owes : goal.returns-clause-owes
returns-clause-owes c = grind (arith, ints)

pub set_cursor-requires : goal.set_cursor-requires
set_cursor-requires c = let zero = c.loop-component-test.ensures.zero in grind (arith, gets)
