use Rattle.std.proofs.Common.{arith}
use Rattle.std.proofs.lemmas.Int.{ints}
use Rattle.lexical_digits.specs.State.{own}
use Rattle.lexical_digits.proofs.Looks.Needed.{none_needed}
use Rattle.lexical_digits.proofs.Calls.Stops.{leading_between}
use Rattle.digit_values.proofs.first.read_first_slice.Goals as goal

pub pass_read-requires-clause-within : goal.pass_read-requires-clause-within
pass_read-requires-clause-within c = let reads = c.in_ok-read.ensures.reads.reads 0 in grind arith

pub returns-clause-reads : goal.returns-clause-reads
returns-clause-reads c =
    let reads = c.in_ok-read.ensures.reads.reads (own c.args.component c.args.bytes.now.state) in
    grind (arith, ints, leading_between, none_needed)
