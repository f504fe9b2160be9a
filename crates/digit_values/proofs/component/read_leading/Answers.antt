use Rattle.std.proofs.Common.{arith}
use Rattle.std.proofs.lemmas.Int.{ints}
use Rattle.lexical_digits.specs.State.{own}
use Rattle.lexical_digits.proofs.Looks.Needed.{none_needed}
use Rattle.digit_values.proofs.States.{on_copy, owed_same}
use Rattle.digit_values.proofs.component.read_leading.Goals as goal

pub pass_read-requires-clause-within : goal.pass_read-requires-clause-within
pass_read-requires-clause-within c = let reads = c.in-Some.ensures.reads 0 in grind arith

pub returns-in-Some : goal.returns-in-Some
returns-in-Some c =
    let off = rw (c.rule-rule.ensures.value, c.get_buffer-text.ensures, c.cursor-at.ensures.value)
    at c.in-Some.ensures in
    let reads = off.reads (own c.args.component c.args.bytes.now.state) in
    record {
      read = c.in-Some.read;
      passes = grind (arith, ints, none_needed);
      is =
          c.outcome.ensures;
    }

pub go_on_from-requires : goal.go_on_from-requires
go_on_from-requires c = grind (arith, on_copy)

pub returns : goal.returns
returns c = record {
  read = c.read_bytes-read.result;
  passes = grind (arith, ints, owed_same);
  is = c.outcome-2.ensures;
}
