use Rattle.std.proofs.Common.{arith}
use Rattle.digit_values.proofs.States.{on_copy}
use Rattle.digit_values.proofs.Firsts.{bounds, reads_all}
use Rattle.digit_values.proofs.first.read_first_digits.Goals as goal

pub returns-in-Some-clause-first : goal.returns-in-Some-clause-first
returns-in-Some-clause-first c =
    let reads = c.in-Some.ensures.reads in
    rw c.all.ensures (reads_all _ _ _ _ c.args.bytes.now.holds reads.ok reads.fits)

pub go_on_from-requires : goal.go_on_from-requires
go_on_from-requires c = grind (arith, on_copy)

pub returns : goal.returns
returns c = grind (arith, on_copy, bounds)
