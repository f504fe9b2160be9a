use Rattle.std.proofs.Common.{◌≡◌, nat_lt, true, arith}
use Rattle.std.proofs.lemmas.Bool.Decides.{nat_tests}
use Rattle.digit_values.proofs.Bits.{low_bit}
use Rattle.digit_values.proofs.bytes.accepts.Goals as goal

pub returns-then-byte-lt64 : goal.returns-then-byte-lt64
returns-then-byte-lt64 c =
    let small : nat_lt c.args.byte 128 ≡ true = grind (arith, nat_tests, c.if-byte-lt64.true) in
    rw small (low_bit c.args.set.low c.args.byte c.if-byte-lt64.true)
