use Rattle.std.proofs.Common.{◌≡◌, ◌+◌, ◌*◌, ◌%◌, ◌^◌, sym, arith}
use lib.Ieee.{binary64, of_bits}
use Rattle.digit_floats.proofs.Units.{number_bits, of_bits_is, infinite_from}
use Rattle.digit_floats.proofs.float.F64Float.of_units.Goals as goal

pub returns-then-scale-ge2046 : goal.returns-then-scale-ge2046
unfolding of_bits
returns-then-scale-ge2046 c =
    sym (infinite_from binary64 c.args.count c.args.scale c.requires.few c.requires.many
    (omega arith))

pub float_from_bits-result : goal.float_from_bits-result
float_from_bits-result c =
    let count = c.args.count in
    let scale = c.args.scale in
    let e : count + scale * 2 ^ 52 % 2 ^ 64 ≡ scale * 2 ^ 52 + count = omega arith in
    rw e (number_bits binary64 count scale c.requires.few c.requires.many (omega arith))

pub returns : goal.returns
returns c =
    let count = c.args.count in
    let scale = c.args.scale in
    let e : count + scale * 2 ^ 52 % 2 ^ 64 ≡ scale * 2 ^ 52 + count = omega arith in
    rw e (of_bits_is binary64 count scale c.requires.few c.requires.many (omega arith))
