use Rattle.std.proofs.Common.{◌+◌, ◌*◌, ◌^◌, ◌++◌}
use Rattle.std.specs.Prelude.{if◌then◌else◌}
use Rattle.std.specs.Str.Parse.{digits_value}
use lib.Ieee.{low}
use Rattle.digit_floats.specs.Parts.{integer_of, fraction_of}
use Rattle.digit_floats.proofs.Middles.{in_binary}
use Rattle.digit_floats.proofs.Tens.{ten_pos}
use Rattle.digit_floats.proofs.middle.round_middle.Goals as goal

pub returns : goal.returns
returns g c n e =
    let m = c.args.mantissa in
    let number = digits_value 10 (integer_of c.args.text.now m ++ fraction_of c.args.text.now m) in
    let up = (if c.args.power.negative then 0 else n) in
    let down = m.places + (if c.args.power.negative then n else 0) in
    let below = c.in_ok-below.below in
    let whole = c.in_ok-whole.whole in
    let is =
    in_binary number m.value whole m.dropped up down below (low g.F.Float.format)
    c.is_more-more.result c.is_more-more.ensures c.in_ok-whole.ensures.is
    (c.in_ok-below.ensures.is n e) in
    c.signed.ensures (number * 10 ^ up) (10 ^ down)
    (c.round_binary-x.ensures (number * 10 ^ up) (10 ^ down) (ten_pos down)
    (rw c.least.ensures is))
