use Rattle.std.proofs.Common.{arith}
use Rattle.digit_floats.specs.Parts.{integer_of, fraction_of}
use Rattle.digit_floats.proofs.Middles.{is_cut}
use Rattle.digit_floats.proofs.middle.is_more.Goals as goal

pub returns : goal.returns
returns c =
    let m = c.args.mantissa in
    let places = c.requires.is.places in
    rw (c.are_zeros_after.ensures, places)
    (is_cut (integer_of c.args.text.now m) (fraction_of c.args.text.now m) m.value m.dropped
    c.requires.is.first (omega (arith, c.requires.after, places)))
