use Rattle.std.proofs.Common.{◌≡◌, ◌<◌, true, length, sym, arith}
use Rattle.digit_floats.specs.Bytes.{stands, is_point}
use Rattle.digit_numbers.specs.Numbers.{whole_digits, fraction}
use Rattle.digit_numbers.proofs.ShortNumbers.{pointed_float}
use Rattle.digit_numbers.proofs.float.read_short_pointed.Goals as goal

pub returns : goal.returns
returns g c =
    let f = c.args.form in
    let text = c.args.text.now in
    let m = c.in_ok-mantissa.mantissa in
    let e = c.in_ok-mantissa.ensures in
    let is = e.is in
    let unmarked = sym c.if-has_mark.ensures.is in
    let point : stands (is_point f.marks.point) text m.whole_end ≡ true =
    rw (← e.whole_end) at c.requires.point in
    let digits = rw (is.integer, is.fraction) at is.is.digits in
    let places = rw is.fraction at is.is.places in
    let whole : 0 < length (whole_digits f text m.start) =
    omega (arith, digits, places, e.digits, c.requires.some) in
    let more : 0 < length (fraction f text m.start) = omega (arith, places) in
    let zeros = rw (← e.start) at (sym c.if-has_more_zeros.ensures) in
    let pointed = rw is.whole_end at point in
    let no_mark = rw is.end at unmarked in
    record {
      is = rw (← e.start, is.end) (pointed_float f text m.start c.requires.one_mark whole
          (λ _. more) zeros g.F.Float.format c.args.negative _ c.in_ok-x.ensures.value pointed
          no_mark);
      number = c.in_ok-x.ensures.number;
      onward = omega
          (arith, is.is.long, is.is.places, is.is.digits, e.start, e.digits, c.requires.some);
      within = is.is.within;
    }
