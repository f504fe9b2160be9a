use Rattle.std.proofs.Common.{◌<◌, length, sym, arith}
use Rattle.digit_numbers.specs.Numbers.{whole_digits}
use Rattle.digit_numbers.proofs.ShortNumbers.{powered_float}
use Rattle.digit_numbers.proofs.float.round_marked.Goals as goal

pub returns-in-Some : goal.returns-in-Some
returns-in-Some g c =
    let e = c.in-Some.ensures in
    let power = c.requires.power in
    let f = c.args.form in
    let text = c.args.text.now in
    let m = c.args.mantissa in
    let is = c.requires.is in
    let digits = rw (is.integer, is.fraction) at is.is.digits in
    let places = rw is.fraction at is.is.places in
    let whole : 0 < length (whole_digits f text m.start) =
    omega (arith, digits, places, c.requires.some) in
    let pointed = rw (is.whole_end, places) at c.requires.pointed in
    let follows = rw is.end at power.some in
    let mark = rw is.end at c.requires.mark in
    let allowed = rw places at (sym c.if-not-allow.ensures) in
    record {
      is = rw (power.is.end, is.end) (powered_float f text m.start c.requires.one_mark whole pointed
          c.requires.zeros g.F.Float.format c.args.negative _ e.value allowed (λ _. follows)
          (λ _. mark));
      number = e.number;
      onward = omega (arith, is.is.long, digits, c.requires.some, power.is.onward);
      within = power.is.within;
    }
