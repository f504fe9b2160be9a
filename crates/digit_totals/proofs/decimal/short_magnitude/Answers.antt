use Rattle.std.proofs.Common.{◌≡◌, ◌<◌, arith}
use Rattle.digit_totals.proofs.NumberLine.{short_scaled}
use Rattle.digit_totals.proofs.decimal.short_magnitude.Goals as goal

pub returns-in-Some-read_short_fraction-clause-is :
    goal.returns-in-Some-read_short_fraction-clause-is
returns-in-Some-read_short_fraction-clause-is c = λ most fits.
    let m = c.in-Some-read_short_fraction.number in
    let says = c.in-Some-read_short_fraction.ensures in
    let start : c.in-Some.whole.start ≡ c.args.begin = c.in-Some.ensures.start in
    let places : m.places ≡ c.args.places = omega arith in
    let some : 0 < m.digits = omega (arith, says.digits, c.in-Some.ensures.some) in
    short_scaled c.args.word c.args.text.now c.args.places c.args.begin most m says.is says.few
    places some fits (rw start at says.integer) (rw start at says.fraction) (rw start at says.end)
