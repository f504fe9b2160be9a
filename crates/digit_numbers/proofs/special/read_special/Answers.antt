use Rattle.std.proofs.Common.{length, arith, rules}
use Rattle.digit_numbers.specs.Specials.{is_here, name_end}
use Rattle.digit_numbers.proofs.Longest.{finds}
use Rattle.digit_numbers.proofs.special.read_special.Goals as goal

pub loop-i-preserved-in-Some-special_end : goal.loop-i-preserved-in-Some-special_end
loop-i-preserved-in-Some-special_end c =
    let f = c.args.form in
    let text = c.args.text.now in
    let e = c.in-Some-special_end.ensures in
    finds (name_end f text c.args.at) (is_here f text c.args.at c.args.is_signed c.args.is_minus)
    c.args.at (length text) c.in-Some.specials.names c.loop-i.i _ c.in-Some-special_end.end
    c.later.result (omega (arith, c.loop-i-test.true)) (search rules) e.is e.end e.within
    c.loop-i.found c.loop-i.invariant c.later.ensures.none c.later.ensures.some
