use Rattle.std.proofs.Common.{◌^◌, ◌<◌, Bool, length, sym, ap, ◌∙◌, arith}
use Rattle.digit_writers.specs.Amounts.{whole_text}
use Rattle.digit_writers.proofs.AmountParts.{whole_length}
use Rattle.digit_writers.proofs.amounts.count_whole.Goals as goal

pub returns-then-is_grouped-clause-is : goal.returns-then-is_grouped-clause-is
returns-then-is_grouped-clause-is c =
    let count = c.count_digits-count in
    let few : c.args.n < 10 ^ 64 = omega (arith, c.ranges.n.fits) in
    (whole_length c.args.separator c.args.n count.result few count.ensures.is).1 c.count_gaps.result
    c.count_gaps.ensures.is
    ∙ ap (λ (b : Bool). length (whole_text b c.args.separator c.args.n)) (sym c.if-is_grouped.true)

pub returns-clause-is : goal.returns-clause-is
returns-clause-is c =
    let count = c.count_digits-count in
    let few : c.args.n < 10 ^ 64 = omega (arith, c.ranges.n.fits) in
    (whole_length c.args.separator c.args.n count.result few count.ensures.is).0
    ∙ ap (λ (b : Bool). length (whole_text b c.args.separator c.args.n)) (sym c.if-is_grouped.false)
