use Rattle.std.proofs.Common.{◌^◌, ◌<◌, arith}
use Rattle.digit_writers.proofs.PriceReading.{answer_is_price}
use Rattle.digit_writers.proofs.amounts.write_price.Goals as goal

pub returns-clause-reads : goal.returns-clause-reads
returns-clause-reads g c = λ word by.
    let p = c.parts-is_negative in
    let few : p.result.1 < 10 ^ 64 = omega (arith, p.type_inv.1) in
    answer_is_price word c.args.point c.args.separator c.args.places _ _ p.result.1 p.result.0 _
    c.args.out.now c.put_amount.new.out c.put_amount.result by c.requires few p.ensures.fits
    p.ensures.minus p.ensures.number c.put_amount.ensures.written
