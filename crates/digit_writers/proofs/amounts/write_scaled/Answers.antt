use Rattle.std.proofs.Common.{◌^◌, ◌<◌, arith}
use Rattle.digit_writers.proofs.AmountReading.{scaled_is_read}
use Rattle.digit_writers.proofs.amounts.write_scaled.Goals as goal

pub returns-clause-reads : goal.returns-clause-reads
returns-clause-reads g c = λ word by.
    let p = c.parts-is_negative in
    let few : p.result.1 < 10 ^ 64 = omega (arith, p.type_inv.1) in
    scaled_is_read word c.args.point c.args.places _ _ p.result.1 p.result.0 _ c.args.out.now
    c.put_amount.new.out c.put_amount.result by c.requires few p.ensures.fits p.ensures.minus
    p.ensures.number c.put_amount.ensures.written
