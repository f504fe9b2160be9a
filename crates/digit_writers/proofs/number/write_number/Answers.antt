use Rattle.std.proofs.Common.{◌^◌, ◌<◌, arith}
use Rattle.digit_writers.proofs.Reading.{front_is_read, front_is_shortest}
use Rattle.digit_writers.proofs.number.write_number.Goals as goal

pub returns-clause-reads : goal.returns-clause-reads
returns-clause-reads g c = λ word of.
    let p = c.parts-is_negative in
    let put = c.put_signed in
    let few : p.result.1 < 10 ^ 64 = omega (arith, p.type_inv.1) in
    front_is_read word _ _ p.result.1 put.result p.result.0 _ c.args.out.now put.new.out few
    p.ensures.fits p.ensures.minus p.ensures.number put.ensures.end put.ensures.written
    (omega (arith, put.ensures.end, p.ensures.room, c.requires)) of

pub returns-clause-shortest : goal.returns-clause-shortest
returns-clause-shortest g c = λ word of.
    let p = c.parts-is_negative in
    let put = c.put_signed in
    let few : p.result.1 < 10 ^ 64 = omega (arith, p.type_inv.1) in
    front_is_shortest word _ _ p.result.1 put.result p.result.0 _ c.args.out.now put.new.out few
    p.ensures.fits p.ensures.minus p.ensures.number put.ensures.end put.ensures.written
    (omega (arith, put.ensures.end, p.ensures.room, c.requires)) of
