use Rattle.std.proofs.Common.{take}
use Rattle.decimal_writers.specs.Big.{value_of}
use Rattle.decimal_writers.proofs.Placed.{text_put}
use Rattle.decimal_writers.proofs.places.put_places.Goals as goal

pub returns-clause-written : goal.returns-clause-written
returns-clause-written c =
    let a = c.args in
    let p = a.p in
    text_put (value_of (take p.len a.digits.now)) p.dropped p.fraction p.zeros p.whole
    c.put_point-point.result a.end c.put_digits.new.out c.put_big.new.out c.put_point-point.new.out
    c.put_big-2.new.out a.out.now c.requires.is.whole c.put_digits.ensures.written
    c.put_big.ensures c.put_point-point.ensures.written c.put_big-2.ensures
