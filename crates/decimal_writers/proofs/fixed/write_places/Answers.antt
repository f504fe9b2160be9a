use Rattle.std.proofs.Common.{◌+◌, arith}
use mir.Val.{bool_byte}
use Rattle.decimal_writers.specs.Places.{places_text}
use Rattle.decimal_writers.proofs.Placed.{places_long}
use Rattle.decimal_writers.proofs.Texts.{writes_none, writes_text}
use Rattle.decimal_writers.proofs.fixed.write_places.Goals as goal

pub returns-then-end-out : goal.returns-then-end-out
returns-then-end-out c =
    let a = c.args in
    let long = places_long a.digits.now a.p c.requires in
    writes_none a.negative (places_text a.digits.now a.p) a.out.now
    (bool_byte a.negative + c.length_of_places.result)
    (omega (arith, c.length_of_places.ensures.is, long)) c.if-end-out.true

pub returns : goal.returns
returns c =
    let a = c.args in
    let long = places_long a.digits.now a.p c.requires in
    writes_text a.negative (places_text a.digits.now a.p) a.out.now
    (bool_byte a.negative + c.length_of_places.result)
    (omega (arith, c.length_of_places.ensures.is, long))
    c.put_places.result c.put_places.new.out c.put_sign.new.out c.if-end-out.false
    (omega (arith, c.put_places.ensures.start, long)) c.put_places.ensures.written
    c.put_sign.ensures
