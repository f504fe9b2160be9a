use Rattle.std.proofs.Common.{◌+◌, ℤ, ◌++◌, subst, arith}
use Rattle.std.specs.Fmt.{sign_text}
use Rattle.std.specs.Prelude.{Ok, Err}
use Rattle.std.proofs.lemmas.Int.{to_z-of_z}
use mir.Syntax.{w64}
use mir.Val.{bool_byte, to_z, of_z}
use Rattle.decimal_writers.specs.Places.{places_text}
use Rattle.decimal_writers.specs.Room.{Writes}
use Rattle.decimal_writers.specs.Scientific.{mark_text}
use Rattle.decimal_writers.proofs.Placed.{places_long}
use Rattle.decimal_writers.proofs.Texts.{writes_no_parts, writes_parts}
use Rattle.decimal_writers.proofs.scientific.write_marked.Goals as goal

pub returns-then-end-out : goal.returns-then-end-out
returns-then-end-out c =
    let a = c.args in
    let power = to_z w64 (of_z w64 a.power) in
    let first = places_text a.digits.now a.p in
    let end = bool_byte a.negative + c.length_of_places.result + c.length_of_mark.result in
    subst (λ (z : ℤ). Writes
    (sign_text a.negative ++ (first ++ mark_text a.style z)) a.out.now a.out.now
    (Err (record { needed = end }))) (to_z-of_z w64 a.power c.ranges.power)
    (writes_no_parts a.negative first (mark_text a.style power) a.out.now end
    (omega (
      arith,
      c.length_of_places.ensures.is,
      c.length_of_mark.ensures.is,
      places_long a.digits.now a.p c.requires,
    ))
    c.if-end-out.true)

pub returns : goal.returns
returns c =
    let a = c.args in
    let power = to_z w64 (of_z w64 a.power) in
    let first = places_text a.digits.now a.p in
    let end = bool_byte a.negative + c.length_of_places.result + c.length_of_mark.result in
    let long = places_long a.digits.now a.p c.requires in
    subst (λ (z : ℤ). Writes
    (sign_text a.negative ++ (first ++ mark_text a.style z)) a.out.now c.put_sign.new.out (Ok end))
    (to_z-of_z w64 a.power c.ranges.power)
    (writes_parts a.negative first (mark_text a.style power) a.out.now end
    (omega (arith, c.length_of_places.ensures.is, c.length_of_mark.ensures.is, long))
    c.put_places.result c.put_mark-mark.result c.put_mark-mark.new.out c.put_places.new.out
    c.put_sign.new.out c.if-end-out.false c.put_mark-mark.ensures.start
    (omega (arith, c.put_places.ensures.start, long)) c.put_mark-mark.ensures.written
    c.put_places.ensures.written c.put_sign.ensures)
