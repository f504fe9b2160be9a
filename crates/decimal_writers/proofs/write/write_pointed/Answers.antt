use Rattle.std.proofs.Common.{◌+◌, ℤ, ◌++◌, subst, arith}
use Rattle.std.specs.Fmt.{sign_text}
use Rattle.std.specs.Prelude.{Ok, Err}
use Rattle.std.proofs.lemmas.Int.{to_z-of_z}
use mir.Syntax.{w32}
use mir.Val.{bool_byte, to_z, of_z}
use Rattle.decimal_writers.specs.Room.{Writes}
use Rattle.decimal_writers.specs.Text.{plain_text, with_point, places_of, units_of, zero_place}
use Rattle.decimal_writers.proofs.Texts.{writes_no_parts, writes_parts, regroup}
use Rattle.decimal_writers.proofs.write.write_pointed.Goals as goal

pub returns-then-len-out : goal.returns-then-len-out
returns-then-len-out c =
    let a = c.args in
    let power = to_z w32 (of_z w32 a.power) in
    let digits = with_point (places_of power) (units_of a.digits power) in
    let len = bool_byte a.negative + c.length_plain.result + c.length_of_place.result in
    subst (λ (z : ℤ). Writes (plain_text a.negative a.digits z ++ zero_place z) a.out.now a.out.now
    (Err (record { needed = len }))) (to_z-of_z w32 a.power c.ranges.power)
    (regroup (sign_text a.negative) digits (zero_place power)
    (writes_no_parts a.negative digits (zero_place power) a.out.now len
    (omega (arith, c.length_plain.ensures.is, c.length_of_place.ensures.is)) (omega arith)))

pub returns : goal.returns
returns c =
    let a = c.args in
    let power = to_z w32 (of_z w32 a.power) in
    let digits = with_point (places_of power) (units_of a.digits power) in
    let len = bool_byte a.negative + c.length_plain.result + c.length_of_place.result in
    subst (λ (z : ℤ). Writes
    (plain_text a.negative a.digits z ++ zero_place z) a.out.now c.put_sign.new.out (Ok len))
    (to_z-of_z w32 a.power c.ranges.power)
    (regroup (sign_text a.negative) digits (zero_place power)
    (writes_parts a.negative digits (zero_place power) a.out.now len
    (omega (arith, c.length_plain.ensures.is, c.length_of_place.ensures.is))
    c.put_plain.result c.put_place-place.result c.put_place-place.new.out c.put_plain.new.out
    c.put_sign.new.out (omega arith)
    c.put_place-place.ensures.start c.put_plain.ensures.start c.put_place-place.ensures.written
    c.put_plain.ensures.written c.put_sign.ensures))
