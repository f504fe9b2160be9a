use Rattle.std.proofs.Common.{◌≡◌, ◌+◌, ◌-◌, ◌++◌, ◌∷◌, ℤ, ◌∙◌, subst, sym, arith, rules}
use Rattle.std.specs.Prelude.{Ok, Err, pos, ◌+ℤ◌}
use Rattle.std.specs.Fmt.{sign_text, signed_decimal}
use mir.Syntax.{w32, w64}
use mir.Val.{bool_byte, to_z, of_z, SFits}
use Rattle.std.proofs.lemmas.Int.{to_z-of_z}
use Rattle.decimal_writers.specs.Text.{mantissa_text, first_power}
use Rattle.decimal_writers.specs.Room.{Writes}
use Rattle.decimal_writers.proofs.Texts.{writes_no_parts, writes_parts}
use Rattle.decimal_writers.proofs.write.write_exponent_text.Goals as goal

pub returns-then-len-out : goal.returns-then-len-out
returns-then-len-out c =
    let a = c.args in
    let f = c.first_power-first.result in
    let first = to_z w64 (of_z w64 f) in
    let fits : SFits w64 f = search rules in
    let first_is : first ≡ first_power a.digits a.power =
    to_z-of_z w64 f fits ∙ c.first_power-first.ensures
    ∙ (λ i. to_z-of_z w32 a.power c.ranges.power i +ℤ pos (c.requires.count i - 1)) in
    let len = bool_byte a.negative + c.length_of_mantissa.result + c.length_of_exponent.result in
    subst (λ (z : ℤ). Writes
    (sign_text a.negative ++ (mantissa_text a.digits ++ 101 ∷ signed_decimal z)) a.out.now a.out.now
    (Err (record { needed = len }))) first_is
    (writes_no_parts a.negative (mantissa_text a.digits) (101 ∷ signed_decimal first) a.out.now len
    (omega (
      arith,
      c.length_of_mantissa.ensures.is a.digits (sym c.requires.count),
      c.length_of_exponent.ensures.is,
    ))
    (omega arith))

pub returns : goal.returns
returns c =
    let a = c.args in
    let f = c.first_power-first.result in
    let first = to_z w64 (of_z w64 f) in
    let fits : SFits w64 f = search rules in
    let first_is : first ≡ first_power a.digits a.power =
    to_z-of_z w64 f fits ∙ c.first_power-first.ensures
    ∙ (λ i. to_z-of_z w32 a.power c.ranges.power i +ℤ pos (c.requires.count i - 1)) in
    let len = bool_byte a.negative + c.length_of_mantissa.result + c.length_of_exponent.result in
    let new = c.put_sign.new.out in
    subst (λ (z : ℤ). Writes
    (sign_text a.negative ++ (mantissa_text a.digits ++ 101 ∷ signed_decimal z)) a.out.now new
    (Ok len)) first_is
    (writes_parts a.negative (mantissa_text a.digits) (101 ∷ signed_decimal first) a.out.now len
    (omega (
      arith,
      c.length_of_mantissa.ensures.is a.digits (sym c.requires.count),
      c.length_of_exponent.ensures.is,
    ))
    c.put_mantissa.result c.put_exponent-mark.result c.put_exponent-mark.new.out
    c.put_mantissa.new.out new (omega arith)
    c.put_exponent-mark.ensures.start c.put_mantissa.ensures.start
    c.put_exponent-mark.ensures.written c.put_mantissa.ensures.written c.put_sign.ensures)
