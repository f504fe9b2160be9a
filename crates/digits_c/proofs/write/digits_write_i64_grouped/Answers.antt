use Rattle.std.proofs.Common.{ℤ, ◌-◌, ◌^◌, ◌<◌, take, subst, rules}
use Rattle.std.specs.Prelude.{unsigned_abs}
use Rattle.std.proofs.lemmas.Int.{to_z-of_z}
use mir.Syntax.{w64}
use Rattle.digits.specs.Words.{Reads, laid_out}
use Rattle.digits_c.specs.Texts.{Puts}
use Rattle.digits_c.proofs.Puts.{groups_read, put_grouped}
use Rattle.digits_c.proofs.write.digits_write_i64_grouped.Goals as goal

pub returns-in-Some-clause-written : goal.returns-in-Some-clause-written
returns-in-Some-clause-written c =
    let value = c.args.value in
    let layout = c.in-Some.layout in
    let few : unsigned_abs value < 10 ^ 64 = search rules in
    put_grouped layout c.args.separator c.args.every value c.args.out.now c.write_by.new.out
    c.write_by.result c.in-Some.ensures few
    (subst (λ (z : ℤ). Puts (laid_out layout z) c.args.out.now c.write_by.new.out c.write_by.result)
    (to_z-of_z w64 value c.ranges.value) c.write_by.ensures.written)

pub returns-in-Some-clause-reads : goal.returns-in-Some-clause-reads
returns-in-Some-clause-reads c = λ some word by.
    let w = c.write_by in
    let read = groups_read c.in-Some.layout c.args.separator c.args.every word (2 ^ 63)
    c.in-Some.ensures by in
    subst (λ (z : ℤ). Reads word (2 ^ 63) (2 ^ 63 - 1) z (take w.result w.new.out))
    (to_z-of_z w64 c.args.value c.ranges.value) (w.ensures.reads some word read)
