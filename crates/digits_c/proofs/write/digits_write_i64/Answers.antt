use Rattle.std.proofs.Common.{ℤ, ◌-◌, ◌^◌, take, subst}
use Rattle.std.proofs.lemmas.Int.{to_z-of_z}
use mir.Syntax.{w64}
use Rattle.digits.specs.Words.{IsShortest, Reads}
use Rattle.digits_c.proofs.write.digits_write_i64.Goals as goal

pub returns-clause-reads : goal.returns-clause-reads
returns-clause-reads c = λ some word of.
    let text = take c.write.result c.write.new.out in
    subst (λ (z : ℤ). Reads word (2 ^ 63) (2 ^ 63 - 1) z text)
    (to_z-of_z w64 c.args.value c.ranges.value) (c.write.ensures.reads some word of)

pub returns-clause-shortest : goal.returns-clause-shortest
returns-clause-shortest c = λ some word of.
    let text = take c.write.result c.write.new.out in
    subst (λ (z : ℤ). IsShortest word (2 ^ 63) (2 ^ 63 - 1) z text)
    (to_z-of_z w64 c.args.value c.ranges.value) (c.write.ensures.shortest some word of)
