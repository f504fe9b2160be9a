use Rattle.std.proofs.Common.{◌≡◌, ℤ, ◌-◌, ◌^◌, take, subst}
use Rattle.std.specs.Prelude.{Ok}
use Rattle.std.proofs.lemmas.Int.{to_z-of_z}
use mir.Syntax.{w64}
use Rattle.digits.specs.Words.{read_scaled_at}
use Rattle.digits_c.proofs.write.digits_write_scaled_i64.Goals as goal

pub returns-clause-reads : goal.returns-clause-reads
returns-clause-reads c = λ some word by.
    let w = c.write_amount in
    subst (λ (z : ℤ). read_scaled_at word (take w.result w.new.out) 46 c.args.places (2 ^ 63)
    (2 ^ 63 - 1) 0 ≡ Ok (z, w.result))
    (to_z-of_z w64 c.args.value c.ranges.value) (w.ensures.reads some word by)
