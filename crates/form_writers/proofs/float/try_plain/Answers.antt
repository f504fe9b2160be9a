use Rattle.std.proofs.Common.{ℤ, subst, rules}
use Rattle.std.proofs.lemmas.Int.{to_z-of_z}
use mir.Syntax.{w32}
use mir.Val.{SFits}
use Rattle.decimal_writers.specs.Room.{Writes}
use Rattle.decimal_writers.specs.Text.{plain_text}
use Rattle.form_writers.proofs.Tries.{plain_none}
use Rattle.form_writers.proofs.float.try_plain.Goals as goal

pub returns-clause-none : goal.returns-clause-none
returns-clause-none g c =
    let a = c.args in
    let w = c.write_plain-written in
    let fits : SFits w32 a.decimal.power = search rules in
    plain_none a.form g.F.Float.format (g.F.Float.value a.x) a.negative a.decimal.digits
    a.decimal.power c.requires.few c.requires.least c.requires.most a.text.now w.new.out
    c.requires.room w.result c.accepted.result c.accepted.ensures.none
    (subst (λ (z : ℤ). Writes (plain_text a.negative a.decimal.digits z) a.text.now w.new.out
    w.result)
    (to_z-of_z w32 a.decimal.power fits) w.ensures.writes)
