use Rattle.std.proofs.Common.{◌≡◌, ℤ, ◌*◌, subst, ap, ◌∙◌, rules}
use Rattle.std.specs.Prelude.{pos, ◌-ℤ◌}
use Rattle.std.proofs.lemmas.Int.{to_z-of_z}
use mir.Syntax.{w32}
use mir.Val.{to_z, of_z, SFits}
use Rattle.decimal_writers.specs.Room.{Writes}
use Rattle.decimal_writers.specs.Text.{exponent_text}
use Rattle.form_writers.proofs.Tries.{pointed_none}
use Rattle.form_writers.proofs.float.try_pointed.Goals as goal

pub returns-clause-none : goal.returns-clause-none
returns-clause-none g c =
    let a = c.args in
    let w = c.write_exponent-written in
    let fits : SFits w32 a.decimal.power = search rules in
    let less : SFits w32 (a.decimal.power -ℤ pos 1) = search rules in
    let power : to_z w32 (of_z w32 (to_z w32 (of_z w32 a.decimal.power) -ℤ pos 1))
    ≡ a.decimal.power -ℤ pos 1 =
    ap (λ (z : ℤ). to_z w32 (of_z w32 (z -ℤ pos 1))) (to_z-of_z w32 a.decimal.power fits)
    ∙ to_z-of_z w32 (a.decimal.power -ℤ pos 1) less in
    pointed_none a.form g.F.Float.format (g.F.Float.value a.x) a.negative a.decimal.digits
    a.decimal.power c.requires.few c.requires.least c.requires.most a.text.now w.new.out
    c.requires.room w.result c.accepted.result c.accepted.ensures.none
    (subst (λ (z : ℤ). Writes (exponent_text a.negative (a.decimal.digits * 10) z) a.text.now
    w.new.out w.result)
    power w.ensures.writes)
