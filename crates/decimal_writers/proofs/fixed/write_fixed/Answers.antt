use Rattle.std.proofs.Common.{◌≡◌, List, subst, sym, ◌∙◌, rules}
use Rattle.std.specs.Prelude.{pos, neg_ℤ}
use Rattle.std.proofs.lemmas.Int.{to_z-of_z}
use mir.Syntax.{w32}
use mir.Val.{to_z, of_z, SFits}
use Rattle.decimal_writers.specs.Room.{Writes}
use Rattle.decimal_writers.proofs.Placed.{quick_text}
use Rattle.decimal_writers.proofs.fixed.write_fixed.Goals as goal
use Rattle.std.proofs.Common.{ℕ}

pub returns-in-Some : goal.returns-in-Some
returns-in-Some c =
    let b = c.binary_of-binary in
    let w = c.write_plain_text in
    let fits : SFits w32 c.power_of.result = search rules in
    let power : to_z w32 (of_z w32 c.power_of.result) ≡ neg_ℤ (pos c.args.places) =
    to_z-of_z w32 c.power_of.result fits ∙ c.power_of.ensures in
    subst (λ (text : List ℕ). Writes text c.args.out.now w.new.out w.result)
    (sym (quick_text c.args.x b.result.negative b.result.significand b.result.shift c.args.places
    c.in-Some.units
    (to_z w32 (of_z w32 c.power_of.result)) b.ensures.value c.in-Some.ensures.whole
    c.in-Some.ensures.units power))
    w.ensures
