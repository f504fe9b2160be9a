use Rattle.std.proofs.Common.{◌≡◌, ◌*◌, ◌^◌, ◌++◌, ℕ, ℤ, List, sym, subst, ap, ◌∙◌, rules}
use Rattle.std.specs.Fmt.{sign_text}
use Rattle.std.proofs.lemmas.Int.{to_z-of_z}
use mir.Syntax.{w64}
use mir.Val.{to_z, of_z, SFits}
use Rattle.decimal_writers.specs.Places.{number_of}
use Rattle.decimal_writers.specs.Room.{Writes}
use Rattle.decimal_writers.specs.Scientific.{mark_text, power_of}
use Rattle.decimal_writers.specs.Text.{with_point}
use Rattle.decimal_writers.proofs.Placed.{zeros_are, least_some}
use Rattle.decimal_writers.proofs.Rounded.{scientific_is}
use Rattle.decimal_writers.proofs.scientific.write_scientific.Goals as goal

pub exact_digits-exact-requires-clause-zeros : goal.exact_digits-exact-requires-clause-zeros
exact_digits-exact-requires-clause-zeros c = λ k. zeros_are 800 k

pub returns : goal.returns
returns c =
    let a = c.args in
    let b = c.binary_of-binary in
    let e = c.exact_digits-exact in
    let r = c.round_to-rounded in
    let f = c.first_power-power in
    let w = c.write_marked in
    let fits : SFits w64 f.result = search rules in
    let power : to_z w64 (of_z w64 f.result) ≡ power_of r.result.len e.result.places =
    to_z-of_z w64 f.result fits ∙ f.ensures in
    let text =
    scientific_is a.places (b.result.significand * 2 ^ b.result.shift) e.result.places (2 ^ 1074)
    e.new.digits e.result.len e.ensures.big e.ensures.value least_some a.x b.result.negative a.style
    b.ensures.value
    ∙ ap (λ (n : ℕ × ℤ). sign_text b.result.negative
    ++ (with_point a.places n.0 ++ mark_text a.style n.1)) (r.ensures.rounded e.result.places)
    ∙ (λ i. sign_text b.result.negative
    ++ (with_point (sym r.ensures.places i) (number_of r.new.digits r.result)
    ++ mark_text a.style (sym power i))) in
    subst (λ (ds : List ℕ). Writes ds a.out.now w.new.out w.result) (sym text) w.ensures
