use Rattle.std.proofs.Common.{◌≡◌, ◌+ℤ◌, rules, FitsSigned, arith, ◌∙◌}
use Rattle.std.proofs.lemmas.Int.{to_z-of_z}
use mir.Syntax.{w64, w128}
use mir.Val.{to_z, of_z}
use Rattle.digit_totals.proofs.Bits.{has_fits}
use Rattle.digit_totals.proofs.SumsOf.{far_fits, totals_same, some_joined}
use Rattle.digit_totals.proofs.totals.Totals.with_sums.Goals as goal

pub returns : goal.returns
returns c =
    let t = c.args.self in
    let s = c.args.sums in
    let fits : FitsSigned w128 t.sum = search rules in
    let more : FitsSigned w128 s.sum = search rules in
    let one : to_z w128 (of_z w128 t.sum) ≡ t.sum = to_z-of_z w128 t.sum fits in
    let other : to_z w128 (of_z w128 s.sum) ≡ s.sum = to_z-of_z w128 s.sum more in
    let far = c.requires.far in
    let near = c.requires.near in
    let total : FitsSigned w128 (t.sum +ℤ s.sum) =
    has_fits (t.sum +ℤ s.sum) (far_fits t s far near c.requires.few) in
    let low : FitsSigned w64 s.least = search rules in
    let high : FitsSigned w64 s.greatest = search rules in
    let old_low : FitsSigned w128 t.least = search rules in
    let old_high : FitsSigned w128 t.greatest = search rules in
    let wide : FitsSigned w128 c.from.result = search rules in
    let wide_2 : FitsSigned w128 c.from-2.result = search rules in
    let least : FitsSigned w128 c.min.result = search rules in
    let greatest : FitsSigned w128 c.max.result = search rules in
    let is : to_z w128 (of_z w128 c.from.result) ≡ s.least =
    to_z-of_z w128 c.from.result wide ∙ c.from.ensures ∙ to_z-of_z w64 s.least low in
    let is_2 : to_z w128 (of_z w128 c.from-2.result) ≡ s.greatest =
    to_z-of_z w128 c.from-2.result wide_2 ∙ c.from-2.ensures ∙ to_z-of_z w64 s.greatest high in
    totals_same _ _ (omega arith) (rw (one, other) (to_z-of_z w128 (t.sum +ℤ s.sum) total))
    (to_z-of_z w128 c.min.result least
    ∙ rw (to_z-of_z w128 t.least old_low, is) at c.min.ensures.value)
    (to_z-of_z w128 c.max.result greatest
    ∙ rw (to_z-of_z w128 t.greatest old_high, is_2) at c.max.ensures.value)
    ∙ some_joined t s c.if-sums-eq0.false
