use Rattle.std.proofs.Common.{◌≡◌, ◌+ℤ◌, rules, FitsSigned, arith, ◌∙◌}
use Rattle.std.proofs.lemmas.Int.{ints, to_z-of_z}
use mir.Syntax.{w64, w128}
use mir.Val.{to_z, of_z}
use Rattle.digit_totals.proofs.Bits.{has_fits}
use Rattle.digit_totals.proofs.SumsOf.{between_fits, sums_same}
use Rattle.digit_totals.proofs.totals.Sums.plus.Goals as goal

pub returns-clause-is : goal.returns-clause-is
returns-clause-is c =
    let s = c.args.self in
    let x = c.args.value in
    let fits : FitsSigned w64 x = search rules in
    let old : FitsSigned w128 s.sum = search rules in
    let wide : FitsSigned w128 c.from.result = search rules in
    let is : to_z w128 (of_z w128 c.from.result) ≡ x =
    to_z-of_z w128 c.from.result wide ∙ c.from.ensures ∙ to_z-of_z w64 x fits in
    let same : to_z w128 (of_z w128 s.sum) ≡ s.sum = to_z-of_z w128 s.sum old in
    let near = c.requires.near in
    let total : FitsSigned w128 (s.sum +ℤ x) =
    has_fits (s.sum +ℤ x) (between_fits s.sum x s.count (omega (arith, ints, near.0))
    (omega (arith, ints, near.1)) fits (omega (arith, c.requires.few))) in
    let low : FitsSigned w64 s.least = search rules in
    let high : FitsSigned w64 s.greatest = search rules in
    let least : FitsSigned w64 c.min.result = search rules in
    let greatest : FitsSigned w64 c.max.result = search rules in
    sums_same _ _ (omega arith) (rw (same, is) (to_z-of_z w128 (s.sum +ℤ x) total))
    (to_z-of_z w64 c.min.result least
    ∙ rw (to_z-of_z w64 s.least low, to_z-of_z w64 x fits) at c.min.ensures.value)
    (to_z-of_z w64 c.max.result greatest
    ∙ rw (to_z-of_z w64 s.greatest high, to_z-of_z w64 x fits) at c.max.ensures.value)
