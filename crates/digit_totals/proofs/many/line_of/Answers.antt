use Rattle.std.proofs.Common.{◌≡◌, ◌+◌, ◌-◌, ◌^◌, ◌<◌, ◌≤◌, refl, arith, rules, FitsSigned, ◌∙◌}
use Rattle.std.specs.Int.{trailing_zeros}
use Rattle.std.proofs.lemmas.Int.{to_z-of_z}
use mir.Syntax.{w64}
use Rattle.digit_literals.proofs.ByEnds.{some_bit, first_room, before_first}
use Rattle.digit_totals.proofs.LinesByEnds.{reads_to}
use Rattle.digit_totals.proofs.many.line_of.Goals as goal
use Rattle.digit_totals.proofs.many.line_of.Goals.{else-count-gt16-via-then-count-gt16+else-magnitude-gt-GREATEST, else-count-gt16-via-else-count-gt16}

pub value_at-magnitude-requires-clause-within : goal.value_at-magnitude-requires-clause-within
value_at-magnitude-requires-clause-within c =
    let head = c.args.head in
    let few : trailing_zeros w64 head.others < 64 = omega (arith, c.if-count-gt19.false) in
    let room =
    first_room c.args.text.now head.begin head.others c.requires.others
    (some_bit head.others few) (omega arith) in
    omega (arith, room)

pub value_at-magnitude-requires-clause-digits : goal.value_at-magnitude-requires-clause-digits
value_at-magnitude-requires-clause-digits c =
    let head = c.args.head in
    let few : trailing_zeros w64 head.others < 64 = omega (arith, c.if-count-gt19.false) in
    before_first c.args.text.now head.begin head.others c.requires.others
    (some_bit head.others few) (omega arith)

pub returns-in-Some-clause-is : goal.returns-in-Some-clause-is
returns-in-Some-clause-is c = λ rule most ten low fits.
    let magnitude = c.value_at-magnitude.result in
    let says = c.value_at-magnitude.ensures in
    let whole : FitsSigned w64 c.signed.result = search rules in
    let same = to_z-of_z w64 c.signed.result whole ∙ c.signed.ensures in
    let few : magnitude ≤ 2 ^ 63 - 1 = elim c.else-count-gt16.branch [
      | else-count-gt16-via-then-count-gt16+else-magnitude-gt-GREATEST w ↦
          omega (arith, w.if-magnitude-gt-GREATEST.false)
      | else-count-gt16-via-else-count-gt16 w ↦
          omega (arith, says.sixteen (omega (arith, w.if-count-gt16.false)))
    ] in
    rw (
      reads_to rule c.args.text.now c.args.head.begin _ magnitude c.in-Some.next most ten low
          says.is (omega (arith, c.if-count-eq0.false)) c.in-Some.ensures.is
          (omega (arith, few, fits)),
      same,
    ) refl

pub returns-in-Some-clause-others : goal.returns-in-Some-clause-others
returns-in-Some-clause-others c =
    let begin = c.args.head.begin in
    let next = c.in-Some.next in
    let there : begin + (next - begin) ≡ next = omega (arith, c.in-Some.ensures.onward) in
    rw there at (c.pass.ensures.others c.args.text.now begin c.requires.others)
