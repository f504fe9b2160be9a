use Rattle.std.proofs.Common.{◌≡◌, cond, ◌+◌, ◌-◌, ◌^◌, ◌≤◌, List, ℕ, take, sym, arith, rules, FitsSigned, ◌∙◌}
use Rattle.std.proofs.lemmas.Bool.Decides.{nat_tests}
use Rattle.std.proofs.lemmas.Int.{to_z-of_z}
use Rattle.std.proofs.lemmas.List.{length-take-le}
use Rattle.digit_values.specs.declared.bytes.TheConstants.{BLANKS}
use Rattle.digit_values.specs.Bytes.{past_bytes}
use mir.Syntax.{w64}
use Rattle.lexical_digits.specs.declared.skip.component.Component.TheVariants.{Integer}
use Rattle.lexical_digits.specs.State.{rule_of}
use Rattle.digit_totals.proofs.ColumnLine.{reads_front, most_above}
use Rattle.digit_totals.proofs.column.short_integer.Goals as goal

pub returns : goal.returns
returns c =
    let text = c.args.text.now in
    let count = c.args.count in
    let field : List ℕ = take count text in
    let sign = c.sign_of-is_negative in
    let front = c.front_at-front in
    let end : ℕ = sign.result.1 + front.result.count in
    let stops : past_bytes field end BLANKS ≡ count =
    sym c.past_bytes.ensures.is ∙ omega (arith, c.if-past_bytes-count.false) in
    let whole : FitsSigned w64 c.signed.result = search rules in
    let same = to_z-of_z w64 c.signed.result whole ∙ c.signed.ensures in
    let most : ℕ = cond sign.result.0 (2 ^ 127) (2 ^ 127 - 1) in
    let above : 2 ^ 63 ≤ most = most_above sign.result.0 in
    let reads = reads_front (rule_of c.args.word Integer) text sign.result.1 front.result.count
    count front.result.value most c.requires.decimal.0 c.requires.low front.ensures.is
    (omega (arith, c.if-front-eq0.false)) (omega (arith, c.if-end-count.false))
    c.requires.within (omega (arith, above, front.ensures.below)) stops in
    rw (
      ← c.past_bytes-place.ensures.is,
      ← sign.ensures.begins,
      ← sign.ensures.negative,
      reads,
      stops,
      length-take-le count text c.requires.within,
      same,
    ) (grind (arith, nat_tests))
