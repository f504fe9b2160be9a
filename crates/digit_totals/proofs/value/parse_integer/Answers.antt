use Rattle.std.proofs.Common.{◌∙◌, sym, rules, FitsSigned}
use Rattle.std.proofs.lemmas.Int.{to_z-of_z}
use Rattle.lexical_digits.specs.declared.skip.component.Component.TheVariants.{Integer}
use mir.Syntax.{w64, w128}
use Rattle.digit_totals.proofs.NumberLine.{whole_integer}
use Rattle.digit_totals.proofs.value.parse_integer.Goals as goal

pub returns-in-Ok-clause-is : goal.returns-in-Ok-clause-is
returns-in-Ok-clause-is c =
    let fits : FitsSigned w64 c.in-Ok.value = search rules in
    let wide : FitsSigned w128 c.from.result = search rules in
    let same = to_z-of_z w128 c.from.result wide ∙ c.from.ensures
    ∙ to_z-of_z w64 c.in-Ok.value fits in
    rw same (sym (whole_integer c.args.word c.args.text.now c.in-Ok.value
    (c.requires.low Integer)
    c.in-Ok.ensures.is))
