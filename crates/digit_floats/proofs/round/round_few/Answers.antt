use Rattle.std.proofs.Common.{◌≡◌, ◌+◌, ◌*◌, ◌^◌, ◌++◌, ◌∙◌, refl, arith}
use Rattle.std.specs.Float.Ieee.{round}
use Rattle.std.specs.Str.Parse.{digits_value}
use Rattle.digit_floats.specs.Parts.{integer_of, fraction_of}
use Rattle.digit_floats.proofs.First.{cut_at}
use Rattle.digit_floats.proofs.Mantissas.{exact_of}
use Rattle.digit_floats.proofs.Numbers.{number_is}
use Rattle.digit_floats.proofs.round.round_few.Goals as goal

pub returns-in-Some-clause-value : goal.returns-in-Some-clause-value
returns-in-Some-clause-value g c =
    let exact = exact_of _ _ _ c.requires.few (cut_at _ _ _ c.requires.is.first) in
    rw (← exact) (c.signed.ensures _ _ c.in-Some.ensures)

pub returns-in-Some-round_from-clause-value : goal.returns-in-Some-round_from-clause-value
returns-in-Some-round_from-clause-value g c =
    let f = g.F.Float.format in
    let m = c.args.mantissa in
    let n = digits_value 10 (integer_of c.args.text.now m ++ fraction_of c.args.text.now m) in
    let cut = rw c.requires.few at (cut_at _ _ _ c.requires.is.first) in
    let one : n * 10 ^ 0 ≡ n = grind arith in
    let same : m.places + 0 ≡ m.places = omega arith in
    let e : round f c.args.negative (n * 10 ^ 0) (10 ^ (m.places + 0))
    ≡ round f c.args.negative n (10 ^ m.places)
    = rw (one, same) refl in
    c.in-Some-round_from.ensures n cut ∙ e

pub returns-in-Some-clause-no_nan : goal.returns-in-Some-clause-no_nan
returns-in-Some-clause-no_nan g c = number_is _ _ _ _ (returns-in-Some-clause-value g c)

pub returns-in-Some-round_from-clause-no_nan : goal.returns-in-Some-round_from-clause-no_nan
returns-in-Some-round_from-clause-no_nan g c =
    number_is _ _ _ _ (returns-in-Some-round_from-clause-value g c)
