use Rattle.std.proofs.Common.{◌≡◌, arith}
use Rattle.digit_floats.proofs.First.{cut_at}
use Rattle.digit_floats.proofs.Mantissas.{exact_of}
use Rattle.digit_floats.proofs.Numbers.{number_is}
use Rattle.digit_floats.proofs.round.round_few_with.Goals as goal

pub returns-in-Some-clause-value : goal.returns-in-Some-clause-value
returns-in-Some-clause-value g c n e =
    let few : n ≡ c.args.power.value = omega arith in
    let exact = exact_of _ _ _ c.requires.few (cut_at _ _ _ c.requires.is.first) in
    rw (few, ← exact) c.in-Some.ensures

pub returns-in-Some-clause-no_nan : goal.returns-in-Some-clause-no_nan
returns-in-Some-clause-no_nan g c =
    number_is _ _ _ _ (returns-in-Some-clause-value g c c.args.power.value (omega arith))

pub returns-in-Some-round_from-clause-value : goal.returns-in-Some-round_from-clause-value
returns-in-Some-round_from-clause-value g c n e =
    let few : n ≡ c.args.power.value = omega arith in
    let cut = rw c.requires.few at (cut_at _ _ _ c.requires.is.first) in
    rw few (c.in-Some-round_from.ensures _ cut)

pub returns-in-Some-round_from-clause-no_nan : goal.returns-in-Some-round_from-clause-no_nan
returns-in-Some-round_from-clause-no_nan g c =
    number_is _ _ _ _
    (returns-in-Some-round_from-clause-value g c c.args.power.value (omega arith))
