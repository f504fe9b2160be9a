use Rattle.std.proofs.Common.{◌≡◌, arith}
use Rattle.digit_floats.proofs.First.{cut_at}
use Rattle.digit_floats.proofs.Mantissas.{exact_of}
use Rattle.digit_floats.proofs.Numbers.{number_is}
use Rattle.digit_floats.proofs.round.round_parts.Goals as goal

pub returns-then-value-eq0-clause-value : goal.returns-then-value-eq0-clause-value
returns-then-value-eq0-clause-value g c n e =
    let none : c.args.mantissa.dropped ≡ 0 = omega arith in
    let zero : c.args.mantissa.value ≡ 0 = omega arith in
    let exact = exact_of _ _ _ none (cut_at _ _ _ c.requires.first) in
    rw (← exact, zero) (c.zero.ensures _ _)

pub returns-in-Some-near-clause-value : goal.returns-in-Some-near-clause-value
returns-in-Some-near-clause-value g c n e =
    let few : n ≡ c.args.power.value = omega arith in
    rw few (c.in-Some-near.ensures _ (cut_at _ _ _ c.requires.first))

pub returns-then-value-eq0-clause-no_nan : goal.returns-then-value-eq0-clause-no_nan
returns-then-value-eq0-clause-no_nan g c =
    number_is _ _ _ _ (returns-then-value-eq0-clause-value g c c.args.power.value (omega arith))

pub returns-in-Some-near-clause-no_nan : goal.returns-in-Some-near-clause-no_nan
returns-in-Some-near-clause-no_nan g c =
    number_is _ _ _ _ (returns-in-Some-near-clause-value g c c.args.power.value (omega arith))

pub returns-clause-no_nan : goal.returns-clause-no_nan
returns-clause-no_nan g c =
    number_is _ _ _ _ (c.round_rest.ensures c.args.power.value (omega arith))
