use Rattle.std.proofs.Common.{◌≡◌, arith}
use Rattle.digit_floats.proofs.First.{cut_at}
use Rattle.digit_floats.proofs.round.round_far.Goals as goal

pub returns : goal.returns
returns g c n e =
    let few : n ≡ c.args.power.value = omega arith in
    rw few (c.in_ok-x.ensures _ (cut_at _ _ _ c.requires.first))
