use Rattle.std.proofs.Common.{◌<◌, arith}
use Rattle.std.proofs.lemmas.Bool.Decides.{nat_tests}
use Rattle.digit_values.proofs.Firsts.{has_room}
use Rattle.digit_values.proofs.first.is_below.Goals as goal

pub returns : goal.returns
returns c h =
    let less : c.args.before < c.small_ten_to.result = grind (arith, nat_tests) in
    has_room c.args.before c.args.count c.small_ten_to.result (omega arith)
    c.small_ten_to.ensures.is less
