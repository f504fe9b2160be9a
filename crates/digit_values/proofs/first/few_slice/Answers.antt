use Rattle.std.proofs.Common.{◌+◌, ◌≤◌, refl, arith}
use Rattle.digit_values.proofs.Firsts.{few_fit, has_room_after, below_after}
use Rattle.digit_values.proofs.first.few_slice.Goals as goal

pub returns-clause-reads : goal.returns-clause-reads
returns-clause-reads c =
    let few : c.args.counted + c.in_ok-read.read.count ≤ 19 = omega arith in
    few_fit _ _ _ _ _ _ (omega arith)
    (has_room_after c.args.before c.args.counted c.in_ok-read.read.count c.requires.before few)
    (omega arith) c.in_ok-read.ensures.reads

pub returns-clause-below : goal.returns-clause-below
returns-clause-below c =
    below_after c.args.before c.args.counted c.in_ok-read.read.count c.requires.before
    c.args.rule c.args.text.now c.args.start c.in_ok-read.read _ (omega arith) refl
    (returns-clause-reads c)
