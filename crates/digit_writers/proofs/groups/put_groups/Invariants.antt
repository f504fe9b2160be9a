use Rattle.std.proofs.Common.{◌-◌, ◌≤◌}
use Rattle.digit_writers.proofs.Laying.{IsLaid}
use Rattle.digit_writers.proofs.groups.put_groups.Given as goal

abbrev pub invariant-loop-more : goal.invariant-loop-more
invariant-loop-more l =
    (l.more ≤ l.count)
    × IsLaid l.layout.radix l.layout.is_upper l.n l.layout.separator l.layout.every l.count l.start
    l.end (l.count - l.more) l.more l.at l.left l.fn.out l.out

abbrev pub decreases-loop-more : goal.decreases-loop-more
decreases-loop-more l = l.more
