use Rattle.std.proofs.Common.{◌≡◌, ◌+◌, ◌==◌, ◌≤◌, length, drop, ◌-◌}
use Rattle.std.specs.List.{position_or_len}
use Rattle.digit_totals.proofs.search.find.Given as goal

abbrev pub invariant-loop-at : goal.invariant-loop-at
invariant-loop-at l = (l.at ≤ length l.bytes)
    × (position_or_len (λ byte. byte == l.mark) l.bytes
    ≡ l.at + position_or_len (λ byte. byte == l.mark) (drop l.at l.bytes))

abbrev pub decreases-loop-at : goal.decreases-loop-at
decreases-loop-at l = length l.bytes - l.at
