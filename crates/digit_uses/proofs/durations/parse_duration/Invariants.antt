use Rattle.std.proofs.Common.{◌-◌, ◌≤◌, length}
use Rattle.digit_uses.specs.Durations.{Sums}
use Rattle.digit_uses.proofs.durations.parse_duration.Given as goal

-- the parts so far have the sum so far
abbrev pub invariant-loop-at : goal.invariant-loop-at
invariant-loop-at l = record { within : l.at ≤ length l.text; sums : Sums l.text l.at l.sum }

abbrev pub decreases-loop-at : goal.decreases-loop-at
decreases-loop-at l = length l.text - l.at
