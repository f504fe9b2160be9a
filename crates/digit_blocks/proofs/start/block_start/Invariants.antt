use Rattle.std.proofs.Common.{◌≡◌, ℕ, ◌-◌, ◌<◌, ◌≤◌, false}
use Rattle.digit_blocks.specs.Blocks.{may_end}
use Rattle.digit_blocks.proofs.start.block_start.Given as goal

abbrev pub invariant-loop-last : goal.invariant-loop-last
invariant-loop-last l =
    (k : ℕ) → l.at - 1 ≤ k → k < l.last → may_end l.fn.gap l.text k ≡ false
