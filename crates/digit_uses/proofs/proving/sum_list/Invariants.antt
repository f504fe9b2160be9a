use Rattle.std.proofs.Common.{◌≤◌, length}
use Rattle.digit_uses.proofs.proving.sum_list.Given as goal

-- the next number begins within the text
abbrev pub invariant-loop-turn : goal.invariant-loop-turn
invariant-loop-turn l = l.at ≤ length l.text
