use Rattle.std.proofs.Common.{◌≡◌, drop}
use Rattle.digit_amounts.proofs.Firsts.{left_value}
use Rattle.digit_amounts.proofs.scaled.keep_first.Given as goal

-- what is left has the value of all
abbrev pub invariant-loop-byte : goal.invariant-loop-byte
invariant-loop-byte l =
    left_value l.value l.left (drop l.byte-index l.bytes) ≡ left_value l.fn.before l.fn.count
    l.bytes
