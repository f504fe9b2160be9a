-- The letters so far are letters of flags, and none of them comes again.
use Rattle.std.proofs.Common.{◌≡◌, length}
use Rattle.digit_requests.specs.Line.{are_flag_letters}
use Rattle.digit_requests.proofs.line.are_flag_letters.Given as goal

abbrev pub invariant-loop-rest : goal.invariant-loop-rest
invariant-loop-rest l = are_flag_letters l.rest ≡ are_flag_letters l.fn.field

abbrev pub decreases-loop-rest : goal.decreases-loop-rest
decreases-loop-rest l = length l.rest
