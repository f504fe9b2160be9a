use Rattle.std.proofs.Common.{◌≤◌}
use Rattle.digit_floats.specs.Eights.{AreDigits}
use Rattle.digit_floats.proofs.eights.digits_end.Given as goal

abbrev pub invariant-loop-at : goal.invariant-loop-at
invariant-loop-at l =
    record {
      onward : l.fn.start ≤ l.at;
      digits : AreDigits l.fn.rule l.text l.fn.start l.at;
    }
