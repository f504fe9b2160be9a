use Rattle.std.proofs.Common.{◌-◌, ◌≤◌, length}
use Rattle.digit_floats.specs.Eights.{AreDigits}
use Rattle.digit_floats.proofs.eights.pass_eights.Given as goal

abbrev pub invariant-loop-end : goal.invariant-loop-end
invariant-loop-end l =
    record {
      onward : l.fn.start ≤ l.end;
      within : l.end ≤ length l.text;
      digits : AreDigits l.fn.rule l.text l.fn.start l.end;
    }

abbrev pub decreases-loop-end : goal.decreases-loop-end
decreases-loop-end l = length l.text - l.end
