use Rattle.std.proofs.Common.{◌-◌, ◌%◌, ◌≡◌, ◌≤◌, length}
use Rattle.lexical_digits.specs.declared.skip.rule.Rule.{Rule}
use Rattle.digit_integers.specs.Groups.{DropsLone}
use Rattle.digit_integers.proofs.InGroups.{AreGroups}
use Rattle.digit_integers.proofs.groups.read_groups.Given as goal

abbrev pub invariant-loop-end : goal.invariant-loop-end
invariant-loop-end l = record {
  onward : l.start ≤ l.end;
  within : l.end ≤ length l.text;
  fours : (length l.text - l.end) % 4 ≡ 0;
  groups : (rule : Rule) → DropsLone rule l.fn.separator
      → AreGroups rule l.text l.start l.end l.value;
}

abbrev pub decreases-loop-end : goal.decreases-loop-end
decreases-loop-end l = length l.text - l.end
