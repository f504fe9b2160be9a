use Rattle.std.proofs.Common.{◌≡◌, ℕ, List, ◌≤◌, length}
use Rattle.lexical_digits.specs.declared.skip.component.Component.TheVariants.{Integer}
use Rattle.lexical_digits.specs.State.{rule_of}
use Rattle.digit_values.specs.Errors.{literal_none_at}
use Rattle.digit_literals.specs.Lists.{SoFar}
use Rattle.digit_integers.specs.Numbers.{number_at}
use Rattle.digit_literals.proofs.list.read_rest.Given as goal

abbrev pub invariant-loop-count : goal.invariant-loop-count
invariant-loop-count g l =
    let t = g.T.Integer in
    let one = number_at t.MIN_MAGNITUDE t.MAX (rule_of l.word Integer) l.text in
    record {
      so : (start : ℕ) (old : List _)
          → SoFar t.number one literal_none_at l.gap l.text start l.from l.begin old l.initial.out
          → SoFar t.number one literal_none_at l.gap l.text start l.count l.at old l.out;
      onward : l.begin ≤ l.at;
      within : l.at ≤ length l.text;
      room : l.count-end ≡ length l.initial.out;
      same : length l.out ≡ length l.initial.out;
    }
