use Rattle.std.proofs.Common.{◌≡◌, ◌≤◌, length}
use Rattle.lexical_digits.specs.declared.skip.component.Component.TheVariants.{Integer}
use Rattle.lexical_digits.specs.State.{rule_of}
use Rattle.digit_literals.specs.Ends.{AreOthers}
use Rattle.digit_values.specs.Errors.{literal_none_at}
use Rattle.digit_literals.specs.Lists.{SoFar}
use Rattle.digit_integers.specs.Numbers.{number_at}
use Rattle.digit_literals.proofs.ends.read_by_ends.Given as goal

abbrev pub invariant-loop-count : goal.invariant-loop-count
invariant-loop-count g l =
    let t = g.T.Integer in
    let one = number_at t.MIN_MAGNITUDE t.MAX (rule_of l.word Integer) l.text in
    record {
      so : SoFar t.number one literal_none_at l.gap l.text l.start l.count l.place.at l.initial.out
          l.out;
      others : AreOthers l.text l.place.at l.place.rest;
      onward : l.start ≤ l.place.at;
      within : l.place.at ≤ length l.text;
      room : l.count-end ≡ length l.initial.out;
      same : length l.out ≡ length l.initial.out;
    }
