use Rattle.std.proofs.Common.{rules, ℕ, List}
use Rattle.lexical_digits.specs.Laws.Terms.{state_of, integer_of, fraction_of, exponent_of, looks_of}
use Rattle.lexical_digits.proofs.Fields.CarriedByCursor.{counted_after}
use Rattle.lexical_digits.proofs.skip.bytes.tally.Tally.pass_seen.Goals as goal

pub returns-then-is_counted : goal.returns-then-is_counted
unfolding integer_of fraction_of exponent_of looks_of
returns-then-is_counted c = record {
  state = λ (buffer : List ℕ) (word : ℕ). rw c.if-is_counted.true
      (counted_after c.args.component (state_of buffer word c.args.self.now) _ _ _
      (search rules) (c.add_digits.ensures.state buffer word));
  index = c.add_digits.ensures.index;
  looks = search rules;
  reader = c.add_digits.ensures.reader;
  is_counting = c.add_digits.ensures.is_counting;
}
