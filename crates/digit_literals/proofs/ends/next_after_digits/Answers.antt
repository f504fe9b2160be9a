use Rattle.std.proofs.Common.{◌≡◌, ◌+◌, ◌-◌, true, sym, refl, arith}
use Rattle.std.proofs.lemmas.Option.{gets}
use Rattle.digit_literals.specs.Lists.{has_separator}
use Rattle.digit_literals.proofs.Lists.{separator_is_no_blank}
use Rattle.digit_literals.proofs.ends.next_after_digits.Goals as goal

pub returns-then-accepts-clause-place : goal.returns-then-accepts-clause-place
returns-then-accepts-clause-place c =
    let text = c.args.text.now in
    let begin = c.args.begin in
    let count = c.args.count in
    let there : has_separator c.args.gap text (begin + count) ≡ true =
    grind (arith, gets, c.requires.within, c.if-accepts.true, c.if-accepts.ensures) in
    let none = separator_is_no_blank c.args.gap text (begin + count) there in
    let same : begin + (count + 1) ≡ begin + count + 1 = omega arith in
    let passed = rw same at (c.pass.ensures.others text begin c.requires.others) in
    record {
      is = rw (none, there) refl;
      onward = omega arith;
      within = omega (arith, c.requires.within);
      rest = passed;
    }

pub returns-in-Ok-clause-place : goal.returns-in-Ok-clause-place
returns-in-Ok-clause-place c =
    let begin = c.args.begin in
    let at = c.in-Ok.at in
    let onward = c.in-Ok.ensures.onward in
    let there : begin + (at - begin) ≡ at = omega (arith, onward) in
    let others = c.pass-in-Ok.ensures.others c.args.text.now begin c.requires.others in
    let passed = rw there at others in
    record {
      is = sym c.in-Ok.ensures.is;
      onward = onward;
      within = c.in-Ok.ensures.within;
      rest = passed;
    }
