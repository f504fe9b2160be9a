use Rattle.std.proofs.Common.{◌≡◌, Bool, true, false, refl, sym, ◌∙◌, arith}
use Rattle.std.specs.Prelude.{not}
use Rattle.lexical_digits.specs.State.{own, start, with_cursor}
use Rattle.lexical_digits.proofs.Rule.Supported.{supported_rule, supported_by}
use Rattle.digit_values.specs.After.{past_digits_to}
use Rattle.digit_values.proofs.Firsts.{all_read, rest_is, stop_is, stop_after}
use Rattle.digit_values.proofs.first.read_first_again.Goals as goal

not_true : (b : Bool) → not b ≡ true → b ≡ false
not_true true e = sym e
not_true false e = refl

never : (b : Bool) → (b ≡ true → ⊥) → b ≡ false
never true e = absurd (e refl)
never false e = refl

not_false : (b : Bool) → not b ≡ false → b ≡ true
not_false true e = refl
not_false false e = sym e

pub read_radix-requires-clause-supported : goal.read_radix-requires-clause-supported
read_radix-requires-clause-supported c =
    supported_by _ c.args.word c.args.component c.of-rule.ensures c.requires.supported

pub count_rest-requires-clause-supported : goal.count_rest-requires-clause-supported
count_rest-requires-clause-supported c =
    supported_by _ c.args.word c.args.component c.of-rule.ensures c.requires.supported

pub count_rest-requires-clause-within : goal.count_rest-requires-clause-within
count_rest-requires-clause-within c = (c.in-Some.ensures.reads 0).within

pub returns-then-not-read : goal.returns-then-not-read
returns-then-not-read c =
    rw c.all.ensures
    (all_read _ _ _ _ _ _ _ c.of-rule.ensures
    (supported_rule c.args.word c.args.component c.requires.supported) c.in-Some.ensures
    (not_true c.in-Some.read.is_too_large c.if-not-read.true))

pub returns-in-Some-count_rest : goal.returns-in-Some-count_rest
returns-in-Some-count_rest c =
    let k = c.args.component in
    let text = c.args.text.now in
    let over = c.in-Some.read.end in
    let reads = rw c.of-rule.ensures at c.in-Some.ensures.reads 0 in
    let off = rw c.of-rule.ensures at c.in-Some-count_rest.ensures in
    let large = reads.exceeds (not_false c.in-Some.read.is_too_large c.if-not-read.false) in
    let s = with_cursor (start text c.args.word) c.args.start in
    let rest = off.reads (own k (past_digits_to k s over)) in
    let ends =
    rest.stops (never c.in-Some-count_rest.rest.is_too_large rest.exceeds)
    ∙ sym (stop_after k s over) in
    record {
      first = rest_is c.args.word k text c.args.start c.args.before c.args.most over
          c.requires.supported (omega arith) c.requires.within large
          _ _ _ _ reads.worth.is reads.digits ends rest.digits;
      stops = ends ∙ stop_is c.args.word k text c.args.start c.args.before c.args.most over
          c.requires.supported (omega arith) c.requires.within large;
      onward = omega (arith, c.in-Some.ensures.below, c.in-Some-count_rest.ensures.below);
      within = rest.within;
    }
