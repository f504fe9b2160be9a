use Rattle.std.proofs.Common.{◌≡◌, ℕ, List, ◌+◌, ◌-◌, true, false, refl, sym, ◌∙◌, arith, get_or}
use Rattle.std.specs.Prelude.{nat_eq}
use Rattle.std.proofs.lemmas.Bool.Decides.{nat_tests}
use Rattle.lexical_digits.specs.declared.skip.component.Component.TheVariants.{Integer}
use Rattle.lexical_digits.specs.declared.skip.rule.Rule.{Rule}
use Rattle.lexical_digits.specs.Separators.{is_separator}
use Rattle.lexical_digits.specs.State.{rule_of}
use Rattle.lexical_digits.specs.Stop.{stop}
use Rattle.digit_floats.specs.Float.{digits_end}
use Rattle.digit_amounts.specs.Groups.{is_group, groups_at}
use Rattle.digit_amounts.proofs.Grouping.{NonePasses, parts, none_yet, none_more, group_next, group_wrong, group_last}
use Rattle.digit_amounts.proofs.groups.find_wrong.Goals as goal
use Rattle.digit_amounts.proofs.groups.find_wrong.Goals.{then-is_separator+else-not-is_group, else-is_separator}

-- the groups of an integer, by its rule and its end
groups_are : (word : ℕ) (text : List ℕ) (at end : ℕ) (rule : Rule) → rule ≡ rule_of word Integer
    → end ≡ stop (rule_of word Integer) text at 0
    → groups_at word text at ≡ parts (is_separator rule.separator) text at end
unfolding digits_end
groups_are word text at end rule is ends = rw (is, ends) refl

pub returns-then-not-is_group-clause-is : goal.returns-then-not-is_group-clause-is
returns-then-not-is_group-clause-is c =
    let text = c.args.text.now in
    let p = is_separator c.of-rule.result.separator in
    let begin : ℕ = c.loop-place.begin in
    let place : ℕ = c.loop-place.place in
    let end : ℕ = c.stop_from-end.result in
    let passes : p (get_or text place 0) ≡ true =
    sym c.is_separator.ensures ∙ c.if-is_separator.true in
    let not : is_group (nat_eq begin c.args.at) (place - begin) ≡ false =
    sym c.is_group.ensures ∙ c.if-not-is_group.true in
    rw (groups_are c.args.word text c.args.at end c.of-rule.result c.of-rule.ensures
    c.stop_from-end.ensures.stops)
    (sym (c.loop-place.invariant.same
    ∙ group_wrong p text (nat_eq begin c.args.at) begin place end c.loop-place.invariant.before
    c.loop-place-test.true c.stop_from-end.ensures.within c.loop-place.invariant.none passes not))

pub loop-place-preserved : goal.loop-place-preserved
loop-place-preserved c =
    let text = c.args.text.now in
    let p = is_separator c.of-rule.result.separator in
    let begin : ℕ = c.loop-place.begin in
    let place : ℕ = c.loop-place.place in
    let end : ℕ = c.stop_from-end.result in
    elim c.if-is_separator.branch [
      | then-is_separator+else-not-is_group w ↦
          let passes : p (get_or text place 0) ≡ true =
          sym c.is_separator.ensures ∙ w.if-is_separator.true in
          let is : is_group (nat_eq begin c.args.at) (place - begin) ≡ true =
          sym w.is_group.ensures ∙ w.if-not-is_group.false in
          let later : nat_eq (place + 1) c.args.at ≡ false = grind (arith, nat_tests) in
          rw w.begin-is (record {
            onward = omega arith;
            before = omega arith;
            none = none_yet p text (place + 1);
            same = c.loop-place.invariant.same
                ∙ rw later
                (group_next p text (nat_eq begin c.args.at) begin place end
                c.loop-place.invariant.before c.loop-place-test.true
                c.stop_from-end.ensures.within c.loop-place.invariant.none passes is);
          })
      | else-is_separator w ↦
          let passes : p (get_or text place 0) ≡ false =
          sym c.is_separator.ensures ∙ w.if-is_separator.false in
          rw w.begin-is (record {
            onward = c.loop-place.invariant.onward;
            before = omega arith;
            none = none_more p text begin place c.loop-place.invariant.before (omega arith)
                c.loop-place.invariant.none passes;
            same = c.loop-place.invariant.same;
          })
    ]

pub returns-then-is_group-clause-is : goal.returns-then-is_group-clause-is
returns-then-is_group-clause-is c =
    let text = c.args.text.now in
    let p = is_separator c.of-rule.result.separator in
    let begin : ℕ = c.loop-place.begin in
    let end : ℕ = c.stop_from-end.result in
    let done : c.loop-place.place ≡ end =
    omega (arith, c.loop-place.auto.place-end c.stop_from-end.ensures.onward) in
    let is : is_group (nat_eq begin c.args.at) (end - begin) ≡ true =
    sym c.is_group-2.ensures ∙ c.if-is_group.true in
    let none : NonePasses p text begin end = rw (← done) c.loop-place.invariant.none in
    rw (groups_are c.args.word text c.args.at end c.of-rule.result c.of-rule.ensures
    c.stop_from-end.ensures.stops)
    (sym (c.loop-place.invariant.same
    ∙ rw is at (group_last p text (nat_eq begin c.args.at) begin end (omega arith)
    c.stop_from-end.ensures.within none)))

pub returns-else-is_group-clause-is : goal.returns-else-is_group-clause-is
returns-else-is_group-clause-is c =
    let text = c.args.text.now in
    let p = is_separator c.of-rule.result.separator in
    let begin : ℕ = c.loop-place.begin in
    let end : ℕ = c.stop_from-end.result in
    let done : c.loop-place.place ≡ end =
    omega (arith, c.loop-place.auto.place-end c.stop_from-end.ensures.onward) in
    let is : is_group (nat_eq begin c.args.at) (end - begin) ≡ false =
    sym c.is_group-2.ensures ∙ c.if-is_group.false in
    let none : NonePasses p text begin end = rw (← done) c.loop-place.invariant.none in
    rw (groups_are c.args.word text c.args.at end c.of-rule.result c.of-rule.ensures
    c.stop_from-end.ensures.stops)
    (sym (c.loop-place.invariant.same
    ∙ rw is at (group_last p text (nat_eq begin c.args.at) begin end (omega arith)
    c.stop_from-end.ensures.within none)))
