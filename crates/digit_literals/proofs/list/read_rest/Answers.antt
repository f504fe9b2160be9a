use Rattle.std.proofs.Common.{◌≡◌, length, refl, sym, ◌∙◌, arith}
use Rattle.std.proofs.lemmas.List.{length-set}
use Rattle.lexical_digits.specs.declared.skip.component.Component.TheVariants.{Integer}
use Rattle.lexical_digits.specs.State.{rule_of}
use Rattle.digit_values.specs.Errors.{literal_none_at}
use Rattle.digit_integers.specs.Numbers.{number_at}
use Rattle.digit_literals.proofs.Lists.{turns_full, turns_none, turns_next, turns_over}
use Rattle.digit_literals.proofs.list.read_rest.Goals as goal

pub returns-in-Err-clause-fills : goal.returns-in-Err-clause-fills
returns-in-Err-clause-fills g c = λ start old begins.
    let t = g.T.Integer in
    let so = c.loop-count.invariant.so start old begins in
    rw (c.no_number-end.ensures, c.is_none_at.ensures, c.past_blanks-place.ensures.is)
    (turns_none t.number
    (number_at t.MIN_MAGNITUDE t.MAX (rule_of c.args.word Integer) c.args.text.now)
    literal_none_at c.args.gap c.args.text.now start c.loop-count.count c.loop-count.at
    old c.loop-count.out so (omega (arith, so.same_length)) c.in-Err.error
    (rw c.past_blanks-place.ensures.is at c.in-Err.ensures.is))

pub returns-in-Err-next_after-clause-fills : goal.returns-in-Err-next_after-clause-fills
returns-in-Err-next_after-clause-fills g c = λ start old begins.
    let t = g.T.Integer in
    let so = c.loop-count.invariant.so start old begins in
    turns_over t.number
    (number_at t.MIN_MAGNITUDE t.MAX (rule_of c.args.word Integer) c.args.text.now)
    literal_none_at c.args.gap c.args.text.now start c.loop-count.count c.loop-count.at
    old c.loop-count.out so (omega (arith, so.same_length)) c.in-Ok.read.0
    c.in-Ok.read.1 c.in-Err-next_after.over
    (rw c.past_blanks-place.ensures.is at c.in-Ok.ensures.is)
    (sym c.in-Err-next_after.ensures.is)

pub returns-clause-fills : goal.returns-clause-fills
returns-clause-fills g c = λ start old begins.
    let t = g.T.Integer in
    let so = c.loop-count.invariant.so start old begins in
    let all : length c.loop-count.out ≡ c.loop-count.count
    = omega (arith, c.loop-count.invariant.room, c.loop-count.invariant.same) in
    rw all (turns_full t.number
    (number_at t.MIN_MAGNITUDE t.MAX (rule_of c.args.word Integer) c.args.text.now)
    literal_none_at c.args.gap c.args.text.now start c.loop-count.count c.loop-count.at old
    c.loop-count.out so (sym all ∙ so.same_length))

pub loop-count-preserved : goal.loop-count-preserved
loop-count-preserved g c =
    let t = g.T.Integer in
    record {
      so = λ start old begins.
          let so = c.loop-count.invariant.so start old begins in
          turns_next t.number
          (number_at t.MIN_MAGNITUDE t.MAX (rule_of c.args.word Integer) c.args.text.now)
          literal_none_at c.args.gap c.args.text.now start c.loop-count.count
          c.loop-count.at
          old c.loop-count.out so (omega (arith, so.same_length)) c.in-Ok.read.0
          c.in-Ok.read.1 c.in-Ok-next_after.next
          (rw c.past_blanks-place.ensures.is at c.in-Ok.ensures.is)
          (sym c.in-Ok-next_after.ensures.is);
      onward = omega (
        arith,
        c.loop-count.invariant.onward,
        c.past_blanks-place.ensures.onward,
        c.in-Ok.ensures.end,
        c.in-Ok-next_after.ensures.onward,
      );
      within = c.in-Ok-next_after.ensures.within;
      room = refl;
      same = length-set _ _ _ ∙ c.loop-count.invariant.same;
    }
