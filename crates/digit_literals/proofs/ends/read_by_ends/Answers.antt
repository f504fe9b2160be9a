use Rattle.std.proofs.Common.{refl, ◌∙◌, arith}
use Rattle.std.proofs.lemmas.List.{length-set}
use Rattle.lexical_digits.specs.declared.skip.component.Component.TheVariants.{Integer}
use Rattle.lexical_digits.specs.State.{rule_of}
use Rattle.digit_values.specs.Errors.{literal_none_at}
use Rattle.digit_integers.specs.Numbers.{number_at}
use Rattle.digit_literals.proofs.Lists.{turns_next, turns_over}
use Rattle.digit_literals.proofs.ends.read_by_ends.Goals as goal

pub returns-in-Err-clause-fills : goal.returns-in-Err-clause-fills
returns-in-Err-clause-fills g c =
    let t = g.T.Integer in
    let so = c.loop-count.invariant.so in
    let over = rw c.in-Err.is at c.in-Some.ensures.over in
    turns_over t.number
    (number_at t.MIN_MAGNITUDE t.MAX (rule_of c.args.word Integer) c.args.text.now)
    literal_none_at c.args.gap c.args.text.now c.args.start c.loop-count.count
    c.loop-count.place.at
    c.args.out.now c.loop-count.out so (omega (arith, so.same_length)) c.in-Some.read.value
    c.in-Some.read.end c.in-Err.over c.in-Some.ensures.is over.is

pub loop-count-preserved : goal.loop-count-preserved
loop-count-preserved g c =
    let t = g.T.Integer in
    let so = c.loop-count.invariant.so in
    let next = rw c.in-Ok.is at c.in-Some.ensures.place in
    record {
      so = turns_next t.number
          (number_at t.MIN_MAGNITUDE t.MAX (rule_of c.args.word Integer) c.args.text.now)
          literal_none_at c.args.gap c.args.text.now c.args.start c.loop-count.count
          c.loop-count.place.at
          c.args.out.now c.loop-count.out so (omega (arith, so.same_length))
          c.in-Some.read.value c.in-Some.read.end c.in-Ok.next.at c.in-Some.ensures.is
          next.is;
      others = next.rest;
      onward = omega (
        arith,
        c.loop-count.invariant.onward,
        c.in-Some.ensures.onward,
        next.onward,
      );
      within = next.within;
      room = refl;
      same = length-set _ _ _ ∙ c.loop-count.invariant.same;
    }
