use Rattle.std.proofs.Common.{arith, rules}
use Rattle.lexical_digits.specs.State.{own, rule_of}
use Rattle.lexical_digits.specs.declared.skip.component.Component.TheVariants.{Integer}
use Rattle.lexical_digits.proofs.Rule.Supported.{supported_by}
use Rattle.digit_values.proofs.Onward.{first_on, goes_on, value_on}
use Rattle.digit_integers.proofs.wide.read_pieces.Goals as goal

pub loop-at-init : goal.loop-at-init
loop-at-init c =
    record {
      onward = c.requires.beyond.onward;
      on = first_on c.args.word c.args.text.now c.args.start _ c.args.from c.requires.supported
          (omega arith) c.requires.within c.requires.beyond;
      is = rw c.from-value.ensures c.requires.before;
    }

pub read_slice_by_words-requires-clause-supported
    : goal.read_slice_by_words-requires-clause-supported
read_slice_by_words-requires-clause-supported c =
    supported_by _ c.args.word Integer c.of-rule.ensures c.requires.supported

pub returns-then-not-read-clause-is : goal.returns-then-not-read-clause-is
returns-then-not-read-clause-is c =
    let read =
    rw c.of-rule.ensures at (c.in_ok-read.ensures.reads
    (own Integer c.loop-at.invariant.on.state)) in
    rw (c.in_ok-value.ensures, c.of-rule.ensures)
    (value_on (rule_of c.args.word Integer) c.args.text.now c.args.start c.loop-at.at
    c.in_ok-read.read.end c.loop-at.invariant.onward read.onward _ _ _ c.loop-at.invariant.is
    read.digits read.worth.is)

pub loop-at-preserved : goal.loop-at-preserved
loop-at-preserved c =
    let on = c.loop-at.invariant.on in
    let read = rw c.of-rule.ensures at (c.in_ok-read.ensures.reads (own Integer on.state)) in
    record {
      onward = omega (arith, c.loop-at.invariant.onward, read.onward);
      on =
          goes_on c.args.word c.args.text.now c.args.start c.loop-at.at 0 _ c.in_ok-read.read.end on
          (read.exceeds (search rules));
      is = rw (c.in_ok-value.ensures, c.of-rule.ensures)
          (value_on (rule_of c.args.word Integer) c.args.text.now c.args.start c.loop-at.at
          c.in_ok-read.read.end c.loop-at.invariant.onward read.onward _ _ _ c.loop-at.invariant.is
          read.digits read.worth.is);
    }
