use Rattle.std.proofs.Common.{◌∙◌, sym}
use Rattle.digit_totals.proofs.Words.{next_word, bad_word}
use Rattle.digit_totals.proofs.arguments.read_arguments.Goals as goal

pub loop-at-preserved : goal.loop-at-preserved
loop-at-preserved c = record {
  so_far =
      c.loop-at.invariant.so_far
      ∙ next_word c.args.words.now c.loop-at.at _ c.loop-at-test.true c.loop-at.settings
      c.in-Ok.more c.in-Ok.ensures.is;
  few = c.in-Ok.ensures.few;
}

pub returns-in-Err-clause-is : goal.returns-in-Err-clause-is
returns-in-Err-clause-is c =
    sym (c.loop-at.invariant.so_far
    ∙ bad_word c.args.words.now c.loop-at.at _ c.loop-at-test.true c.loop-at.settings
    c.in-Err.error c.in-Err.ensures.is)
