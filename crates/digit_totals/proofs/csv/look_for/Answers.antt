use Rattle.std.proofs.Common.{◌∙◌}
use Rattle.digit_totals.proofs.CsvFields.{step_place, step_span}
use Rattle.digit_totals.proofs.csv.look_for.Goals as goal

pub loop-at-preserved : goal.loop-at-preserved
loop-at-preserved c =
    let separator = c.args.separator in
    let s = c.loop-at.sought in
    let line = c.args.line.now in
    let at = c.loop-at.at in
    let inside = c.loop-at-test.true in
    let found = c.with_byte-sought.ensures in
    record {
      place =
          rw found.is (c.loop-at.invariant.place ∙ step_place separator s line at 0 inside);
      span = rw found.is (c.loop-at.invariant.span ∙ step_span separator s line at 0 inside);
      order = found.order;
      within = found.within;
    }
