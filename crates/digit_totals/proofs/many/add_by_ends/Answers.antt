use Rattle.std.proofs.Common.{drop, arith, rules, FitsSigned}
use Rattle.std.proofs.lemmas.Int.{to_z-of_z}
use mir.Syntax.{w64}
use Rattle.digit_totals.proofs.AddedSums.{sums_leave}
use Rattle.digit_totals.proofs.LinesByEnds.{later, fresh_next, line_first, shorter, suffix}
use Rattle.digit_totals.proofs.many.add_by_ends.Goals as goal

pub plus-sums-requires-clause-few : goal.plus-sums-requires-clause-few
plus-sums-requires-clause-few c =
    let so_far = c.loop-line.invariant in
    let is = c.in-Some.ensures in
    let more = later c.args.options c.args.text.now c.requires.column c.requires.kind
    c.loop-line.at c.in-Some.line so_far.within so_far.fresh is in
    omega (arith, more, so_far.few, is.within, c.requires.short)

pub loop-line-smaller : goal.loop-line-smaller
loop-line-smaller c =
    let so_far = c.loop-line.invariant in
    let is = c.in-Some.ensures in
    let more = later c.args.options c.args.text.now c.requires.column c.requires.kind
    c.loop-line.at c.in-Some.line so_far.within so_far.fresh is in
    omega (arith, more, is.within)

pub loop-line-preserved : goal.loop-line-preserved
loop-line-preserved c =
    let options = c.args.options in
    let text = c.args.text.now in
    let line = c.in-Some.line in
    let so_far = c.loop-line.invariant in
    let is = c.in-Some.ensures in
    let at = c.loop-line.at in
    let fits : FitsSigned w64 line.value = search rules in
    let none = c.requires.column in
    let kind = c.requires.kind in
    let more = later options text none kind at line so_far.within so_far.fresh is in
    record {
      added = rw (c.plus-sums.ensures.is, to_z-of_z w64 line.value fits)
          (sums_leave options c.args.totals c.loop-line.sums text (drop at text) (drop line.next
          text) line.value fits c.requires.far so_far.near
          (omega (arith, so_far.few, so_far.within, c.requires.short)) so_far.empty
          (omega (arith, c.requires.short)) so_far.added
          (line_first options text none kind at line so_far.within so_far.fresh is)
          (shorter options text none kind at line so_far.within so_far.fresh is)
          (suffix options text none kind at line so_far.within so_far.fresh is));
      within = is.within;
      fresh = fresh_next options text none kind at line so_far.within so_far.fresh is;
      others = is.others;
      near = c.plus-sums.ensures.near;
      few = omega (arith, c.plus-sums.ensures.count, more, so_far.few);
      empty = λ e. absurd (omega (arith, e, c.plus-sums.ensures.count));
    }
