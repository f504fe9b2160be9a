use Rattle.std.proofs.Common.{arith, rules, FitsSigned, refl}
use Rattle.std.proofs.lemmas.Int.{to_z-of_z}
use mir.Syntax.{w64}
use Rattle.digit_totals.proofs.AddedSums.{sums_leave}
use Rattle.digit_totals.proofs.quick.add_integer_lines.Goals as goal

pub loop-sums-preserved : goal.loop-sums-preserved
loop-sums-preserved c =
    let value = c.in-Some.value in
    let so_far = c.loop-sums.invariant in
    let read = c.in-Some.ensures in
    let fits : FitsSigned w64 value = search rules in
    let far = c.if-not-is_far.ensures refl in
    record {
      added = rw (c.plus-sums.ensures.is, to_z-of_z w64 value fits)
          (sums_leave c.args.options c.args.totals c.loop-sums.sums c.args.text.now
          c.loop-sums.rest.now c.in-Some.after.now value fits far
          so_far.near (omega (arith, so_far.few)) so_far.empty
          (omega (arith, c.requires.short)) so_far.added read.is read.shorter read.suffix);
      near = c.plus-sums.ensures.near;
      few = omega (arith, c.plus-sums.ensures.count, c.loop-sums-test.true);
      empty = λ e. absurd (omega (arith, e, c.plus-sums.ensures.count));
    }
