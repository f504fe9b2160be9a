use Rattle.std.proofs.Common.{◌≡◌, ◌+◌, ◌<◌, ◌∙◌, length, take, drop, Ok, arith, ap, rules, subst, sym, IfErr}
use Rattle.std.proofs.lemmas.List.{length-take-le}
use Rattle.std.specs.Io.KnownBytes.{Consumes}
use Rattle.digit_totals.specs.Lines.{lines_of}
use Rattle.digit_totals.specs.Outcome.{MayBeLater, SumsLines, with_front}
use Rattle.digit_totals.specs.Report.{with_lines}
use Rattle.digit_totals.proofs.Header.{ends_within, sums_within}
use Rattle.digit_totals.proofs.Pieces.{at_start, read_on, add_on, sums_end, faults, long_line, joined}
use Rattle.digit_totals.proofs.input.sum_lines.Goals as goal

pub loop-init : goal.loop-init
loop-init g c = record {
  continues = at_start (g.K.Adds.adding c.args.options) (g.R.Read.remaining c.args.reader.now)
      (take c.args.start c.args.buffer.now) c.none-totals.result c.none-totals.ensures.is;
  whole = search rules;
  order = omega arith;
  within = c.requires.within;
  same_length = c.requires.size;
  count = omega (arith, c.none-totals.ensures.count, c.requires.within);
}

pub returns-in-Err-clause-is : goal.returns-in-Err-clause-is
returns-in-Err-clause-is g c =
    let whole = with_front (take c.args.start c.args.buffer.now)
    (g.R.Read.remaining c.args.reader.now) in
    faults (g.K.Adds.adding c.args.options) whole (g.R.Read.remaining c.loop.reader)
    (take c.loop.end c.loop.buffer) c.loop.totals c.in-Err.fault c.loop.invariant.continues
    c.in-Err.ensures.fault

pub returns-in-Err-clause-line : goal.returns-in-Err-clause-line
returns-in-Err-clause-line g c =
    let o = g.K.Adds.adding c.args.options in
    let piece = take c.loop.end c.loop.buffer in
    let long : length piece ≡ c.loop.end =
    length-take-le c.loop.end c.loop.buffer
    (omega (arith, c.loop.invariant.same_length, c.loop.invariant.within)) in
    omega (
      arith,
      ends_within o (g.met.K.Adds.counts c.args.options) c.loop.totals piece c.in-Err.fault
          c.in-Err.ensures.fault,
      long,
      c.loop.invariant.count,
    )

pub returns-then-filled-eq-SIZE-clause-is : goal.returns-then-filled-eq-SIZE-clause-is
returns-then-filled-eq-SIZE-clause-is g c =
    let o = g.K.Adds.adding c.args.options in
    let whole = with_front (take c.args.start c.args.buffer.now)
    (g.R.Read.remaining c.args.reader.now) in
    let kept = c.in-Ok.kept in
    let buffer = c.add_piece.new.buffer in
    let after = add_on o whole (g.R.Read.remaining c.loop.reader)
    (take c.loop.end c.loop.buffer) (take kept.filled buffer) c.loop.totals kept.totals
    c.loop.invariant.continues c.in-Ok.ensures.rest in
    let long : 65535 < length (take kept.filled buffer) =
    omega (
      arith,
      length-take-le kept.filled buffer (omega (
        arith,
        c.if-filled-eq-SIZE.true,
        c.in-Ok.ensures.length,
        c.loop.invariant.same_length,
      )),
      c.if-filled-eq-SIZE.true,
    ) in
    rw c.count_of.ensures (long_line o whole (g.R.Read.remaining c.loop.reader)
    (take kept.filled buffer) kept.totals after long c.in-Ok.ensures.whole)

pub returns-then-count-eq0-clause-is : goal.returns-then-count-eq0-clause-is
returns-then-count-eq0-clause-is g c =
    let o = g.K.Adds.adding c.args.options in
    let remaining = g.R.Read.remaining in
    let whole = with_front (take c.args.start c.args.buffer.now)
    (remaining c.args.reader.now) in
    let none = c.if-count-eq0.true in
    let kept = c.in-Ok.kept in
    let buffer = c.fill.new.buffer in
    let pending = take kept.filled c.add_piece.new.buffer in
    let same : take kept.filled buffer ≡ pending = c.in-Ok-fill.ensures.kept in
    let after = add_on o whole (remaining c.loop.reader) (take c.loop.end c.loop.buffer) pending
    c.loop.totals kept.totals c.loop.invariant.continues c.in-Ok.ensures.rest in
    subst (SumsLines o whole) (sym c.of_lines.ensures)
    (sums_end o whole (remaining c.loop.reader) (remaining c.fill.new.reader) pending kept.totals
    c.add_last.result after
    (subst (λ n. Consumes (remaining c.loop.reader) (remaining c.fill.new.reader)
    (take n (drop kept.filled buffer))) none c.in-Ok-fill.ensures.read)
    (c.in-Ok-fill.ensures.end (ap Ok none))
    (c.add_last.ensures ∙ ap (λ xs. with_lines o kept.totals (lines_of xs)) same))

pub returns-then-count-eq0-clause-line : goal.returns-then-count-eq0-clause-line
returns-then-count-eq0-clause-line g c =
    let o = g.K.Adds.adding c.args.options in
    let kept = c.in-Ok.kept in
    let pending = take kept.filled c.fill.new.buffer in
    let long : length pending ≡ kept.filled =
    length-take-le kept.filled c.fill.new.buffer (omega (
      arith,
      c.in-Ok-fill.ensures.length,
      c.in-Ok.ensures.length,
      c.in-Ok.ensures.within,
      c.loop.invariant.same_length,
      c.loop.invariant.within,
    )) in
    subst (λ result. IfErr result MayBeLater) (sym c.of_lines.ensures)
    (sums_within o (g.met.K.Adds.counts c.args.options) kept.totals pending c.add_last.result
    c.add_last.ensures
    (omega (arith, long, c.in-Ok.ensures.room, c.loop.invariant.count)))

pub loop-preserved : goal.loop-preserved
loop-preserved g c =
    let o = g.K.Adds.adding c.args.options in
    let remaining = g.R.Read.remaining in
    let whole = with_front (take c.args.start c.args.buffer.now)
    (remaining c.args.reader.now) in
    let kept = c.in-Ok.kept in
    let old = c.add_piece.new.buffer in
    let buffer = c.fill.new.buffer in
    let pending = take kept.filled old in
    let after = add_on o whole (remaining c.loop.reader) (take c.loop.end c.loop.buffer) pending
    c.loop.totals kept.totals c.loop.invariant.continues c.in-Ok.ensures.rest in
    let long : length buffer ≡ 65536 =
    omega (
      arith,
      c.in-Ok-fill.ensures.length,
      c.in-Ok.ensures.length,
      c.loop.invariant.same_length,
    ) in
    record {
      continues = read_on o whole (remaining c.loop.reader) (remaining c.fill.new.reader) pending
          (take c.in-Ok-fill.count (drop kept.filled buffer))
          (take (kept.filled + c.in-Ok-fill.count) buffer) kept.totals after
          c.in-Ok-fill.ensures.read
          (joined old buffer kept.filled c.in-Ok-fill.count c.in-Ok-fill.ensures.kept);
      whole = rw c.in-Ok-fill.ensures.kept c.in-Ok.ensures.whole;
      order = omega arith;
      within = omega (arith, c.in-Ok-fill.ensures.within, long);
      same_length = long;
      count = omega (
        arith,
        c.in-Ok.ensures.room,
        c.in-Ok-fill.ensures.within,
        long,
        c.loop.invariant.count,
      );
    }
