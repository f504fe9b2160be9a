use Rattle.std.proofs.Common.{◌∙◌, take, sym}
use Rattle.digit_totals.proofs.Header.{same_after, passed_line}
use Rattle.digit_totals.proofs.input.pass_line.Goals as goal

pub returns-in-Some-clause-passed : goal.returns-in-Some-clause-passed
returns-in-Some-clause-passed g c =
    let remaining = g.R.Read.remaining in
    let found = sym c.in-Some.ensures in
    passed_line (remaining c.args.reader.now) (remaining c.loop.reader)
    (remaining c.fill.new.reader) c.fill.new.buffer c.keep.new.buffer c.in-Ok.count c.in-Some.end
    c.loop.invariant.same c.in-Ok.ensures.read found c.keep.ensures.front

pub loop-preserved : goal.loop-preserved
loop-preserved g c =
    let remaining = g.R.Read.remaining in
    record {
      same = same_after (remaining c.args.reader.now) (remaining c.loop.reader)
          (remaining c.fill.new.reader) (take c.in-Ok.count c.fill.new.buffer)
          c.loop.invariant.same c.in-Ok.ensures.read (sym c.in-None.ensures);
      same_length = c.in-Ok.ensures.length ∙ c.loop.invariant.same_length;
    }
