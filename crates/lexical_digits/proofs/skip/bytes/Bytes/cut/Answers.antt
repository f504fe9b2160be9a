use Rattle.std.proofs.Common.{rules, take}
use Rattle.lexical_digits.proofs.skip.bytes.Bytes.cut.Goals as goal

pub invariant_of-view-inside : goal.invariant_of-view-inside
invariant_of-view-inside c =
    let b = c.self.inside in
    let tally = c.new.ensures in
    let state = tally.state (take c.min-end.result b.slc.now) b.format in (
      rw state (search rules),
      (search rules, (rw (tally.reader, tally.is_counting) b.reading, (search rules, tt))),
    )

pub returns-clause-view : goal.returns-clause-view
returns-clause-view c =
    rw (c.new.ensures.state (take c.min-end.result c.self.inside.slc.now) c.self.inside.format)
    (search rules)
