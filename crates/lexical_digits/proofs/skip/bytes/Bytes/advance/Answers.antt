use Rattle.std.proofs.Common.{sym, ◌+◌}
use Rattle.lexical_digits.proofs.Fields.CarriedByCursor.{state_moved, carried}
use Rattle.lexical_digits.proofs.skip.bytes.Bytes.advance.Goals as goal

pub invariant_of-self-inside : goal.invariant_of-self-inside
invariant_of-self-inside c =
    carried c.self.inside c.move_onward.ensures
    (state_moved _ (c.self.inside.tally.index + c.args.count) c.self.inside.holds
    (rw (sym c.self.view_is) at c.requires))

pub returns-clause-state : goal.returns-clause-state
returns-clause-state c =
    rw (sym c.self.view_is)
    (c.move_onward.ensures.state c.self.inside.slc.now c.self.inside.format)
