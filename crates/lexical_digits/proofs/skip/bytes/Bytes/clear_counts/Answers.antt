use Rattle.std.proofs.Common.{sym}
use Rattle.lexical_digits.proofs.Fields.CarriedByCursor.{state_cleared, carried}
use Rattle.lexical_digits.proofs.skip.bytes.Bytes.clear_counts.Goals as goal

pub invariant_of-self-inside : goal.invariant_of-self-inside
invariant_of-self-inside c =
    carried c.self.inside c.clear.ensures (state_cleared _ c.self.inside.holds)

pub returns-clause-state : goal.returns-clause-state
returns-clause-state c =
    rw (sym c.self.view_is) (c.clear.ensures.state c.self.inside.slc.now c.self.inside.format)
