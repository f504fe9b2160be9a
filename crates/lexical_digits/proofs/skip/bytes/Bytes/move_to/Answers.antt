use Rattle.std.proofs.Common.{sym}
use Rattle.lexical_digits.specs.Laws.Terms.{separator, looks_of}
use Rattle.lexical_digits.proofs.Looks.Owed.{owed_back}
use Rattle.lexical_digits.proofs.Fields.CarriedByCursor.{state_moved, carried}
use Rattle.lexical_digits.proofs.skip.bytes.Bytes.move_to.Goals as goal

pub invariant_of-self-inside : goal.invariant_of-self-inside
invariant_of-self-inside c =
    carried c.self.inside c.move_to.ensures
    (state_moved _ c.args.index c.self.inside.holds (rw (sym c.self.view_is) at c.requires))

pub returns-clause-state : goal.returns-clause-state
returns-clause-state c =
    rw (sym c.self.view_is) (c.move_to.ensures.state c.self.inside.slc.now c.self.inside.format)

pub returns-clause-owes_back : goal.returns-clause-owes_back
returns-clause-owes_back c =
    let b = c.self.inside in
    rw (sym c.self.view_is, c.move_to.ensures.looks)
    (owed_back (separator b.format) b.slc.now b.run (looks_of b.tally) b.tally.index
    c.move_to.new.self.index b.remembers)
