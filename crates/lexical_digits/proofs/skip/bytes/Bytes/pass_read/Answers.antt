use Rattle.std.proofs.Common.{rules, sym, ◌∙◌}
use Rattle.lexical_digits.specs.Laws.Terms.{counts, looks_of}
use Rattle.lexical_digits.proofs.Looks.Owed.{owed_read}
use Rattle.lexical_digits.proofs.Fields.CarriedByCursor.{state_read, state_read_is, carried}
use Rattle.lexical_digits.proofs.skip.bytes.Bytes.pass_read.Goals as goal

pub invariant_of-self-inside : goal.invariant_of-self-inside
invariant_of-self-inside c =
    let b = c.self.inside in
    let within = rw (sym c.self.view_is) at c.requires.within in
    carried b c.pass_to.ensures
    (state_read_is c.args.component c.counted-counted.result c.args.end _ b.holds within)

pub returns-clause-state : goal.returns-clause-state
returns-clause-state c =
    let b = c.self.inside in
    rw (sym c.self.view_is)
    (c.pass_to.ensures.state b.slc.now b.format
    ∙ state_read c.args.component (counts c.args.component b.format) c.args.digits
    c.counted-counted.result
    c.args.end _ b.holds (search rules))

pub returns-clause-owes : goal.returns-clause-owes
returns-clause-owes c =
    let b = c.self.inside in
    let onward = rw (sym c.self.view_is) at c.requires.onward in
    rw (sym c.self.view_is, c.pass_to.ensures.looks, c.pass_to.ensures.index)
    (owed_read b.run (looks_of b.tally) _ b.tally.index c.args.end onward)
