use Rattle.std.proofs.Common.{false, refl, sym, ◌∙◌}
use Rattle.lexical_digits.specs.Laws.Terms.{slice_get_within, and_left}
use Rattle.lexical_digits.proofs.Fields.CarriedByCursor.{state_passed, carried}
use Rattle.lexical_digits.proofs.Fields.AtTheCursor.{here_all, counts_none, yields_by, yields_end}
use Rattle.lexical_digits.proofs.skip.bytes.Bytes.next_unflagged.Goals as goal

pub returns-in_err-byte : goal.returns-in_err-byte
returns-in_err-byte c = rw (sym c.self.view_is)
    (yields_end c.args.component _ _ (sym c.in_err-byte.ensures) c.from_residual.ensures)

pub invariant_of-self-inside : goal.invariant_of-self-inside
invariant_of-self-inside c =
    carried c.self.inside c.pass_digit.ensures
    (state_passed _ _ _ c.self.inside.holds (slice_get_within _ _ _ (sym c.in_ok-byte.ensures)))

pub returns : goal.returns
returns c =
    let b = c.self.inside in
    let free = rw (sym c.self.view_is) at c.requires in
    rw (sym c.self.view_is)
    (yields_by c.args.component _ _ _ (here_all c.args.component _ free) c.in_ok-byte.ensures refl
    c.pass_digit.ensures.looks false (sym (and_left _ _ (counts_none c.args.component _ free)))
    (c.pass_digit.ensures.state b.slc.now b.format
    ∙ rw (b.reading.counting, counts_none b.tally.reader b.format free) refl))
