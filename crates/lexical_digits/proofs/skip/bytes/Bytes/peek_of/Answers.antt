use Rattle.std.proofs.Common.{◌≡◌, true, refl, sym, ◌∙◌}
use Rattle.lexical_digits.specs.Laws.Terms.{has_no_flags}
use Rattle.lexical_digits.proofs.Fields.AtTheCursor.{here_all, settles_here, peeks_settled, peeks_end}
use Rattle.lexical_digits.proofs.skip.bytes.Bytes.peek_of.Goals as goal

pub returns-then-self : goal.returns-then-self
returns-then-self c =
    let k = c.args.component in
    let a = c.args.self.now in
    let none : has_no_flags a.state.word ≡ true =
    rw (sym c.self.view_is) (sym c.self.inside.flags ∙ c.if-self.true) in
    peeks_settled k a a _ _ (settles_here k a (here_all k a none)) c.look.ensures

pub returns-in_err-byte : goal.returns-in_err-byte
returns-in_err-byte c = rw (sym c.self.view_is, c.from_residual.ensures)
    (peeks_end c.args.component _ _ (sym c.in_err-byte.ensures) refl)
