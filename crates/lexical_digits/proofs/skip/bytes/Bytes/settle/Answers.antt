use Rattle.std.proofs.Common.{refl, sym, ◌∙◌, arith}
use Rattle.lexical_digits.specs.Laws.Terms.{slice_get_within}
use Rattle.lexical_digits.proofs.Fields.CarriedByCursor.{state_moved, carried}
use Rattle.lexical_digits.proofs.Fields.DirectBytes.{rule_by, direct_by, other_by, not_separator}
use Rattle.lexical_digits.proofs.Fields.AtTheCursor.{here_byte, here_direct, settles_here, settles_switched}
use Rattle.lexical_digits.proofs.Fields.InnerSeparator.{over_by, settles_over, follows_by}
use Rattle.lexical_digits.proofs.skip.bytes.Bytes.settle.Goals as goal

-- ---- no separator

pub returns-then-byte-self : goal.returns-then-byte-self
returns-then-byte-self c =
    let b = c.self.inside in
    let other = not_separator b.rule.separator c.args.byte c.if-byte-self.true in
    let at = rw (sym c.self.view_is) at c.requires in
    rw (sym c.self.view_is) (settles_here _ _ (here_byte _ _ _ at (other_by b _ refl _ other)))

-- ---- another component reads

pub returns-then-not-is_reader : goal.returns-then-not-is_reader
returns-then-not-is_reader c = settles_switched c.args.component _ _ _
    c.switch_reader-rule.ensures.state c.switch_reader-rule.ensures.no_looks
    c.settle_decided.ensures

-- ---- a lone separator, and the digit after it

pub invariant_of-self-inside : goal.invariant_of-self-inside
invariant_of-self-inside c =
    let over = rw c.in-Some.is at c.inner_digit-saw_next.ensures.digit in
    let within = slice_get_within c.self.inside.slc.now _ _ over.next in
    carried c.self.inside c.pass_other.ensures
    (state_moved _ _ c.self.inside.holds (omega (arith, within)))

pub returns-in-Some : goal.returns-in-Some
returns-in-Some c =
    let b = c.self.inside in
    let at = rw (sym c.self.view_is) at c.requires in
    let over = over_by b _ (c.is_reader.ensures c.if-not-is_reader.false) _ c.ranges.byte.fits at _
    (rw c.in-Some.is at c.inner_digit-saw_next.ensures.digit) in
    rw (sym c.self.view_is) (settles_over c.args.component _ _ _ over
    (c.pass_other.ensures.state b.slc.now b.format) refl c.pass_other.ensures.looks)

-- ---- a separator of a component without flags

pub returns-then-is_direct : goal.returns-then-is_direct
returns-then-is_direct c =
    let direct = direct_by c.self.inside _ (c.is_reader.ensures c.if-not-is_reader.false) _ _
    c.ranges.byte.fits (sym c.is_direct.ensures.value ∙ c.if-is_direct.true) in
    let at = rw (sym c.self.view_is) at c.requires in
    rw (sym c.self.view_is) (settles_here _ _ (here_direct _ _ _ at direct))

-- ---- another separator

pub settle_decided-requires-2-clause-rule : goal.settle_decided-requires-2-clause-rule
settle_decided-requires-2-clause-rule c = rw (sym c.self.view_is)
    (rule_by c.self.inside _ (c.is_reader.ensures c.if-not-is_reader.false))

pub settle_decided-requires-2-clause-saw_next : goal.settle_decided-requires-2-clause-saw_next
settle_decided-requires-2-clause-saw_next c e = rw (sym c.self.view_is)
    (follows_by c.self.inside _ (c.is_reader.ensures c.if-not-is_reader.false) _
    c.ranges.byte.fits (rw (sym c.self.view_is) at c.requires)
    (c.inner_digit-saw_next.ensures.saw_next e))
