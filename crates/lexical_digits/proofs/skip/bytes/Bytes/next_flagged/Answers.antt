use Rattle.std.proofs.Common.{false, refl, sym, ◌∙◌, ◌<◌, ap, arith, min, length, ◌+◌, ◌-◌, ◌^◌}
use Rattle.lexical_digits.specs.Laws.Terms.{is_digit, rule_of, state_of, counts, slice_get_within, slice_get_past, false≢true, and_right, or_parts}
use Rattle.lexical_digits.proofs.Fields.CarriedByCursor.{state_passed, state_moved, carried, carried_on}
use Rattle.lexical_digits.proofs.Fields.DirectBytes.{rule_by, direct_by, counts_by, other_by, not_separator}
use Rattle.lexical_digits.proofs.Fields.AtTheCursor.{here_byte, here_direct, direct_counts, yields_by, yields_end}
use Rattle.lexical_digits.proofs.Fields.InnerSeparator.{over_by, yields_over, follows_by}
use Rattle.lexical_digits.proofs.skip.bytes.Bytes.next_flagged.Goals as goal
use Rattle.lexical_digits.proofs.skip.bytes.Bytes.next_flagged.Goals.{then-self-byte+in_default, else-self-byte+else-byte-self}

pub returns-then-self : goal.returns-then-self
returns-then-self c =
    let past = slice_get_past c.self.inside.slc.now _ (omega (arith, c.if-self.true)) in
    rw (sym c.self.view_is) (yields_end c.args.component _ _ past refl)

-- ---- a direct byte

pub invariant_of-self-inside : goal.invariant_of-self-inside
invariant_of-self-inside c =
    carried c.self.inside c.pass_digit.ensures
    (state_passed _ _ _ c.self.inside.holds
    (slice_get_within _ _ _ (sym c.byte_within-byte.ensures)))

pub returns-then-is_direct : goal.returns-then-is_direct
returns-then-is_direct c =
    let b = c.self.inside in
    let k = c.args.component in
    let reader = c.is_reader.ensures c.if-not-is_reader.false in
    let direct = direct_by b k reader _ _ c.is_direct.ensures.fits
    (sym c.is_direct.ensures.value ∙ c.if-is_direct.true) in
    rw (sym c.self.view_is)
    (yields_by k _ _ _ (here_direct k _ _ c.byte_within-byte.ensures direct)
    c.byte_within-byte.ensures refl c.pass_digit.ensures.looks (counts k b.format)
    (direct_counts k (state_of b.slc.now b.format b.tally) _ direct)
    (c.pass_digit.ensures.state b.slc.now b.format ∙ rw (reader, counts_by b k reader) refl))

-- ---- a lone separator, and the digit after it

pub invariant_of-self-inside-in-Some : goal.invariant_of-self-inside-in-Some
invariant_of-self-inside-in-Some c =
    let b = c.self.inside in
    let over = rw c.in-Some.is at c.inner_digit-saw.ensures.digit in
    let within = slice_get_within b.slc.now _ _ over.next in
    let moved = carried b c.pass_other.ensures (state_moved _ _ b.holds (omega (arith, within))) in
    let after : c.pass_other.new.self.index < length b.slc.now =
    omega (arith, within, c.pass_other.ensures.index) in
    carried_on b c.pass_digit-in-Some.ensures moved (state_passed _ _ _ moved.0 after)

pub returns-in-Some : goal.returns-in-Some
returns-in-Some c =
    let b = c.self.inside in
    let reader = c.is_reader.ensures c.if-not-is_reader.false in
    let over = over_by b _ reader _ c.is_direct.ensures.fits c.byte_within-byte.ensures _
    (rw c.in-Some.is at c.inner_digit-saw.ensures.digit) in
    rw (sym c.self.view_is) (yields_over _ _ _ _ c.pass_other.new.self _ over
    (c.pass_other.ensures.state b.slc.now b.format) c.pass_other.ensures.index
    (c.pass_other.ensures.reader ∙ reader) (c.pass_other.ensures.is_counting ∙ counts_by b _ reader)
    (c.pass_digit-in-Some.ensures.state b.slc.now b.format) refl
    (c.pass_digit-in-Some.ensures.looks
    ∙ ap (λ n. min (n + 2) (2 ^ 64 - 1)) c.pass_other.ensures.looks))

-- ---- neither digit nor separator

pub invariant_of-self-inside-then-byte-self :
    goal.invariant_of-self-inside-then-byte-self
invariant_of-self-inside-then-byte-self c =
    let within = slice_get_within c.self.inside.slc.now _ _ (sym c.byte_within-byte.ensures) in
    carried c.self.inside c.pass_other-then-byte-self.ensures
    (state_moved _ _ c.self.inside.holds (omega (arith, within)))

pub returns-then-byte-self : goal.returns-then-byte-self
returns-then-byte-self c =
    let b = c.self.inside in
    let k = c.args.component in
    let reader = c.is_reader.ensures c.if-not-is_reader.false in
    let direct = direct_by b k reader _ _ c.is_direct.ensures.fits
    (sym c.is_direct.ensures.value ∙ c.if-is_direct.false) in
    let digit = is_digit (rule_of b.format k) c.byte_within-byte.result.now in
    let other = other_by b k reader _ (not_separator _ _ c.if-byte-self.true) in
    rw (sym c.self.view_is) (yields_by k _ _ _ (here_byte k _ _ c.byte_within-byte.ensures other)
    c.byte_within-byte.ensures refl c.pass_other-then-byte-self.ensures.looks false
    (sym (and_right (counts k b.format) digit (or_parts _ digit direct).1))
    (c.pass_other-then-byte-self.ensures.state b.slc.now b.format))

-- ---- another separator

pub next_decided-requires-2-clause-rule : goal.next_decided-requires-2-clause-rule
next_decided-requires-2-clause-rule c = rw (sym c.self.view_is)
    (rule_by c.self.inside _ (c.is_reader.ensures c.if-not-is_reader.false))

pub next_decided-requires-2-clause-saw_next : goal.next_decided-requires-2-clause-saw_next
next_decided-requires-2-clause-saw_next c = elim c.if-self-byte.branch [
  | then-self-byte+in_default w ↦ λ e. rw (sym c.self.view_is)
      (follows_by c.self.inside _ (c.is_reader.ensures c.if-not-is_reader.false) _
      c.is_direct.ensures.fits c.byte_within-byte.ensures
      (w.inner_digit-saw.ensures.saw_next (sym w.saw_next-is ∙ e)))
  | else-self-byte+else-byte-self w ↦ λ e. absurd (false≢true (sym w.saw_next-is ∙ e))
]
