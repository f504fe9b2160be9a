use Rattle.std.proofs.Common.{refl, sym, arith}
use Rattle.lexical_digits.proofs.Fields.CarriedByCursor.{state_passed, carried, owes_no_more}
use Rattle.lexical_digits.proofs.Fields.AtTheCursor.{peeks_settled, arrived, steps_past, nexts_none}
use Rattle.lexical_digits.proofs.skip.bytes.Bytes.next_decided.Goals as goal

pub pass_seen-requires : goal.pass_seen-requires
pass_seen-requires c =
    let look = rw (sym c.self.view_is) at c.in_ok-byte.ensures in
    let peeks =
    peeks_settled c.args.component c.args.self.now _ _ _ c.settle_decided.ensures look in
    omega (arith, arrived _ _ _ c.in_ok-byte.byte peeks, c.self.inside.holds.buffer)

pub invariant_of-self-inside : goal.invariant_of-self-inside
invariant_of-self-inside c =
    let look = rw (sym c.self.view_is) at c.in_ok-byte.ensures in
    let peeks =
    peeks_settled c.args.component c.args.self.now _ _ _ c.settle_decided.ensures look in
    carried c.self.inside c.pass_seen.ensures (state_passed c.args.component _ _
    c.self.inside.holds (arrived _ _ _ c.in_ok-byte.byte peeks))

pub returns : goal.returns
returns c =
    let b = c.self.inside in
    let look = rw (sym c.self.view_is) at c.in_ok-byte.ensures in
    let peeks =
    peeks_settled c.args.component c.args.self.now _ _ _ c.settle_decided.ensures look in
    steps_past c.args.component _ _ c.in_ok-byte.byte peeks _ _
    (rw c.requires.rule at c.counts_byte-is_counted.ensures)
    (c.pass_seen.ensures.state b.slc.now b.format)
    (record { run = refl; looks = c.pass_seen.ensures.looks })
    (owes_no_more b c.pass_seen.ensures refl (omega arith))

pub returns-in_err-byte : goal.returns-in_err-byte
returns-in_err-byte c =
    let peeks = peeks_settled c.args.component c.args.self.now _ _ _ c.settle_decided.ensures
    c.in_err-byte.ensures in
    rw c.from_residual.ensures (nexts_none c.args.component _ _ peeks)
