use Rattle.std.proofs.Common.{sym, true, false, ◌∙◌}
use Rattle.digit_totals.proofs.FloatTexts.{infinite_is_number, infinite_text}
use Rattle.digit_totals.proofs.text.infinity_text.Goals as goal

pub is_sign_negative-requires : goal.is_sign_negative-requires
is_sign_negative-requires c = infinite_is_number c.args.value c.requires

pub returns-then-is_sign_negative : goal.returns-then-is_sign_negative
returns-then-is_sign_negative c =
    rw c.as_slice.ensures (infinite_text c.args.value true c.requires
    (sym c.is_sign_negative.ensures ∙ c.if-is_sign_negative.true))

pub returns-else-is_sign_negative : goal.returns-else-is_sign_negative
returns-else-is_sign_negative c =
    rw c.as_slice-else-is_sign_negative.ensures (infinite_text c.args.value false c.requires
    (sym c.is_sign_negative.ensures ∙ c.if-is_sign_negative.false))
