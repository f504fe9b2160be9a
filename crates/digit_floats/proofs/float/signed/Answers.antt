use Rattle.std.proofs.Common.{◌∙◌}
use Rattle.digit_floats.proofs.Signs.{round_neg}
use Rattle.digit_floats.proofs.float.signed.Goals as goal

pub returns-then-negative : goal.returns-then-negative
returns-then-negative g c num den e =
    c.negated.ensures ∙ rw (c.if-negative.true, e) (round_neg _ _ _)
