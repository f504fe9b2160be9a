use Rattle.std.proofs.Common.{refl}
use Rattle.std.specs.Float.Ieee.{neg}
use Rattle.digit_numbers.proofs.special.infinity.Goals as goal

pub returns-then-is_negative : goal.returns-then-is_negative
unfolding neg
returns-then-is_negative g c =
    rw (c.negated.ensures, c.infinity.ensures, c.if-is_negative.true) refl
