use Rattle.std.proofs.Common.{◌≡◌, Bool, [], drop}
use Rattle.std.specs.Prelude.{filter}
use Rattle.digit_numbers.specs.Specials.{is_here}
use Rattle.digit_numbers.proofs.special.may_begin.Given as goal

-- none of the names from here on is at the position
abbrev pub invariant-loop-i : goal.invariant-loop-i
invariant-loop-i l =
    (is_signed is_minus : Bool)
    → filter (is_here l.form l.text l.at is_signed is_minus) (drop l.i l.specials.names) ≡ []
