use Rattle.std.proofs.Common.{◌≡◌, drop}
use Rattle.std.specs.List.{list_any}
use Rattle.digit_numbers.specs.Follows.{is_name_byte}
use Rattle.digit_pieces.proofs.kinds.form_bytes.have_name_byte.Given as goal

-- the names so far have others
abbrev pub invariant-loop-i : goal.invariant-loop-i
invariant-loop-i l =
    list_any (is_name_byte l.fn.form l.byte) l.specials.names
    ≡ list_any (is_name_byte l.fn.form l.byte) (drop l.i l.specials.names)
