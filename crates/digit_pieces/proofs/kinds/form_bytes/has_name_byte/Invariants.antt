use Rattle.std.proofs.Common.{◌≡◌, Some, drop}
use Rattle.std.specs.List.{list_any}
use Rattle.digit_numbers.specs.Specials.{bytes_of, same_by}
use Rattle.digit_pieces.proofs.kinds.form_bytes.has_name_byte.Given as goal

-- the bytes so far are others
abbrev pub invariant-loop-n : goal.invariant-loop-n
invariant-loop-n l =
    list_any (λ b. same_by (Some l.specials) b l.byte) (bytes_of l.special.name)
    ≡ list_any (λ b. same_by (Some l.specials) b l.byte) (bytes_of (drop l.n l.special.name))
