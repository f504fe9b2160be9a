use Rattle.std.proofs.Common.{◌≡◌, arith}
use Rattle.std.specs.Prelude.{◌≢◌}
use Rattle.digit_floats.proofs.Kept.{zero_cut, other_cut, one_kept}
use Rattle.digit_floats.proofs.long.keep.Goals.{then-kept-eq0+else-byte-eq48-2, else-kept-eq0}
use Rattle.digit_floats.proofs.long.keep.Goals as goal

pub returns-then-byte-eq48-clause-keeps : goal.returns-then-byte-eq48-clause-keeps
returns-then-byte-eq48-clause-keeps c number is =
    zero_cut _ c.args.kept number c.args.byte is c.requires.digit (omega arith) (omega arith)

pub returns-then-kept-eq-ROOM-clause-keeps : goal.returns-then-kept-eq-ROOM-clause-keeps
returns-then-kept-eq-ROOM-clause-keeps c number is =
    other_cut _ c.args.kept number c.args.byte is c.requires.digit (omega arith) (omega arith)

pub returns-clause-keeps : goal.returns-clause-keeps
returns-clause-keeps c number is =
    let first : c.args.kept.len ≡ 0 → c.args.byte ≢ 48 =
    elim c.if-kept-eq0.branch [
      | then-kept-eq0+else-byte-eq48-2 w ↦ λ _. omega arith
      | else-kept-eq0 w ↦ λ h. absurd (omega arith)
    ] in
    one_kept _ c.args.kept number c.args.byte is c.requires.digit (omega arith) (omega arith) first
