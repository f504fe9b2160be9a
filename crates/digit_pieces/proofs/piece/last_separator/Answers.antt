use Rattle.std.proofs.Common.{◌≡◌, ◌-◌, suc, true, false, slice_index, arith}
use Rattle.std.specs.Prelude.{IfSome}
use Rattle.lexical_digits.specs.ByteSet.{accepts}
use Rattle.digit_pieces.proofs.Found.{IsFound, found_all, found_none, found_on}
use Rattle.digit_pieces.proofs.piece.last_separator.Goals as goal
use Rattle.digit_pieces.proofs.piece.last_separator.Goals.{else-not-accepts-via-then-not-accepts+else-is_some, else-not-accepts-via-else-not-accepts}

pub returns-then-is_some : goal.returns-then-is_some
returns-then-is_some g c =
    let has = g.K.Kind.has_byte c.args.kind in
    let text = c.args.text.now in
    let from = c.loop-at.at - 1 in
    let e : suc from ≡ c.loop-at.at = omega arith in
    let so_far : IfSome c.loop-at.found (IsFound has c.args.gap text (suc from)) =
    rw e c.loop-at.invariant in
    let none : accepts c.args.gap.separators (slice_index text from) ≡ false =
    rw (← c.accepts.ensures) c.if-accepts.false in
    let other : accepts c.args.gap.blanks (slice_index text from) ≡ false =
    rw (← c.accepts-else-accepts.ensures) c.if-not-accepts.true in
    found_all has c.args.gap text c.args.start from c.loop-at.found so_far (omega arith)
    (omega arith) none other

pub loop-at-preserved : goal.loop-at-preserved
loop-at-preserved g c =
    let has = g.K.Kind.has_byte c.args.kind in
    let text = c.args.text.now in
    let from = c.loop-at.at - 1 in
    let e : suc from ≡ c.loop-at.at = omega arith in
    let so_far : IfSome c.loop-at.found (IsFound has c.args.gap text (suc from)) =
    rw e c.loop-at.invariant in
    let none : accepts c.args.gap.separators (slice_index text from) ≡ false =
    rw (← c.accepts.ensures) c.if-accepts.false in
    elim c.else-not-accepts.branch [
      | else-not-accepts-via-then-not-accepts+else-is_some w ↦
          found_none has c.args.gap text from c.loop-at.found
          (rw (← w.is_some.ensures) w.if-is_some.false)
      | else-not-accepts-via-else-not-accepts w ↦
          let blank : accepts c.args.gap.blanks (slice_index text from) ≡ true =
          rw (← c.accepts-else-accepts.ensures) w.if-not-accepts.false in
          found_on has c.args.gap text from c.loop-at.found so_far (omega arith) none blank
    ]
