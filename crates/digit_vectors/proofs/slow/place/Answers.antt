use Rattle.std.proofs.Common.{sym, ◌∙◌, refl}
use Rattle.lexical_digits.specs.Separators.{kept_positions}
use Rattle.digit_vectors.proofs.Places.{kept_from_dropped, place_first, place_none}
use Rattle.digit_vectors.proofs.slow.place.Goals as goal

pub loop-position-init : goal.loop-position-init
unfolding kept_positions
loop-position-init c = refl

pub returns-then-is_kept : goal.returns-then-is_kept
returns-then-is_kept c =
    let l = c.loop-position in
    place_first c.args.rule c.args.buffer.now c.args.start c.args.count l.position
    c.loop-position-test.true (sym c.is_kept.ensures ∙ c.if-is_kept.true) l.invariant

pub loop-position-preserved : goal.loop-position-preserved
loop-position-preserved c =
    let l = c.loop-position in
    sym (kept_from_dropped c.args.rule c.args.buffer.now c.args.start c.args.count l.position
    c.loop-position-test.true (sym c.is_kept.ensures ∙ c.if-is_kept.false)) ∙ l.invariant

pub returns : goal.returns
returns c =
    let l = c.loop-position in
    place_none c.args.rule c.args.buffer.now c.args.start c.args.count l.position
    c.loop-position-test.false l.invariant
