use Rattle.std.proofs.Common.{◌∙◌, refl}
use Rattle.digit_streams.proofs.Folding.{folded_all, folded_error, folded_long, folded_stop, so_far_more, so_far_none}
use Rattle.digit_streams.proofs.Given.{more_bytes, no_bytes}
use Rattle.digit_streams.proofs.reader.NumberReader.fold_numbers.Goals as goal

pub loop-turn-init : goal.loop-turn-init
loop-turn-init g c = record {
  kind = refl;
  gap = refl;
  capacity = refl;
  uses = no_bytes _ _ _ refl;
  so_far = so_far_none _ _ _ _ _ _;
}

pub loop-turn-preserved : goal.loop-turn-preserved
loop-turn-preserved g c =
    let l = c.loop-turn.invariant in
    let next = c.in-Some-Ok.ensures in
    record {
      kind = next.kind ∙ l.kind;
      gap = next.gap ∙ l.gap;
      capacity = next.capacity ∙ l.capacity;
      uses = more_bytes _ _ _ _ _ _ l.uses next.uses;
      so_far = so_far_more _ _ _ _ _ _ _ _ _ _ _ l.so_far c.in-Some.ensures
          (rw (l.kind, l.gap, c.in-Some-Ok.field-0-is) at next.given_from);
    }

pub returns-in-None-clause-folded : goal.returns-in-None-clause-folded
returns-in-None-clause-folded g c =
    let l = c.loop-turn.invariant in
    folded_all _ _ _ _ _ _ _ _ _ l.so_far (rw (l.kind, l.gap) at c.in-None.ensures.given_from)

pub returns-in-Some-Err-clause-folded : goal.returns-in-Some-Err-clause-folded
returns-in-Some-Err-clause-folded g c =
    let l = c.loop-turn.invariant in
    let err = c.in-Some-Err in
    folded_error _ _ _ _ _ _ _ _ _ _ l.so_far
    (rw (l.kind, l.gap, err.field-0-is) at err.ensures.given_from)

pub returns-in-None-step-clause-folded : goal.returns-in-None-step-clause-folded
returns-in-None-step-clause-folded g c =
    let l = c.loop-turn.invariant in
    let ok = c.in-Some-Ok in
    folded_stop _ _ _ _ _ _ _ _ _ _ _ l.so_far c.in-None-step.ensures
    (rw (l.kind, l.gap, ok.field-0-is) at ok.ensures.given_from)

pub returns-clause-folded : goal.returns-clause-folded
returns-clause-folded g c = folded_long _ _ _ _ _ _ _ _ c.loop-turn.invariant.so_far
