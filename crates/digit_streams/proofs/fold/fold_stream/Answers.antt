use Rattle.std.proofs.Common.{refl}
use Rattle.digit_streams.proofs.Folding.{if_apart, text_all, text_error, text_over}
use Rattle.digit_streams.proofs.fold.fold_stream.Goals as goal

pub returns-in-Ok-finish : goal.returns-in-Ok-finish
returns-in-Ok-finish g c =
    let new = c.new-numbers.ensures in
    if_apart _ _ _ (λ apart.
    let folded = (rw (new.kind, new.gap) at c.in-Ok.ensures.folded) apart in
    text_all _ _ _ _ _ _ folded.numbers _ _ folded.steps (folded.given _ _ new.given)
    c.in-Ok-finish.ensures.ok)

pub returns-in-Ok : goal.returns-in-Ok
returns-in-Ok g c =
    let new = c.new-numbers.ensures in
    let finish = c.in-Err-finish.ensures in
    if_apart _ _ _ (λ apart.
    let folded = (rw (new.kind, new.gap) at c.in-Ok.ensures.folded) apart in
    let (at, ended) = c.in-Ok.ensures.ended in
    text_over _ _ _ _ _ _ folded.numbers _ _ _ _ _ folded.steps (folded.given _ _ new.given)
    (rw ended at finish.trailing) (rw ended at finish.unknown))

pub returns : goal.returns
returns g c =
    let new = c.new-numbers.ensures in
    if_apart _ _ _ (λ apart.
    text_error _ _ _ _ _ refl _ _ _ _ new.given c.in-Err.ensures.stopped
    ((rw (new.kind, new.gap) at c.in-Err.ensures.folded) apart))
