use Rattle.std.proofs.Common.{◌≡◌, [], rules}
use Rattle.std.specs.Prelude.{None}
use Rattle.digit_streams.proofs.Enclosing.{closed, empty, in_any_case, no_byte, no_value, not_closed}
use Rattle.digit_streams.proofs.Given.{more_bytes}
use Rattle.digit_streams.proofs.reader.NumberReader.fold_enclosed.Goals as goal

pub returns-in-Ok-true-pass_byte-clause-folded : goal.returns-in-Ok-true-pass_byte-clause-folded
returns-in-Ok-true-pass_byte-clause-folded g c = λ known. in_any_case _ _ _ _ (λ uses apart.
    let one = c.in-Ok-true.ensures in
    let inside = one.given_none 0 known uses in
    let opens = rw c.in-Ok-true.field-0-test at (one.given known uses) in
    let closes = rw (one.gap, c.in-Ok-true-pass_byte.field-0-test)
    at (c.in-Ok-true-pass_byte.ensures.given known inside.uses) in
    empty _ _ _ _ _ known _ _ opens closes)

pub returns-in-Ok-true-pass_byte-2-clause-folded : goal.returns-in-Ok-true-pass_byte-2-clause-folded
returns-in-Ok-true-pass_byte-2-clause-folded g c = λ known. in_any_case _ _ _ _ (λ uses apart.
    let one = c.in-Ok-true.ensures in
    let inside = one.given_none 0 known uses in
    let opens = rw c.in-Ok-true.field-0-test at (one.given known uses) in
    let two = c.in-Ok-false-pass_byte.ensures in
    let goes_on = rw (one.gap, c.in-Ok-false-pass_byte.field-0-test)
    at (two.given known inside.uses) in
    let ended : c.pass_byte-2.new.self.ended ≡ None = search rules in
    let fold = c.in-Ok.ensures in
    let folded = (rw (two.kind, two.gap, one.kind, one.gap) at fold.folded) apart in
    let given = folded.given_from 0 _ known []
    (rw ended (rw (one.kind, one.gap) at (two.given_none 0 known inside.uses))) in
    let closes = rw (fold.gap, two.gap, one.gap, c.in-Ok-true-pass_byte-2.field-0-test)
    at (c.in-Ok-true-pass_byte-2.ensures.given known given.uses) in
    closed _ _ _ _ _ known _ _ _ _ folded.numbers opens goes_on _ folded.steps given _ closes)

pub returns-in-Ok-false-pass_byte-2-clause-folded :
    goal.returns-in-Ok-false-pass_byte-2-clause-folded
returns-in-Ok-false-pass_byte-2-clause-folded g c = λ known. in_any_case _ _ _ _ (λ uses apart.
    let one = c.in-Ok-true.ensures in
    let inside = one.given_none 0 known uses in
    let opens = rw c.in-Ok-true.field-0-test at (one.given known uses) in
    let two = c.in-Ok-false-pass_byte.ensures in
    let goes_on = rw (one.gap, c.in-Ok-false-pass_byte.field-0-test)
    at (two.given known inside.uses) in
    let ended : c.pass_byte-2.new.self.ended ≡ None = search rules in
    let fold = c.in-Ok.ensures in
    let folded = (rw (two.kind, two.gap, one.kind, one.gap) at fold.folded) apart in
    let given = folded.given_from 0 _ known []
    (rw ended (rw (one.kind, one.gap) at (two.given_none 0 known inside.uses))) in
    let closes = rw (fold.gap, two.gap, one.gap, c.in-Ok-false-pass_byte-2.field-0-test)
    at (c.in-Ok-false-pass_byte-2.ensures.given known given.uses) in
    rw c.position-in-Ok-false-pass_byte-2.ensures
    (not_closed _ _ _ _ _ known _ _ _ _ folded.numbers opens goes_on _ folded.steps given _ closes))

pub returns-in-Err-pass_byte-2-clause-folded : goal.returns-in-Err-pass_byte-2-clause-folded
returns-in-Err-pass_byte-2-clause-folded g c = λ known. in_any_case _ _ _ _ (λ uses apart.
    let one = c.in-Ok-true.ensures in
    let inside = one.given_none 0 known uses in
    let opens = rw c.in-Ok-true.field-0-test at (one.given known uses) in
    let two = c.in-Ok-false-pass_byte.ensures in
    let goes_on = rw (one.gap, c.in-Ok-false-pass_byte.field-0-test)
    at (two.given known inside.uses) in
    let ended : c.pass_byte-2.new.self.ended ≡ None = search rules in
    let fold = c.in-Ok.ensures in
    let folded = (rw (two.kind, two.gap, one.kind, one.gap) at fold.folded) apart in
    let given = folded.given_from 0 _ known []
    (rw ended (rw (one.kind, one.gap) at (two.given_none 0 known inside.uses))) in
    let (over, is_over) = fold.ended in
    let reason = rw is_over at c.in-Err-pass_byte-2.ensures.reason in
    no_byte _ _ _ _ _ known _ _ _ _ folded.numbers opens goes_on _ folded.steps given _ _ _ _ _
    reason)

pub returns-in-Err-fold_numbers-clause-folded : goal.returns-in-Err-fold_numbers-clause-folded
returns-in-Err-fold_numbers-clause-folded g c = λ known. in_any_case _ _ _ _ (λ uses apart.
    let one = c.in-Ok-true.ensures in
    let inside = one.given_none 0 known uses in
    let opens = rw c.in-Ok-true.field-0-test at (one.given known uses) in
    let two = c.in-Ok-false-pass_byte.ensures in
    let goes_on = rw (one.gap, c.in-Ok-false-pass_byte.field-0-test)
    at (two.given known inside.uses) in
    let ended : c.pass_byte-2.new.self.ended ≡ None = search rules in
    let fold = c.in-Err-fold_numbers.ensures in
    let folded = (rw (two.kind, two.gap, one.kind, one.gap) at fold.folded) apart in
    let given = folded.given_from 0 _ known []
    (rw ended (rw (one.kind, one.gap) at (two.given_none 0 known inside.uses))) in
    no_value _ _ _ _ _ known _ _ _ _ folded.numbers _ _ opens goes_on folded.steps given
    fold.stopped)

pub returns-in-Ok-true-pass_byte-2-clause-uses : goal.returns-in-Ok-true-pass_byte-2-clause-uses
returns-in-Ok-true-pass_byte-2-clause-uses g c =
    more_bytes _ _ _ _ _ _ (more_bytes _ _ _ _ _ _ (more_bytes _ _ _ _ _ _ c.in-Ok-true.ensures.uses
    c.in-Ok-false-pass_byte.ensures.uses) c.in-Ok.ensures.uses)
    c.in-Ok-true-pass_byte-2.ensures.uses

pub returns-in-Err-fold_numbers-clause-uses : goal.returns-in-Err-fold_numbers-clause-uses
returns-in-Err-fold_numbers-clause-uses g c =
    more_bytes _ _ _ _ _ _ (more_bytes _ _ _ _ _ _ c.in-Ok-true.ensures.uses
    c.in-Ok-false-pass_byte.ensures.uses) c.in-Err-fold_numbers.ensures.uses
