use Rattle.std.proofs.Common.{◌+ℤ◌, rules}
use Rattle.digits.proofs.ForCallers.{folds_known}
use Rattle.digit_uses.proofs.quotes.sum_of_prices.Goals as goal

pub returns-in-Ok : goal.returns-in-Ok
returns-in-Ok g c =
    let new = c.new-cents.ensures in
    let is = folds_known _ _ (λ sum x. sum +ℤ x) (λ sum x next step. search rules) _ _ _ _ _
    (rw (new.word, new.point) at c.enclosed_are_apart.ensures)
    (rw (new.word, new.point, new.places) at c.in-Ok.ensures) in
    search (rules, is)

pub returns-in-Err : goal.returns-in-Err
returns-in-Err g c =
    let new = c.new-cents.ensures in
    rw c.stream_error.ensures
    (folds_known _ _ (λ sum x. sum +ℤ x) (λ sum x next step. search rules) _ _ _ _ _
    (rw (new.word, new.point) at c.enclosed_are_apart.ensures)
    (rw (new.word, new.point, new.places) at c.in-Err.ensures))
