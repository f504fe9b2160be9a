use Rattle.std.proofs.Common.{◌+ℤ◌, rules}
use Rattle.digits.proofs.ForCallers.{folds_known}
use Rattle.digit_uses.proofs.sums.sum_of.Goals as goal

pub returns-in-Ok : goal.returns-in-Ok
returns-in-Ok g c =
    let is = folds_known _ _ (λ sum x. sum +ℤ x) (λ sum x next step. search rules) _ _ _ _ _
    c.integers_are_apart.ensures (rw c.new-kind.ensures at c.in-Ok.ensures) in
    search (rules, is)

pub returns-in-Err : goal.returns-in-Err
returns-in-Err g c =
    rw c.stream_error.ensures
    (folds_known _ _ (λ sum x. sum +ℤ x) (λ sum x next step. search rules) _ _ _ _ _
    c.integers_are_apart.ensures (rw c.new-kind.ensures at c.in-Err.ensures))
