use Rattle.std.proofs.Common.{◌+ℤ◌, rules}
use Rattle.digits.proofs.ForCallers.{enclosed_known}
use Rattle.digit_uses.proofs.arrays.sum_of_array.Goals as goal

pub returns-in-Ok : goal.returns-in-Ok
returns-in-Ok g c =
    let n = c.new-numbers.ensures in
    let is = enclosed_known _ _ (λ sum x. sum +ℤ x) (λ sum x next step. search rules) _ _ _ _ _ _
    ((rw (n.ended, n.kind, c.new-kind.ensures, n.gap, n.position) at c.in-Ok.ensures.folded)
    _ (rw n.position at n.given.uses) c.integers_are_apart.ensures) in
    search (rules, is)

pub returns : goal.returns
returns g c =
    let n = c.new-numbers.ensures in
    let is = enclosed_known _ _ (λ sum x. sum +ℤ x) (λ sum x next step. search rules) _ _ _ _ _ _
    ((rw (n.ended, n.kind, c.new-kind.ensures, n.gap, n.position) at c.in-Err.ensures.folded)
    _ (rw n.position at n.given.uses) c.integers_are_apart.ensures) in
    rw c.why.ensures is
