use Rattle.std.proofs.Common.{◌-◌, ◌^◌, ◌<◌, ◌≤◌, ℕ, sym, subst, arith}
use Rattle.decimal_writers.proofs.QuickUnits.{one_is}
use Rattle.decimal_writers.proofs.quick.quick_units.Goals as goal

pub rounds_over-requires-clause-one : goal.rounds_over-requires-clause-one
rounds_over-requires-clause-one c =
    let is = one_is (1074 - c.args.shift) (omega (arith, c.if-shift-lt947.false)) in
    subst (λ (x : ℕ). (0 < x) × (x ≤ 2 ^ 127)) (sym is.0) (is.1, is.2)
