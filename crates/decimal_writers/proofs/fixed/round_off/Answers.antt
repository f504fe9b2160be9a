use Rattle.std.proofs.Common.{◌/◌, ◌^◌, ℕ, ap, sym, ◌∙◌, take}
use Rattle.decimal_writers.specs.Big.{value_of}
use Rattle.decimal_writers.proofs.Placed.{carried_up}
use Rattle.decimal_writers.proofs.fixed.round_off.Goals as goal

pub returns-then-rounds_up-clause-value : goal.returns-then-rounds_up-clause-value
returns-then-rounds_up-clause-value c =
    let a = c.args in
    let n = value_of (take a.len a.digits.now) in
    ap (λ (x : ℕ). x / 10 ^ a.dropped) c.add_one.ensures.big.value ∙ carried_up n a.dropped
    ∙ sym c.if-rounds_up.ensures.is
