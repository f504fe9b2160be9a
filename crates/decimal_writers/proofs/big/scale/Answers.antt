use Rattle.std.proofs.Common.{◌*◌, ℕ, subst, arith, take}
use Rattle.decimal_writers.specs.Big.{value_of, IsBig}
use Rattle.decimal_writers.proofs.Bigs.{scaled_one}
use Rattle.decimal_writers.proofs.big.scale.Goals as goal

pub loop-left-preserved : goal.loop-left-preserved
loop-left-preserved c =
    let a = c.args in
    let l = c.loop-left in
    let m = c.multiply-after in
    let step = c.min-step.result in
    let big = subst
    (λ (x : ℕ). IsBig m.new.digits m.result
    (value_of (take l.after l.digits) * x)) c.pow.ensures m.ensures.big in
    scaled_one a.digits.now l.digits m.new.digits a.len l.after m.result a.base a.exponent l.left
    step
    (omega arith) (omega (arith, c.min-step.ensures)) (omega (arith, c.min-step.ensures))
    (λ few. omega (arith, few, c.min-step.ensures))
    l.invariant big m.ensures.few
