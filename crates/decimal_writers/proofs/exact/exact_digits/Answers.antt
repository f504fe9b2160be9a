use Rattle.std.proofs.Common.{◌-◌, ◌*◌, ◌+◌, ◌≡◌, ◌^◌, ℕ, ap, ◌∙◌, arith, take}
use Rattle.decimal_writers.specs.Big.{value_of}
use Rattle.decimal_writers.proofs.ExactDigits.{first_value, down_value, up_value}
use Rattle.decimal_writers.proofs.exact.exact_digits.Goals as goal

pub returns-then-binary-lt-LEAST-clause-value : goal.returns-then-binary-lt-LEAST-clause-value
returns-then-binary-lt-LEAST-clause-value c =
    let b = c.args.binary in
    let put = c.put_carry-len in
    let first = first_value c.args.digits.now put.new.digits put.result b.significand
    put.ensures.value in
    let sum : 1074 - b.shift + b.shift ≡ 1074 = omega (arith, c.if-binary-lt-LEAST.true) in
    down_value b.significand b.shift (value_of (take c.scale.result c.scale.new.digits))
    (1074 - b.shift) sum
    (c.scale.ensures.big.value ∙ ap (λ (x : ℕ). x * 5 ^ (1074 - b.shift)) first)

pub returns-clause-value : goal.returns-clause-value
returns-clause-value c =
    let b = c.args.binary in
    let put = c.put_carry-len in
    let s = c.scale-2 in
    let first = first_value c.args.digits.now put.new.digits put.result b.significand
    put.ensures.value in
    up_value b.significand b.shift
    (value_of (take s.result s.new.digits)) c.if-binary-lt-LEAST.false
    (s.ensures.big.value ∙ ap (λ (x : ℕ). x * 2 ^ (b.shift - 1074)) first)
