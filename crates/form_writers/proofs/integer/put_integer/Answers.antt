use Rattle.std.proofs.Common.{◌≡◌, ◌+◌, ◌++◌, Bool, sym, subst, take, set, arith}
use Rattle.std.specs.Prelude.{decimal}
use Rattle.std.specs.Fmt.{sign_text}
use Rattle.form_writers.proofs.Integers.{put_plain, put_minus}
use Rattle.form_writers.proofs.integer.put_integer.Goals as goal

pub returns-then-negative-clause-written : goal.returns-then-negative-clause-written
returns-then-negative-clause-written c =
    let k = c.count_digits-count in
    let new = c.put_digits.new.out in
    subst (λ (b : Bool). take (k.result + 1) (set new 0 45)
    ≡ sign_text b ++ decimal c.args.magnitude)
    (sym c.if-negative.true)
    (put_minus c.args.magnitude k.result c.args.text.now new
    (omega (arith, c.ranges.magnitude)) k.ensures.is
    (omega (arith, c.requires, c.put_digits.auto.out)) c.put_digits.ensures)

pub returns-clause-written : goal.returns-clause-written
returns-clause-written c =
    let k = c.count_digits-count in
    let new = c.put_digits-2.new.out in
    subst (λ (b : Bool). take k.result new ≡ sign_text b ++ decimal c.args.magnitude)
    (sym c.if-negative.false)
    (put_plain c.args.magnitude k.result c.args.text.now new
    (omega (arith, c.ranges.magnitude)) k.ensures.is c.put_digits-2.ensures)
