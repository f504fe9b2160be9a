use Rattle.std.proofs.Common.{◌≡◌, ◌-◌, ◌/◌, ◌^◌, ◌++◌, ℕ, List, ap, sym, ◌∙◌, arith, take, drop}
use Rattle.decimal_writers.specs.Big.{value_of}
use Rattle.decimal_writers.proofs.Bigs.{put_at, further}
use Rattle.decimal_writers.proofs.Numerals.{last_none}
use Rattle.decimal_writers.proofs.big.put_big.Goals as goal

pub loop-i-init : goal.loop-i-init
loop-i-init c =
    let a = c.args in
    let none : a.end - 0 ≡ a.end = omega arith in
    ap (λ (x : ℕ). drop x a.out.now) none
    ∙ ap (λ (ds : List ℕ). ds ++ drop a.end a.out.now)
    (sym (last_none (value_of (take a.len a.digits.now) / 10 ^ a.from)))

pub loop-i-preserved : goal.loop-i-preserved
loop-i-preserved c =
    let a = c.args in
    let l = c.loop-i in
    let n = value_of (take a.len a.digits.now) in
    put_at (n / 10 ^ a.from) l.i c.digit_at.result a.end a.out.now l.out
    (omega (arith, c.loop-i-test.true, c.requires.room))
    c.requires.within l.auto.out (c.digit_at.ensures.is ∙ further n a.from l.i) l.invariant
