use Rattle.std.proofs.Common.{◌≡◌, ℕ, ◌+◌, Bool, false, cond, arith}
use Rattle.lexical_digits.proofs.ByteSet.{next_small, next_fits, next_are}
use Rattle.lexical_digits.proofs.ops.accepted.Goals as goal

pub overflow_mul-bits : goal.overflow_mul-bits
overflow_mul-bits g c =
    let l = c.loop-i in
    grind (arith, next_fits l.bits l.i false (omega arith) (omega arith) l.invariant.small)

pub overflow_add-bits : goal.overflow_add-bits
overflow_add-bits g c =
    let l = c.loop-i in
    grind (arith, next_fits l.bits l.i c.test.result (omega arith) (omega arith) l.invariant.small)

pub loop-i-preserved : goal.loop-i-preserved
loop-i-preserved g c =
    let l = c.loop-i in
    let b = c.test.result in
    let P = λ (k : ℕ) (yes : Bool). g.F.Fn.post c.args.test.now (c.args.start + k, tt) yes in
    let is : c.from.result ≡ cond b 1 0 = grind arith in
    rw is record {
      small = next_small l.bits l.i b (omega arith) (omega arith) l.invariant.small;
      are = next_are l.bits l.i b (omega arith) (omega arith) P l.invariant.are c.test.ensures;
    }
