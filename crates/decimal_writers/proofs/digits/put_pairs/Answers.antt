use Rattle.std.proofs.Common.{◌≡◌, ◌+◌, ◌-◌, ◌/◌, ◌%◌, ◌++◌, ℕ, List, drop, set, ap, subst, ◌∙◌, arith}
use Rattle.decimal_writers.specs.Text.{last_digits}
use Rattle.decimal_writers.proofs.Numerals.{last_of_rest, put_done, put_last, put_more}
use Rattle.decimal_writers.proofs.digits.put_pairs.Goals as goal

pub loop-at-preserved : goal.loop-at-preserved
loop-at-preserved c =
    let a = c.args in
    let l = c.loop-at in (
      omega arith,
      put_more a.n a.end l.at l.left 2 a.out.now l.out c.put_two.new.out (omega arith)
          (c.put_two.ensures
          ∙ ap (λ (ds : List ℕ). ds ++ drop l.at l.out) (last_of_rest 2 l.left))
          l.invariant.1,
    )

pub returns-then-at-start-clause-left : goal.returns-then-at-start-clause-left
returns-then-at-start-clause-left c =
    let a = c.args in
    let l = c.loop-at in
    (put_done a.n a.count a.end (l.at - 1) (l.left / 10) a.out.now
    (set l.out (l.at - 1) (48 + l.left % 10)) (omega arith) (omega arith)
    (put_last a.n a.end l.at l.left a.out.now l.out (omega arith) (omega arith) l.invariant.1)).0

pub returns-then-at-start-clause-written : goal.returns-then-at-start-clause-written
returns-then-at-start-clause-written c =
    let a = c.args in
    let l = c.loop-at in
    let start : l.at - 1 ≡ a.end - a.count = omega arith in
    subst (λ (x : ℕ). drop (a.end - a.count) (set l.out x (48 + l.left % 10))
    ≡ last_digits a.count a.n ++ drop a.end a.out.now) start
    (put_done a.n a.count a.end (l.at - 1) (l.left / 10) a.out.now
    (set l.out (l.at - 1) (48 + l.left % 10)) (omega arith) start
    (put_last a.n a.end l.at l.left a.out.now l.out (omega arith) (omega arith) l.invariant.1)).1
