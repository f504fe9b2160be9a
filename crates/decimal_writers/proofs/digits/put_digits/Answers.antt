use Rattle.std.proofs.Common.{◌-◌, ◌/◌, ◌^◌, ◌++◌, ◌∙◌, ℕ, List, ap, drop, arith}
use Rattle.decimal_writers.proofs.Numerals.{last_of_rest, put_done, put_more}
use Rattle.decimal_writers.proofs.digits.put_digits.Goals as goal

pub loop-at-preserved : goal.loop-at-preserved
loop-at-preserved c =
    let a = c.args in
    let l = c.loop-at in (
      omega arith,
      put_more a.n a.end l.at l.left 8 a.out.now l.out c.put_eight.new.out (omega arith)
          (c.put_eight.ensures
          ∙ ap (λ (ds : List ℕ). ds ++ drop l.at l.out) (last_of_rest 8 l.left))
          l.invariant.1,
    )

pub returns-clause-left : goal.returns-clause-left
returns-clause-left c =
    let a = c.args in
    let l = c.loop-at in
    let few = l.at - (a.end - a.count) in
    c.put_pairs.ensures.left
    ∙ (put_done a.n a.count a.end (l.at - few) (l.left / 10 ^ few) a.out.now c.put_pairs.new.out
    c.requires.room (omega arith)
    (put_more a.n a.end l.at l.left few a.out.now l.out c.put_pairs.new.out (omega arith)
    c.put_pairs.ensures.written l.invariant.1)).0

pub returns-clause-written : goal.returns-clause-written
returns-clause-written c =
    let a = c.args in
    let l = c.loop-at in
    let few = l.at - (a.end - a.count) in
    (put_done a.n a.count a.end (l.at - few) (l.left / 10 ^ few) a.out.now c.put_pairs.new.out
    c.requires.room (omega arith)
    (put_more a.n a.end l.at l.left few a.out.now l.out c.put_pairs.new.out (omega arith)
    c.put_pairs.ensures.written l.invariant.1)).1
