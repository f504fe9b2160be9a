use Rattle.std.proofs.Common.{◌≡◌, ℤ, ◌+◌, ◌≤◌, List, ◌∷◌, length, drop, map, subst, refl, sym, arith}
use Rattle.digit_writers.specs.Lists.{list_text, IsListSoFar}
use Rattle.digit_writers.proofs.ListTexts.{has_room, turn, turns_begin, turns_end, left_at, left_end}
use Rattle.digit_writers.proofs.list.put_list.Goals as goal

pub loop-i-init : goal.loop-i-init
loop-i-init g c =
    let t = g.T.Integer in
    let xs = c.args.numbers.now in
    let old = c.args.out.now in
    let x = c.index-numbers-0.result in
    let others : List ℤ = map t.number (drop 1 xs) in
    let all : map t.number xs ≡ t.number x ∷ others =
    left_at t.number xs 0 x c.requires.some c.index-numbers-0.is in
    let room = subst (λ (zs : List ℤ). length (list_text c.args.separator zs) ≤ length old) all
    c.requires.room in
    let so = turns_begin c.args.separator (t.number x) others old c.put_one-at.result
    c.put_one-at.new.out c.put_one-at.ensures.end c.put_one-at.ensures.written room in
    record {
      so = subst (λ (zs : List ℤ). IsListSoFar c.args.separator (list_text c.args.separator zs)
          others c.put_one-at.result old c.put_one-at.new.out) (sym all) so;
      end = refl;
      onward = c.requires.some;
    }

pub put_other-at-requires : goal.put_other-at-requires
put_other-at-requires g c =
    let t = g.T.Integer in
    let l = c.loop-i in
    let xs = c.args.numbers.now in
    let x = c.index-numbers-i.result in
    let text = list_text c.args.separator (map t.number xs) in
    let here = left_at t.number xs l.i x c.loop-i-test.true c.index-numbers-i.is in
    let so = subst (λ (zs : List ℤ). IsListSoFar c.args.separator text zs l.at c.args.out.now l.out)
    here l.invariant.so in
    record {
      room = has_room c.args.separator text (t.number x) (map t.number (drop (l.i + 1) xs)) l.at
          c.args.out.now l.out so c.requires.room;
    }

pub loop-i-preserved : goal.loop-i-preserved
loop-i-preserved g c =
    let t = g.T.Integer in
    let l = c.loop-i in
    let xs = c.args.numbers.now in
    let x = c.index-numbers-i.result in
    let put = c.put_other-at in
    let text = list_text c.args.separator (map t.number xs) in
    let here = left_at t.number xs l.i x c.loop-i-test.true c.index-numbers-i.is in
    let so = subst (λ (zs : List ℤ). IsListSoFar c.args.separator text zs l.at c.args.out.now l.out)
    here l.invariant.so in
    let others = map t.number (drop (l.i + 1) xs) in
    let room = has_room c.args.separator text (t.number x) others l.at c.args.out.now l.out so
    c.requires.room in
    record {
      so = turn c.args.separator text (t.number x) others l.at c.args.out.now l.out so put.result
          put.new.out put.ensures.end room put.ensures.written;
      end = refl;
      onward = omega (arith, c.loop-i-test.true);
    }

pub returns-clause-written : goal.returns-clause-written
returns-clause-written g c =
    let t = g.T.Integer in
    let l = c.loop-i in
    let xs = c.args.numbers.now in
    let text = list_text c.args.separator (map t.number xs) in
    turns_end c.args.separator text l.at c.args.out.now l.out
    (subst (λ (zs : List ℤ). IsListSoFar c.args.separator text zs l.at c.args.out.now l.out)
    (left_end t.number xs l.i c.loop-i-test.false) l.invariant.so)
