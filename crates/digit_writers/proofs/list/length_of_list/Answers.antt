use Rattle.std.proofs.Common.{ℤ, ◌+◌, ◌-◌, ◌^◌, List, ◌≡◌, length, drop, map, min, refl, sym, subst, All, arith}
use Rattle.std.proofs.lemmas.List.Elements.{All-cons}
use Rattle.digit_writers.specs.Lists.{list_text, others_text}
use Rattle.digit_writers.specs.Written.{IsOfType}
use Rattle.digit_writers.proofs.ListTexts.{counted_more, counted_all, left_at, left_end}
use Rattle.digit_writers.proofs.list.length_of_list.Goals as goal

pub loop-i-preserved : goal.loop-i-preserved
loop-i-preserved g c =
    let t = g.T.Integer in
    let l = c.loop-i in
    let xs = c.args.numbers.now in
    let x = c.index-numbers-i.result in
    let others : List ℤ = map t.number (drop (l.i + 1) xs) in
    let here = left_at t.number xs l.i x c.loop-i-test.true c.index-numbers-i.is in
    record {
      counted = λ separator.
          let total = min (length (list_text separator (map t.number xs))) (2 ^ 64 - 1) in
          let so = subst (λ (zs : List ℤ). min (l.count + length (others_text separator zs))
          (2 ^ 64 - 1) ≡ total) here (l.invariant.counted separator) in
          counted_more separator l.count (1 + c.length_of.result) (2 ^ 64 - 1) total
          c.saturating_add-count.result (t.number x) others so
          (omega (arith, c.length_of.ensures.is)) c.saturating_add-count.ensures;
      of_type = λ all.
          l.invariant.of_type (subst (All (IsOfType t.MIN_MAGNITUDE t.MAX)) (sym here)
          (All-cons (IsOfType t.MIN_MAGNITUDE t.MAX) (t.number x) others c.length_of.ensures.of_type
          all));
      few = omega (arith, c.saturating_add-count.type_inv);
      end = refl;
      onward = omega (arith, c.loop-i-test.true);
    }

pub returns-clause-is : goal.returns-clause-is
returns-clause-is g c = λ separator.
    let t = g.T.Integer in
    let l = c.loop-i in
    let xs = c.args.numbers.now in
    let total = min (length (list_text separator (map t.number xs))) (2 ^ 64 - 1) in
    let so = subst (λ (zs : List ℤ). min (l.count + length (others_text separator zs))
    (2 ^ 64 - 1) ≡ total) (left_end t.number xs l.i c.loop-i-test.false)
    (l.invariant.counted separator) in
    counted_all separator l.count (2 ^ 64 - 1) total so l.invariant.few
