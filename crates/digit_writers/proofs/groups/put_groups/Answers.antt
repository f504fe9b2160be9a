use Rattle.std.proofs.Common.{◌≡◌, ℕ, ◌+◌, ◌-◌, ◌<◌, set, refl, subst, inl, inr, arith}
use Rattle.std.proofs.lemmas.Bool.{cases_lt}
use Rattle.digit_writers.proofs.Laying.{IsLaid, laid_none, laid_more, laid_all}
use Rattle.digit_writers.proofs.groups.put_groups.Goals as goal

pub loop-more-init : goal.loop-more-init
loop-more-init c =
    let layout = c.args.layout in
    let count = c.args.count in
    let none : 0 ≡ count - count = omega arith in (
      omega arith,
      subst (λ (done : ℕ). IsLaid layout.radix layout.is_upper c.args.n layout.separator
          layout.every count c.args.start c.args.end done count c.args.end c.args.n c.args.out.now
          c.args.out.now) none
          (laid_none layout.radix layout.is_upper c.args.n layout.separator layout.every count
          c.args.start c.args.end c.args.out.now c.requires.some c.requires.room),
    )

pub loop-more-preserved : goal.loop-more-preserved
loop-more-preserved c =
    let layout = c.args.layout in
    let count = c.args.count in
    let l = c.loop-more in
    let size = c.group_size-size in
    let put = c.put_last-left in
    let positive : 0 < layout.every =
    elim (cases_lt 0 layout.every) [
      | inl some ↦ some
      | inr none ↦ absurd (omega (
        arith,
        size.ensures.ungrouped (omega (arith, none)),
        l.invariant.0,
        c.loop-more-test.true,
      ))
    ] in
    let next : count - l.more + size.result ≡ count - (l.more - size.result) =
    omega (arith, l.invariant.0, c.loop-more-test.true) in (
      omega (arith, l.invariant.0),
      subst (λ (done : ℕ). IsLaid layout.radix layout.is_upper c.args.n layout.separator
          layout.every count c.args.start c.args.end done (l.more - size.result)
          (l.at - size.result - 1) put.result c.args.out.now
          (set put.new.out (l.at - size.result - 1) layout.separator)) next
          (laid_more layout.radix layout.is_upper c.args.n layout.separator layout.every count
          c.args.start c.args.end (count - l.more) l.more l.at l.left size.result c.args.out.now
          l.out
          put.new.out _ put.result l.invariant.1 c.requires.within positive
          (size.ensures.grouped positive) c.loop-more-test.true put.ensures.written put.ensures.left
          refl),
    )

pub returns : goal.returns
returns c =
    let layout = c.args.layout in
    let l = c.loop-more in
    let size = c.group_size-size in
    laid_all layout.radix layout.is_upper c.args.n layout.separator layout.every c.args.count
    c.args.start c.args.end (c.args.count - l.more) l.more l.at l.left size.result c.args.out.now
    l.out _ l.invariant.1 c.requires.within size.ensures.grouped c.loop-more-test.false
    c.put_last-left-2.ensures.written
