use Rattle.std.proofs.Common.{◌≡◌, ◌≢◌, ◌-◌, All, take, drop, None, arith, sym, subst, ◌==◌}
use Rattle.std.specs.List.{position}
use Rattle.digit_totals.specs.Report.{LeavesRest}
use Rattle.digit_totals.proofs.Pieces.{both_whole, kept_is}
use Rattle.digit_totals.proofs.input.add_piece.Goals as goal

pub returns-then-is_none-clause-whole : goal.returns-then-is_none-clause-whole
returns-then-is_none-clause-whole g c =
    let none : position (λ byte. byte == 10)
    (take (c.args.end - c.args.filled) (drop c.args.filled c.args.buffer.now)) ≡ None =
    grind (arith, c.find.ensures, c.is_none.ensures, c.if-is_none.true) in
    both_whole c.args.buffer.now c.args.filled c.args.end c.requires.order c.requires.whole none

pub returns-clause-rest : goal.returns-clause-rest
returns-clause-rest g c =
    let same = kept_is c.args.buffer.now c.keep.new.buffer c.in-Ok.ensures.rest.suffix.0
    c.in-Ok.added.rest.now c.args.end c.requires.within c.in-Ok.ensures.rest.suffix.1
    c.keep.ensures.front in
    subst (λ bytes. LeavesRest (g.K.Adds.adding c.args.options) c.args.totals
    (take c.args.end c.args.buffer.now)
    c.in-Ok.added.totals bytes) (sym same) c.in-Ok.ensures.rest.leaves

pub returns-clause-whole : goal.returns-clause-whole
returns-clause-whole g c =
    let same = kept_is c.args.buffer.now c.keep.new.buffer c.in-Ok.ensures.rest.suffix.0
    c.in-Ok.added.rest.now c.args.end c.requires.within c.in-Ok.ensures.rest.suffix.1
    c.keep.ensures.front in
    subst (All (λ byte. byte ≢ 10)) (sym same) c.in-Ok.ensures.whole
