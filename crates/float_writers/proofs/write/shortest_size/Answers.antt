use Rattle.std.proofs.Common.{sym, subst}
use Rattle.std.specs.Float.{Float}
use Rattle.float_writers.specs.Parts.{IsAboveZero}
use Rattle.float_writers.specs.Write.{IsShortest}
use Rattle.float_writers.proofs.Written.{size_is, number, nothing, zero_shortest}
use Rattle.float_writers.proofs.write.shortest_size.Goals as goal

pub returns-then-is_zero-clause-shortest : goal.returns-then-is_zero-clause-shortest
returns-then-is_zero-clause-shortest g c =
    subst (λ (y : Float). IsShortest g.F.Float.format y nothing)
    (sym (c.is_zero.ensures.zero c.if-is_zero.true))
    (zero_shortest g.F.Float.format)

pub negated_if-requires : goal.negated_if-requires
negated_if-requires g c = record { number = number (g.F.Float.value c.args.x) c.requires.finite }

pub shortest-requires : goal.shortest-requires
shortest-requires g c =
    subst (λ (y : Float). IsAboveZero y)
    (sym (size_is c.args.negative (g.F.Float.value c.args.x)
    (g.F.Float.value c.negated_if.result) c.requires.sign c.negated_if.ensures))
    (c.is_zero.ensures.above c.if-is_zero.false)

pub returns-clause-shortest : goal.returns-clause-shortest
returns-clause-shortest g c =
    let is = c.shortest.ensures in
    subst (λ (y : Float). IsShortest g.F.Float.format y c.shortest.result)
    (size_is c.args.negative (g.F.Float.value c.args.x)
    (g.F.Float.value c.negated_if.result) c.requires.sign c.negated_if.ensures)
    (record {
      reads = is.reads;
      shortest = is.shortest;
      closest = is.closest;
      even = is.even;
      last = λ e. absurd (is.last e);
    })
