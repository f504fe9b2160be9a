use Rattle.std.proofs.Common.{◌≡◌, sym, arith}
use Rattle.std.proofs.lemmas.Bool.Decides.{nat_tests}
use Rattle.std.proofs.lemmas.List.{length-take-le}
use Rattle.digit_literals.specs.declared.list.ListEnd.TheVariants.{Full, Over, Fault}
use Rattle.digit_pieces.proofs.Blanks.{separator_within}
use Rattle.digit_pieces.proofs.ByLists.{kind_so, kind_fills}
use Rattle.digit_pieces.proofs.SureEnds.{sure_within}
use Rattle.digit_pieces.proofs.piece.read_front.Goals as goal
use Rattle.digit_pieces.proofs.piece.read_front.Goals.{in-Over-2, in-Full, in-Fault}

pub last_separator-requires : goal.last_separator-requires
last_separator-requires g c =
    rw c.requires.sure (sure_within (g.K.Kind.has_byte c.args.kind) c.args.text.now)

pub slice_bounds-read_list-end : goal.slice_bounds-read_list-end
slice_bounds-read_list-end g c =
    let text = c.args.text.now in
    let cut = c.in-Some.cut in
    let within = separator_within c.args.gap text cut c.in-Some.ensures.separator in
    sym (length-take-le cut text (omega arith))

pub returns-in-Over-clause-within : goal.returns-in-Over-clause-within
returns-in-Over-clause-within g c =
    let within =
    separator_within c.args.gap c.args.text.now c.in-Some.cut c.in-Some.ensures.separator in
    omega arith

pub returns-in-Over-clause-so : goal.returns-in-Over-clause-so
returns-in-Over-clause-so g c = λ is_last.
    let k = g.K.Kind in
    let m = g.met.K.Kind in
    let kind = c.args.kind in
    let e : c.in-Over.at ≡ c.in-Some.cut = grind (arith, nat_tests, c.if-at-cut.true) in
    rw c.requires.sure
    (kind_so k.meaning (k.number_at kind) k.none_at k.error_later (k.has_byte kind) c.args.gap
    (record {
      follows = λ text other at start upto from.
          m.follows kind text other at start c.requires.valid upto from;
      precedes = λ text from at within fresh.
          m.precedes kind text from at c.requires.valid within fresh;
      ends = λ text start end x within is.
          m.ends kind text start end x c.requires.valid within is;
      none_later = m.none_later;
    }) c.args.text.now c.args.start c.in-Some.cut c.in-Some.ensures c.requires.separators is_last
    c.in-Some-read_list.read c.args.out.now c.read_list.new.out c.in-Some-read_list.ensures.is
    (rw e at c.in-Over.is))

pub returns-clause-fills : goal.returns-clause-fills
returns-clause-fills g c = λ is_last.
    let k = g.K.Kind in
    let m = g.met.K.Kind in
    let kind = c.args.kind in
    let fills = kind_fills k.meaning (k.number_at kind) k.none_at k.error_later (k.has_byte kind)
    c.args.gap
    (record {
      follows = λ text other at start upto from.
          m.follows kind text other at start c.requires.valid upto from;
      precedes = λ text from at within fresh.
          m.precedes kind text from at c.requires.valid within fresh;
      ends = λ text start end x within is.
          m.ends kind text start end x c.requires.valid within is;
      none_later = m.none_later;
    }) c.args.text.now c.args.start c.in-Some.cut c.in-Some.ensures c.requires.separators is_last
    c.in-Some-read_list.read c.args.out.now c.read_list.new.out
    c.in-Some-read_list.ensures.is in
    rw c.requires.sure
    (elim c.match-read.branch [
      | in-Over-2 w ↦
          rw w.end-is
          (fills (Over w.in-Over-2.at) w.in-Over-2.is
          (grind (arith, nat_tests, w.if-at-cut.false)))
      | in-Full w ↦ rw w.end-is (fills (Full w.in-Full.at) w.in-Full.is tt)
      | in-Fault w ↦ rw w.end-is (fills (Fault w.in-Fault.error) w.in-Fault.is tt)
    ])
