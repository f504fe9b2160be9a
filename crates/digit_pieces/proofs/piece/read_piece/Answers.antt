use Rattle.digit_pieces.specs.Pieces.{SoFar}
use Rattle.digit_pieces.proofs.Turns.{turns_begin}
use Rattle.digit_pieces.proofs.piece.read_piece.Goals as goal
use Rattle.digit_pieces.proofs.piece.read_piece.Goals.{then-not-gap+then-is_list_faster+in-Ok, else-not-gap}

pub returns-in-Err-clause-is : goal.returns-in-Err-clause-is
returns-in-Err-clause-is g c =
    rw (← c.sure_end-sure.ensures.is) (c.in-Err.ensures.fills c.args.is_last)

pub returns-clause-is : goal.returns-clause-is
returns-clause-is g c =
    let k = g.K.Kind in
    let text = c.args.text.now in
    let one = k.number_at c.args.kind text in
    let sure = c.sure_end-sure.result in
    let so : SoFar k.meaning one k.none_at c.args.gap text sure c.args.is_last c.args.start
    c.if-not-gap.from c.if-not-gap.at c.args.out.now c.if-not-gap.out
    =
    elim c.if-not-gap.branch [
      | then-not-gap+then-is_list_faster+in-Ok w ↦
          rw (w.out-is, w.at-is, w.from-is) (w.in-Ok.ensures.so c.args.is_last)
      | else-not-gap w ↦
          rw (w.out-is, w.at-is, w.from-is)
          (turns_begin k.meaning one k.none_at c.args.gap text sure c.args.is_last c.args.start
          c.args.out.now)
    ] in
    rw (← c.sure_end-sure.ensures.is)
    (c.read_rest.ensures.fills c.args.start c.args.out.now so)
