use Rattle.std.proofs.Common.{◌≡◌, true, false, length, refl, sym, ◌∙◌, arith}
use Rattle.std.proofs.lemmas.List.{length-set}
use Rattle.digit_literals.specs.Lists.{past_blanks}
use Rattle.digit_pieces.specs.Pieces.{is_sure, is_parted}
use Rattle.digit_pieces.proofs.Turns.{turns_full, turns_ask, turns_none, turns_touch, turns_next, turns_over}
use Rattle.digit_pieces.proofs.piece.read_rest.Goals as goal

pub returns-then-not-is_sure-clause-fills : goal.returns-then-not-is_sure-clause-fills
returns-then-not-is_sure-clause-fills g c = λ start old begins.
    let k = g.K.Kind in
    let text = c.args.text.now in
    let so = c.loop-count.invariant.so start old begins in
    let asks : is_sure c.args.is_last c.args.sure (past_blanks c.args.gap text c.loop-count.at)
    ≡ false =
    rw (← c.past_blanks-place.ensures.is, ← c.is_sure.ensures) c.if-not-is_sure.true in
    rw c.past_blanks-place.ensures.is
    (turns_ask k.meaning (k.number_at c.args.kind text) k.none_at c.args.gap text c.args.sure
    c.args.is_last start c.loop-count.count c.loop-count.at old c.loop-count.out so
    (omega (arith, so.same_length)) asks)

pub returns-in-Err-clause-fills : goal.returns-in-Err-clause-fills
returns-in-Err-clause-fills g c = λ start old begins.
    let k = g.K.Kind in
    let text = c.args.text.now in
    let so = c.loop-count.invariant.so start old begins in
    let here : is_sure c.args.is_last c.args.sure (past_blanks c.args.gap text c.loop-count.at)
    ≡ true =
    rw (← c.past_blanks-place.ensures.is, ← c.is_sure.ensures) c.if-not-is_sure.false in
    rw (
      c.of_list-end.ensures,
      c.no_number.ensures,
      c.is_none_at.ensures,
      c.past_blanks-place.ensures.is,
    )
    (turns_none k.meaning (k.number_at c.args.kind text) k.none_at c.args.gap text c.args.sure
    c.args.is_last start c.loop-count.count c.loop-count.at old c.loop-count.out so
    (omega (arith, so.same_length)) c.in-Err.error here
    (rw c.past_blanks-place.ensures.is at c.in-Err.ensures.is))

pub returns-then-not-is_parted-clause-fills : goal.returns-then-not-is_parted-clause-fills
returns-then-not-is_parted-clause-fills g c = λ start old begins.
    let k = g.K.Kind in
    let text = c.args.text.now in
    let so = c.loop-count.invariant.so start old begins in
    let here : is_sure c.args.is_last c.args.sure (past_blanks c.args.gap text c.loop-count.at)
    ≡ true =
    rw (← c.past_blanks-place.ensures.is, ← c.is_sure.ensures) c.if-not-is_sure.false in
    let touches : is_parted c.args.gap text c.args.is_last c.in-Ok.read.1 ≡ false =
    rw (← c.is_parted.ensures) c.if-not-is_parted.true in
    rw c.past_blanks-place.ensures.is
    (turns_touch k.meaning (k.number_at c.args.kind text) k.none_at c.args.gap text c.args.sure
    c.args.is_last start c.loop-count.count c.loop-count.at old c.loop-count.out so
    (omega (arith, so.same_length)) c.in-Ok.read.1 (k.meaning c.in-Ok.read.0) here
    (rw c.past_blanks-place.ensures.is at c.in-Ok.ensures.is) touches)

pub returns-in-Err-next_start-clause-fills : goal.returns-in-Err-next_start-clause-fills
returns-in-Err-next_start-clause-fills g c = λ start old begins.
    let k = g.K.Kind in
    let text = c.args.text.now in
    let so = c.loop-count.invariant.so start old begins in
    let here : is_sure c.args.is_last c.args.sure (past_blanks c.args.gap text c.loop-count.at)
    ≡ true =
    rw (← c.past_blanks-place.ensures.is, ← c.is_sure.ensures) c.if-not-is_sure.false in
    let parts : is_parted c.args.gap text c.args.is_last c.in-Ok.read.1 ≡ true =
    rw (← c.is_parted.ensures) c.if-not-is_parted.false in
    turns_over k.meaning (k.number_at c.args.kind text) k.none_at c.args.gap text c.args.sure
    c.args.is_last start c.loop-count.count c.loop-count.at old c.loop-count.out so
    (omega (arith, so.same_length)) c.in-Ok.read.0 c.in-Ok.read.1
    c.in-Err-next_start.over here (rw c.past_blanks-place.ensures.is at c.in-Ok.ensures.is) parts
    (sym c.in-Err-next_start.ensures.is)

pub returns-clause-fills : goal.returns-clause-fills
returns-clause-fills g c = λ start old begins.
    let k = g.K.Kind in
    let text = c.args.text.now in
    let so = c.loop-count.invariant.so start old begins in
    let all : length c.loop-count.out ≡ c.loop-count.count
    = omega (arith, c.loop-count.invariant.room, c.loop-count.invariant.same) in
    rw all (turns_full k.meaning (k.number_at c.args.kind text) k.none_at c.args.gap text
    c.args.sure c.args.is_last start c.loop-count.count c.loop-count.at old c.loop-count.out so
    (sym all ∙ so.same_length))

pub loop-count-preserved : goal.loop-count-preserved
loop-count-preserved g c =
    let k = g.K.Kind in
    let text = c.args.text.now in
    let here : is_sure c.args.is_last c.args.sure (past_blanks c.args.gap text c.loop-count.at)
    ≡ true =
    rw (← c.past_blanks-place.ensures.is, ← c.is_sure.ensures) c.if-not-is_sure.false in
    let parts : is_parted c.args.gap text c.args.is_last c.in-Ok.read.1 ≡ true =
    rw (← c.is_parted.ensures) c.if-not-is_parted.false in
    record {
      so = λ start old begins.
          let so = c.loop-count.invariant.so start old begins in
          turns_next k.meaning (k.number_at c.args.kind text) k.none_at c.args.gap text
          c.args.sure c.args.is_last start c.loop-count.count c.loop-count.at old
          c.loop-count.out so (omega (arith, so.same_length)) c.in-Ok.read.0 c.in-Ok.read.1
          c.in-Ok-next_start.next here
          (rw c.past_blanks-place.ensures.is at c.in-Ok.ensures.is) parts
          (sym c.in-Ok-next_start.ensures.is);
      onward = omega (
        arith,
        c.loop-count.invariant.onward,
        c.past_blanks-place.ensures.onward,
        c.in-Ok.ensures.end,
        c.in-Ok-next_start.ensures.onward,
      );
      within = c.in-Ok-next_start.ensures.within;
      room = refl;
      same = length-set _ _ _ ∙ c.loop-count.invariant.same;
    }
