use Rattle.digit_pieces.proofs.Theorem.{AreNumbers}
use Rattle.std.proofs.Common.{sym}
use Rattle.digit_streams.proofs.Ends.{held_place, held_still, too_long}
use Rattle.digit_streams.proofs.PiecesHeld.{held_list, held_begins}
use Rattle.digit_streams.proofs.held.read_held.Goals as goal

pub returns-in-Some-clause-list : goal.returns-in-Some-clause-list
returns-in-Some-clause-list g c =
    let k = g.K.Kind in
    let m = g.met.K.Kind in
    let kind = c.args.kind in
    let fills = c.read_piece-read.ensures.is in
    let are : AreNumbers (k.number_at kind) k.none_at k.error_later (k.has_byte kind) = record {
      follows = λ text other at start upto from.
          m.follows kind text other at start c.requires upto from;
      precedes = λ text from at within fresh.
          m.precedes kind text from at c.requires within fresh;
      ends = λ text start end x within is. m.ends kind text start end x c.requires within is;
      none_later = m.none_later;
    } in
    λ more apart last.
    rw (
      c.in-Some.ensures.is,
      c.in-Some.ensures.position,
      c.in-Some.ensures.unread,
      ← c.unread.ensures,
      fills.end,
      fills.numbers,
      fills.count,
    )
    (held_list (k.number_at kind) k.none_at k.error_later c.args.gap m.later_more
    (k.has_byte kind) are apart c.args.window.now.position _ c.unread.result.now more
    c.args.is_last last)

pub returns-in-None-clause-list : goal.returns-in-None-clause-list
returns-in-None-clause-list g c =
    let k = g.K.Kind in
    let m = g.met.K.Kind in
    let kind = c.args.kind in
    let are : AreNumbers (k.number_at kind) k.none_at k.error_later (k.has_byte kind) = record {
      follows = λ text other at start upto from.
          m.follows kind text other at start c.requires upto from;
      precedes = λ text from at within fresh.
          m.precedes kind text from at c.requires within fresh;
      ends = λ text start end x within is. m.ends kind text start end x c.requires within is;
      none_later = m.none_later;
    } in
    λ more apart last.
    rw (← c.unread.ensures, c.read_piece-read.ensures.is.numbers)
    (held_begins (k.number_at kind) k.none_at k.error_later c.args.gap m.later_more
    (k.has_byte kind) are apart c.args.window.now.position _ c.unread.result.now more
    c.args.is_last last)

pub returns-in-Some-clause-place : goal.returns-in-Some-clause-place
returns-in-Some-clause-place g c =
    rw (c.in-Some.ensures.is, c.in-Some.ensures.position)
    (held_place g.K.Kind.error_later c.args.window.now.position c.read_piece-read.result.end _)

pub returns-in-Some-clause-still : goal.returns-in-Some-clause-still
returns-in-Some-clause-still g c =
    rw (c.in-Some.ensures.is, c.in-Some.ensures.position)
    (held_still g.K.Kind.error_later c.args.window.now.position c.read_piece-read.result.end)

pub returns-in-None-clause-place : goal.returns-in-None-clause-place
returns-in-None-clause-place g c =
    let k = g.K.Kind in
    let kind = c.args.kind in
    rw (c.in-None.ensures.none, ← c.unread.ensures)
    (too_long (k.number_at kind) k.none_at k.error_at (k.has_byte kind) c.args.gap
    c.args.window.now.position c.unread.result.now c.args.is_last _ c.read_piece-read.result.end _
    (λ at here. here.1) c.read_piece-read.ensures.at (sym c.read_piece-read.ensures.is.end)
    c.in-None.ensures.past)
