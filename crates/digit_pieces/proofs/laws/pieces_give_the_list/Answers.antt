use Rattle.digit_pieces.proofs.Theorem.{all_pieces}
use Rattle.digit_pieces.proofs.laws.pieces_give_the_list.Goals as goal

pub returns : goal.returns
returns g c =
    let k = g.K.Kind in
    let m = g.met.K.Kind in
    let kind = c.args.kind in
    λ room rest pieces last apart.
    all_pieces (k.number_at kind) k.none_at k.error_later (k.has_byte kind) c.args.gap
    (record {
      follows = λ text other at start upto from.
          m.follows kind text other at start c.requires upto from;
      precedes = λ text from at within fresh.
          m.precedes kind text from at c.requires within fresh;
      ends = λ text start end x within is. m.ends kind text start end x c.requires within is;
      none_later = m.none_later;
    }) apart room rest pieces last
