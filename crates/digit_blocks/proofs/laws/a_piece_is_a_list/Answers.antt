use Rattle.std.proofs.Common.{arith}
use Rattle.digit_blocks.proofs.AsList.{block_as}
use Rattle.digit_blocks.proofs.laws.a_piece_is_a_list.Goals as goal

pub returns : goal.returns
returns g c =
    let k = g.K.Kind in
    let m = g.met.K.Kind in
    let kind = c.args.kind in
    λ room block apart trails ends none.
    block_as (k.number_at kind) k.none_at k.error_later (k.has_byte kind) c.args.gap
    (record {
      follows = λ text other at start upto from.
          m.follows kind text other at start c.requires upto from;
      precedes = λ text from at within fresh.
          m.precedes kind text from at c.requires within fresh;
      ends = λ text start end x within is. m.ends kind text start end x c.requires within is;
      none_later = m.none_later;
    }) apart trails block ends none room 0 (omega arith)
