use Rattle.std.proofs.Common.{◌≡◌, ℕ, ◌++◌, List, drop}
use Rattle.std.specs.List.{concat}
use Rattle.digit_blocks.specs.Blocks.{blocks_at, last_start}
use Rattle.digit_blocks.proofs.Joined.{all_blocks}
use Rattle.digit_blocks.proofs.Positions.{blocks_are, blocks_end}
use Rattle.digit_blocks.proofs.laws.cuts_give_the_list.Goals as goal

pub returns : goal.returns
returns g c =
    let k = g.K.Kind in
    let m = g.met.K.Kind in
    let kind = c.args.kind in
    let gap = c.args.gap in
    λ room whole text cuts apart starts rooms few.
    let blocks : List (List ℕ) = blocks_at text 0 cuts in
    let last : List ℕ = drop (last_start 0 cuts) text in
    let whole_is : concat blocks ++ last ≡ text = blocks_are gap text 0 cuts starts in
    rw whole_is at (all_blocks (k.number_at kind) k.none_at k.error_later (k.has_byte kind) gap
    (record {
      follows = λ text other at start upto from.
          m.follows kind text other at start c.requires upto from;
      precedes = λ text from at within fresh.
          m.precedes kind text from at c.requires within fresh;
      ends = λ text start end x within is. m.ends kind text start end x c.requires within is;
      none_later = m.none_later;
    }) apart room blocks last (blocks_end gap text 0 cuts starts) rooms whole few)
