-- Blocks that are read by themselves give the list of the whole text.
use Rattle.std.proofs.Common.{◌≡◌, ℕ, ◌+◌, ◌-◌, ◌<◌, Bool, List, [], ◌∷◌, ◌++◌, length, drop, refl, arith, append_assoc, length-append}
use Rattle.std.specs.Prelude.{Result, All}
use Rattle.std.specs.List.{concat}
use Rattle.std.proofs.lemmas.List.{drop_all}
use Rattle.std.proofs.lemmas.List.Elements.{All-head, All-tail}
use Rattle.digit_literals.specs.declared.list.Gap.{Gap}
use Rattle.digit_literals.specs.declared.list.ListEnd.TheVariants as lists
use Rattle.digit_literals.specs.Lists.{Numbers, list_at}
use Rattle.digit_pieces.specs.declared.piece.PieceEnd.TheVariants.{More, Full, Over, Fault}
use Rattle.digit_pieces.specs.Cuts.{sure_end}
use Rattle.digit_pieces.specs.Pieces.{PieceNumbers, and_more, full_past, list_later}
use Rattle.digit_pieces.specs.Texts.{IsApart, list_of}
use Rattle.digit_pieces.proofs.AsLists.{whole_past}
use Rattle.digit_pieces.proofs.Theorem.{AreNumbers, cut}
use Rattle.digit_blocks.specs.Blocks.{EndsApart, HasRoom, HasRoomForAll, HaveRoom, block_of, joined}
use Rattle.digit_blocks.proofs.Alone.{AsksAt, asks_at_end}
use Rattle.digit_blocks.proofs.Room.{piece_room, same_unless_full, whole_room}

module _ {A E : Type 0} (one : List ℕ → ℕ → Result (A × ℕ) E) (none_at : ℕ → E → Bool)
    (later : ℕ → E → E) (has : ℕ → Bool) (gap : Gap)
    (are : AreNumbers one none_at later has) (apart : IsApart has gap) where
  abbrev of : List ℕ → ℕ → ℕ → Numbers A E
  of text room start = list_of one none_at later has gap text room start

  abbrev of_block : ℕ → List ℕ → PieceNumbers A E
  of_block room block = block_of one none_at later has gap room block

  abbrev of_blocks : ℕ → List (List ℕ) → List ℕ → Numbers A E
  of_blocks room blocks last = joined one none_at later has gap room blocks last

  -- Numbers of a block, and after them those of a text: with room for all of these
  join_same : (block more : List ℕ) (whole : ℕ) (read : PieceNumbers A E) (rest : Numbers A E)
      → HasRoom read.1 → AsksAt (length block) read.1
      → ((room : ℕ) → length rest.0 < room → of more room 0 ≡ rest)
      → length (and_more 0 read (λ _ _. list_later later (length block) rest)).0 < whole
      → and_more whole read (λ left at. list_later later at (of (drop at block ++ more) left 0))
      ≡ and_more 0 read (λ _ _. list_later later (length block) rest)
  join_same block more whole (numbers, More at) (others, end) done there same few =
      let n : length (numbers ++ others) ≡ length numbers + length others =
      length-append numbers others in
      let none : drop at block ≡ [] = drop_all at block (omega (arith, there)) in
      rw (none, same (whole - length numbers) (omega (arith, n, few)), there) refl
  join_same block more whole (numbers, Full at) rest done there same few = absurd done
  join_same block more whole (numbers, Over at) rest done there same few = refl
  join_same block more whole (numbers, Fault error) rest done there same few = refl

  -- a block's numbers are not more than all
  few_first : (block : List ℕ) (whole : ℕ) (read : PieceNumbers A E) (rest : Numbers A E)
      → length (and_more 0 read (λ _ _. list_later later (length block) rest)).0 < whole
      → length read.0 < whole
  few_first block whole (numbers, More at) (others, end) few =
      omega (arith, few, length-append numbers others)
  few_first block whole (numbers, Full at) rest few = few
  few_first block whole (numbers, Over at) rest few = few
  few_first block whole (numbers, Fault error) rest few = few

  all_of : (room : ℕ) (blocks : List (List ℕ)) (last : List ℕ)
      → All (EndsApart gap) blocks → All (λ block. HasRoom (of_block room block).1) blocks
      → HasRoomForAll (of last room 0).1 → (whole : ℕ)
      → length (of_blocks room blocks last).0 < whole
      → of (concat blocks ++ last) whole 0 ≡ of_blocks room blocks last
  unfolding joined
  all_of room [] last ends rooms done whole few =
      whole_room (one last) none_at gap last room whole 0 done few
  all_of room (block ∷ blocks) last ends rooms done whole few =
      let more : List ℕ = concat blocks ++ last in
      let rest : Numbers A E = of_blocks room blocks last in
      let read : PieceNumbers A E = of_block room block in
      let here = All-head (EndsApart gap) block blocks ends in
      let fits = All-head (λ b. HasRoom (of_block room b).1) block blocks rooms in
      let enough = few_first block whole read rest few in
      let same : of_block whole block ≡ read =
      piece_room (one block) none_at gap block (sure_end has block) room whole 0 fits enough in
      rw (
        append_assoc block (concat blocks) last,
        cut one none_at later has gap are apart block more whole,
        same,
      )
      (join_same block more whole read rest fits
      (asks_at_end one none_at later has gap are apart block here room 0 (omega arith))
      (λ left l. all_of room blocks last
      (All-tail (EndsApart gap) block blocks ends)
      (All-tail (λ b. HasRoom (of_block room b).1) block blocks rooms) done left l) few)

  -- ---- the room was enough for all

  later_room : (by : ℕ) (rest : Numbers A E) → HasRoomForAll rest.1
      → HasRoomForAll (list_later later by rest).1
  later_room by (numbers, lists.Full at) done = done
  later_room by (numbers, lists.Over at) done = tt
  later_room by (numbers, lists.Fault error) done = tt

  more_room : (read : PieceNumbers A E) (rest : Numbers A E) → HasRoom read.1
      → HasRoomForAll rest.1 → HasRoomForAll (and_more 0 read (λ _ _. rest)).1
  more_room (numbers, More at) rest has_room done = done
  more_room (numbers, Full at) rest has_room done = absurd has_room
  more_room (numbers, Over at) rest has_room done = tt
  more_room (numbers, Fault error) rest has_room done = tt

  joined_room : (room : ℕ) (blocks : List (List ℕ)) (last : List ℕ)
      → All (λ block. HasRoom (of_block room block).1) blocks
      → HasRoomForAll (of last room 0).1 → HasRoomForAll (of_blocks room blocks last).1
  unfolding joined
  joined_room room [] last rooms done = done
  joined_room room (block ∷ blocks) last rooms done =
      let fits = All-head (λ b. HasRoom (of_block room b).1) block blocks rooms in
      let others = All-tail (λ b. HasRoom (of_block room b).1) block blocks rooms in
      more_room (of_block room block)
      (list_later later (length block) (of_blocks room blocks last)) fits
      (later_room (length block) (of_blocks room blocks last)
      (joined_room room blocks last others done))

  -- ---- the list of the whole text

  pub all_blocks : (room : ℕ) (blocks : List (List ℕ)) (last : List ℕ)
      → All (EndsApart gap) blocks → HaveRoom one none_at later has gap room blocks last
      → (whole : ℕ) → length (of_blocks room blocks last).0 < whole
      → list_at (one (concat blocks ++ last)) none_at gap (concat blocks ++ last) whole 0
      ≡ of_blocks room blocks last
  all_blocks room blocks last ends rooms whole few =
      let text : List ℕ = concat blocks ++ last in
      let read : Numbers A E = of_blocks room blocks last in
      let list : Numbers A E = list_at (one text) none_at gap text whole 0 in
      let same : of text whole 0 ≡ read =
      all_of room blocks last ends rooms.blocks_have rooms.last_has whole few in
      let past : full_past gap text (of text whole 0) ≡ full_past gap text list =
      whole_past (one text) none_at gap text whole 0 in
      same_unless_full (one text) none_at gap text read list
      (joined_room room blocks last rooms.blocks_have rooms.last_has) (rw same at past)
