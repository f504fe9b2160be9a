-- A text that is cut into blocks, each of which is read by itself.
use Rattle.std.specs.Prelude.{◌≡◌, ⊤, ◌⊎◌, ℕ, suc, ◌+◌, ◌-◌, ◌≤◌, true, if◌then◌else◌, List, [], ◌∷◌, length, take, drop, slice_get, All, Bool, Result, Err}
use Rattle.lexical_digits.specs.ByteSet.{accepts}
use Rattle.lexical_digits.specs.Cursor.{holds_of}
use Rattle.lexical_digits.specs.declared.ops.ByteSet.{ByteSet}
use Rattle.digit_literals.specs.declared.list.Gap.{Gap}
use Rattle.digit_literals.specs.declared.list.ListEnd.{ListEnd}
use Rattle.digit_literals.specs.declared.list.ListEnd.TheVariants as lists
use Rattle.digit_literals.specs.Lists.{Numbers}
use Rattle.digit_pieces.specs.declared.piece.PieceEnd.{PieceEnd}
use Rattle.digit_pieces.specs.declared.piece.PieceEnd.TheVariants.{More, Full, Over, Fault}
use Rattle.lexical_digits.specs.Moves.{byte_before}
use Rattle.digit_pieces.specs.Pieces.{PieceNumbers, and_more, is_of_blanks, list_later}
use Rattle.digit_pieces.specs.Texts.{list_of, piece_of}

-- ---- where a text may be cut

-- the bytes with which a block may end: those that separate; where blanks alone separate, these
abbrev pub ends_of : Gap → ByteSet
ends_of gap = if is_of_blanks gap then gap.blanks else gap.separators

-- whether such a byte is at a position
abbrev pub may_end : Gap → List ℕ → ℕ → Bool
may_end gap text at = holds_of (accepts (ends_of gap)) (slice_get text at)

-- a block is empty, or ends with such a byte
abbrev pub EndsApart : Gap → List ℕ → Type 0
EndsApart gap block = (last : ℕ) → suc last ≡ length block → may_end gap block last ≡ true

-- where a block may begin: where the text does, or after such a byte
abbrev pub IsStart : Gap → List ℕ → ℕ → Type 0
IsStart gap text at =
    (at ≡ 0) ⊎ (holds_of (accepts (ends_of gap)) (byte_before text at) ≡ true)

-- positions in a text, in order, where blocks may begin
abbrev pub AreStarts : Gap → List ℕ → ℕ → List ℕ → Type 0
AreStarts gap text from [] = ⊤
AreStarts gap text from (to ∷ more) =
    (from ≤ to) × (to ≤ length text) × IsStart gap text to × AreStarts gap text to more

-- the blocks from a position on, each up to the next of these; and where the last one begins
unfoldable pub blocks_at : List ℕ → ℕ → List ℕ → List (List ℕ)
blocks_at text from [] = []
blocks_at text from (to ∷ more) = take (to - from) (drop from text) ∷ blocks_at text to more

unfoldable pub last_start : ℕ → List ℕ → ℕ
last_start from [] = from
last_start from (to ∷ more) = last_start to more

-- ---- how a block ends

-- the room was enough
abbrev pub HasRoom : {E : Type 0} → PieceEnd E → Type 0
HasRoom (More at) = ⊤
HasRoom (Full at) = ⊥
HasRoom (Over at) = ⊤
HasRoom (Fault error) = ⊤

abbrev pub HasRoomForAll : {E : Type 0} → ListEnd E → Type 0
HasRoomForAll (lists.Full at) = ⊥
HasRoomForAll (lists.Over at) = ⊤
HasRoomForAll (lists.Fault error) = ⊤

-- an end with its position so much later; `later` says it of an error
abbrev pub piece_later : {E : Type 0} → (ℕ → E → E) → ℕ → PieceEnd E → PieceEnd E
piece_later later by (More at) = More (by + at)
piece_later later by (Full at) = Full (by + at)
piece_later later by (Over at) = Over (by + at)
piece_later later by (Fault error) = Fault (later by error)

-- the position that an end holds
abbrev pub reach : {E : Type 0} → (E → ℕ) → PieceEnd E → ℕ
reach error_at (More at) = at
reach error_at (Full at) = at
reach error_at (Over at) = at
reach error_at (Fault error) = error_at error

-- the end of a block as that of the list that it is
abbrev pub as_list : {A E : Type 0} → PieceNumbers A E → Numbers A E
as_list (numbers, More at) = (numbers, lists.Over at)
as_list (numbers, Full at) = (numbers, lists.Full at)
as_list (numbers, Over at) = (numbers, lists.Over at)
as_list (numbers, Fault error) = (numbers, lists.Fault error)

-- no number is where a text ends, and the error says so
abbrev pub HasNoneAtEnd : {A E : Type 0} → (List ℕ → ℕ → Result (A × ℕ) E) → (ℕ → E → Bool)
    → List ℕ → Type 0
HasNoneAtEnd {A} {E} one none_at text =
    (error : E) × (one text (length text) ≡ Err error) × (none_at (length text) error ≡ true)

-- ---- blocks together

module _ {A E : Type 0} (one : List ℕ → ℕ → Result (A × ℕ) E) (none_at : ℕ → E → Bool)
    (later : ℕ → E → E) (has : ℕ → Bool) (gap : Gap) where
  -- what is read of a block by itself, with room for so many numbers
  abbrev pub block_of : ℕ → List ℕ → PieceNumbers A E
  block_of room block = piece_of one none_at later has gap block room 0

  -- What is read of blocks, each by itself, and of the last: one after the other up to the first
  -- in which the list ends, each with positions later by the lengths of those before it.
  unfoldable pub joined : ℕ → List (List ℕ) → List ℕ → Numbers A E
  joined room [] last = list_of one none_at later has gap last room 0
  joined room (block ∷ blocks) last =
      and_more 0 (block_of room block)
      (λ _ _. list_later later (length block) (joined room blocks last))

  -- no block was short of room
  pub record HaveRoom (room : ℕ) (blocks : List (List ℕ)) (last : List ℕ) : Type 0 where
    pub blocks_have : All (λ block. HasRoom (block_of room block).1) blocks
    pub last_has : HasRoomForAll (list_of one none_at later has gap last room 0).1
