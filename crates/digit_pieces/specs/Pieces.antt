-- A list of numbers in a piece of a text: what may be read before the rest of the text is there.
use Rattle.std.specs.Prelude.{◌≡◌, ℕ, zero, suc, ◌+◌, ◌-◌, ◌==◌, Bool, ◌&&◌, ◌||◌, nat_lt, if◌then◌else◌, List, [], ◌∷◌, ◌++◌, length, map, take, drop, Result, Ok, Err}
use Rattle.digit_literals.specs.declared.list.Gap.{Gap}
use Rattle.digit_literals.specs.declared.list.ListEnd.{ListEnd}
use Rattle.digit_literals.specs.declared.list.ListEnd.TheVariants as lists
use Rattle.digit_literals.specs.Lists.{Numbers, past_blanks, next_after, no_number, before}
use Rattle.digit_pieces.specs.declared.piece.PieceEnd.{PieceEnd}
use Rattle.digit_pieces.specs.declared.piece.PieceEnd.TheVariants.{More, Full, Over, Fault}
use Rattle.digit_pieces.specs.declared.piece.PieceRead.{PieceRead}

-- the end of a list as that of a piece
abbrev pub of_list : {E : Type 0} → ListEnd E → PieceEnd E
of_list (lists.Full at) = Full at
of_list (lists.Over at) = Over at
of_list (lists.Fault error) = Fault error

-- numbers of a piece, and why there are no more
abbrev pub PieceNumbers : Type 0 → Type 0 → Type 0
PieceNumbers A E = List A × PieceEnd E

-- an end with its position so much later; `later` says it of an error
abbrev pub end_later : {E : Type 0} → (ℕ → E → E) → ℕ → ListEnd E → ListEnd E
end_later later by (lists.Full at) = lists.Full (by + at)
end_later later by (lists.Over at) = lists.Over (by + at)
end_later later by (lists.Fault error) = lists.Fault (later by error)

module _ {A E : Type 0} where
  -- a number and others
  abbrev pub and_others : A → PieceNumbers A E → PieceNumbers A E
  and_others x (others, end) = (x ∷ others, end)

  -- numbers with positions so much later
  abbrev pub list_later : (ℕ → E → E) → ℕ → Numbers A E → Numbers A E
  list_later later by (numbers, end) = (numbers, end_later later by end)

  -- numbers of a piece, and where it asks for more of the text, those that are read from there on
  -- with the room that is left
  abbrev pub and_more : ℕ → PieceNumbers A E → (ℕ → ℕ → Numbers A E) → Numbers A E
  and_more room (numbers, More at) more =
      let others = more (room - length numbers) at in (numbers ++ others.0, others.1)
  and_more room (numbers, Full at) more = (numbers, lists.Full at)
  and_more room (numbers, Over at) more = (numbers, lists.Over at)
  and_more room (numbers, Fault error) more = (numbers, lists.Fault error)

-- numbers of a piece, and where the room for them was full, those that are read from there on
abbrev pub and_full : {A E : Type 0} → PieceNumbers A E → (ℕ → PieceNumbers A E) → PieceNumbers A E
and_full (numbers, More at) more = (numbers, More at)
and_full (numbers, Full at) more = (numbers ++ (more at).0, (more at).1)
and_full (numbers, Over at) more = (numbers, Over at)
and_full (numbers, Fault error) more = (numbers, Fault error)

-- a list as numbers of a piece
abbrev pub as_piece : {A E : Type 0} → Numbers A E → PieceNumbers A E
as_piece (numbers, end) = (numbers, of_list end)

-- a list whose `Full` is past the blanks at its position
abbrev pub full_past : {A E : Type 0} → Gap → List ℕ → Numbers A E → Numbers A E
full_past gap text (numbers, lists.Full at) = (numbers, lists.Full (past_blanks gap text at))
full_past gap text (numbers, lists.Over at) = (numbers, lists.Over at)
full_past gap text (numbers, lists.Fault error) = (numbers, lists.Fault error)

-- whether the outcome at a position stays
abbrev pub is_sure : Bool → ℕ → ℕ → Bool
is_sure is_last sure at = is_last || nat_lt at sure

-- whether blanks alone separate: no byte is a separator
abbrev pub is_of_blanks : Gap → Bool
is_of_blanks gap = gap.blanks_separate && gap.separators.low == 0 && gap.separators.high == 0

-- Where the next number may be, after the number that ends at a position: as in a list, but that
-- one blank is enough where blanks alone separate.
abbrev pub next_start : Gap → List ℕ → ℕ → Result ℕ ℕ
next_start gap text end =
    if is_of_blanks gap && nat_lt end (past_blanks gap text end) then Ok (end + 1)
    else next_after gap text end

-- whether it stays what follows the number that ends at a position: a byte of the piece is there
-- that is no blank; any byte, where blanks alone separate
abbrev pub is_parted : Gap → List ℕ → Bool → ℕ → Bool
is_parted gap text is_last end =
    is_last || is_of_blanks gap && nat_lt end (length text)
    || nat_lt (past_blanks gap text end) (length text)

-- The numbers of a whole text that may come in pieces: its list, but that `Full` is after one blank
-- where blanks alone separate, however many follow.
module _ {A E : Type 0} (one : ℕ → Result (A × ℕ) E) (none_at : ℕ → E → Bool) (gap : Gap)
    (text : List ℕ) where
  abbrev pub after_of_whole : (ℕ → Numbers A E) → A → Result ℕ ℕ → Numbers A E
  after_of_whole others x (Ok next) = before x (others next)
  after_of_whole others x (Err over) = (x ∷ [], lists.Over over)

  abbrev pub from_of_whole : (ℕ → Numbers A E) → ℕ → Result (A × ℕ) E → Numbers A E
  from_of_whole others place (Ok (x, end)) = after_of_whole others x (next_start gap text end)
  from_of_whole others place (Err error) = ([], no_number gap place (none_at place error) error)

  unfoldable pub whole_at : ℕ → ℕ → Numbers A E
  whole_at zero start = ([], lists.Full start)
  whole_at (suc room) start =
      from_of_whole (whole_at room) (past_blanks gap text start)
      (one (past_blanks gap text start))

-- The numbers of a piece, as many as there is room for. `one` is the number at a position, and
-- where it ends; or an error. `none_at` is whether an error says that no number begins at a
-- position. What `one` answers before `sure` stays, whatever follows the piece.
module _ {A E : Type 0} (one : ℕ → Result (A × ℕ) E) (none_at : ℕ → E → Bool) (gap : Gap)
    (text : List ℕ) (sure : ℕ) (is_last : Bool) where
  abbrev pub after_number : (ℕ → PieceNumbers A E) → A → Result ℕ ℕ → PieceNumbers A E
  after_number others x (Ok next) = and_others x (others next)
  after_number others x (Err over) = (x ∷ [], Over over)

  abbrev pub from_number : (ℕ → PieceNumbers A E) → ℕ → Result (A × ℕ) E → PieceNumbers A E
  from_number others place (Ok (x, end)) =
      if is_parted gap text is_last end then after_number others x (next_start gap text end)
      else ([], More place)
  from_number others place (Err error) =
      ([], of_list (no_number gap place (none_at place error) error))

  unfoldable pub piece_at : ℕ → ℕ → PieceNumbers A E
  piece_at zero start = ([], Full start)
  piece_at (suc room) start =
      let place = past_blanks gap text start in
      if is_sure is_last sure place then from_number (piece_at room) place (one place)
      else ([], More place)

-- the front of a slice has these numbers, and its rest is what it was
pub record FillsPiece {V A E : Type 0} (value : V → A) (list : PieceNumbers A E)
    (read : PieceRead E) (old new : List V) : Type 0 where
  pub numbers : map value (take read.count new) ≡ list.0
  pub count : read.count ≡ length list.0
  pub end : read.end ≡ list.1
  pub rest : drop read.count new ≡ drop read.count old
  pub same_length : length new ≡ length old

-- Of loops that no caller sees: before the turn with this index, which begins here, the slice has
-- the first numbers, and the piece from here on the others. No public clause uses this word.
module _ {V A E : Type 0} (value : V → A) (one : ℕ → Result (A × ℕ) E) (none_at : ℕ → E → Bool)
    (gap : Gap) (text : List ℕ) (sure : ℕ) (is_last : Bool) where
  pub record SoFar (start i at : ℕ) (old new : List V) : Type 0 where
    pub numbers : map value (take i new)
        ++ (piece_at one none_at gap text sure is_last (length old - i) at).0
        ≡ (piece_at one none_at gap text sure is_last (length old) start).0
    pub end : (piece_at one none_at gap text sure is_last (length old - i) at).1
        ≡ (piece_at one none_at gap text sure is_last (length old) start).1
    pub rest : drop i new ≡ drop i old
    pub same_length : length new ≡ length old

-- a fact for one end, with its position
abbrev pub IfAt : {E : Type 0} → PieceEnd E → (ℕ → Type 0) → Type 0
IfAt (More at) P = P at
IfAt (Full at) P = P at
IfAt (Over at) P = P at
IfAt (Fault error) P = Unit {0}
