-- Lists of numbers in a stream. Positions count bytes of the stream.
use Rattle.std.specs.Prelude.{◌≡◌, ◌≢◌, Bool, true, false, ⊤, ℕ, ◌+◌, ◌-◌, ◌^◌, ◌≤◌, ◌⊎◌, nat_lt, if◌then◌else◌, List, [], ◌∷◌, ◌++◌, length, drop, slice_get, Option, None, Some, IfSome, Result, Ok, Err}
use Rattle.std.specs.declared.io.ErrorKind.TheVariants.{Interrupted}
use Rattle.digit_literals.specs.declared.list.Gap.{Gap}
use Rattle.digit_literals.specs.declared.list.ListEnd.{ListEnd}
use Rattle.digit_literals.specs.declared.list.ListEnd.TheVariants as lists
use Rattle.digit_literals.specs.Lists.{Numbers, past_blanks}
use Rattle.digit_literals.specs.Numbers.{has_byte}
use Rattle.digit_pieces.specs.declared.piece.PieceEnd.{PieceEnd}
use Rattle.digit_pieces.specs.declared.piece.PieceEnd.TheVariants as pieces
use Rattle.digit_pieces.specs.Cuts.{sure_end}
use Rattle.digit_pieces.specs.Pieces.{PieceNumbers, is_sure, piece_at, whole_at}
use Rattle.digit_streams.specs.Errors.{may_go_on}
use Rattle.digit_streams.specs.declared.stream.StreamEnd.{StreamEnd}
use Rattle.digit_streams.specs.declared.stream.StreamEnd.TheVariants.{Full, Over, Fault}
use Rattle.digit_streams.specs.declared.stream.StreamError.{StreamError}
use Rattle.digit_streams.specs.declared.stream.StreamError.TheVariants.{Number, NoRoom, Read, TooLong, Trailing}
use Rattle.digit_streams.specs.declared.stream.Ended.{Ended}
use Rattle.digit_streams.specs.declared.stream.Ended.TheVariants as ended
use Rattle.digit_streams.specs.declared.held.Held.{Held}
use Rattle.digit_streams.specs.declared.held.Held.TheVariants as held

-- numbers of a stream, and why there are no more
abbrev pub StreamNumbers : Type 0 → Type 0 → Type 0
StreamNumbers A E = List A × StreamEnd E

-- the end of a list whose text begins at a position of the stream; `later` says it of an error
abbrev pub end_in_stream : {E : Type 0} → (ℕ → E → E) → ℕ → ListEnd E → StreamEnd E
end_in_stream later position (lists.Full at) = Full (position + at)
end_in_stream later position (lists.Over at) = Over (position + at)
end_in_stream later position (lists.Fault error) = Fault (Number (later position error))

-- the list of a text that begins at a position of the stream
abbrev pub in_stream : {A E : Type 0} → (ℕ → E → E) → ℕ → Numbers A E → StreamNumbers A E
in_stream later position (numbers, end) = (numbers, end_in_stream later position end)

-- The numbers of a stream whose bytes from a position on are `text`, as many as there is room for.
-- `one` is the number at a position of a text, and where it ends; or an error.
abbrev pub stream_list : {A E : Type 0} → (List ℕ → ℕ → Result (A × ℕ) E) → (ℕ → E → Bool)
    → (ℕ → E → E) → Gap → ℕ → List ℕ → ℕ → StreamNumbers A E
stream_list one none_at later gap position text room =
    in_stream later position (whole_at (one text) none_at gap text room 0)

-- the end that is answered again
abbrev pub end_again : {E : Type 0} → Ended E → StreamEnd E
end_again (ended.Over at) = Over at
end_again (ended.Fault error) = Fault error

-- what is answered after an end: that again, and no number
abbrev pub after_end : {A E : Type 0} → Option (Ended E) → StreamNumbers A E → StreamNumbers A E
after_end None list = list
after_end (Some ended) list = ([], end_again ended)

-- numbers, and where the room for them was full, those that are read from there on
abbrev pub then_from : {A E : Type 0} → StreamNumbers A E → (ℕ → StreamNumbers A E)
    → StreamNumbers A E
then_from (numbers, Full at) more = (numbers ++ (more at).0, (more at).1)
then_from (numbers, Over at) more = (numbers, Over at)
then_from (numbers, Fault error) more = (numbers, Fault error)

-- what a reader of numbers stands for
pub record Stream (K E : Type 0) : Type 0 where
  pub kind : K
  pub gap : Gap
  -- the position of the first byte that was not used yet
  pub position : ℕ
  -- the bytes from there on that the buffer holds, and all of them, if they are known
  pub held : List ℕ
  pub bytes : Option (List ℕ)
  -- the length of the buffer
  pub capacity : ℕ
  -- whether the reader said that it is at its end
  pub is_over : Bool
  -- an end that is answered again
  pub ended : Option (Ended E)

-- the numbers that a reader gives, if the bytes that were not used yet are these
abbrev pub numbers_of : {K A E : Type 0} → (K → List ℕ → ℕ → Result (A × ℕ) E) → (ℕ → E → Bool)
    → (ℕ → E → E) → Stream K E → List ℕ → ℕ → StreamNumbers A E
numbers_of number_at none_at later s bytes room =
    after_end s.ended
    (stream_list (number_at s.kind) none_at later s.gap s.position bytes room)

-- the first numbers of a list are these
abbrev pub BeginsWith : {A : Type 0} → List A → List A → Type 0
BeginsWith {A} list numbers = (others : List A) × (list ≡ numbers ++ others)

-- why a buffer isn't filled: it is full, or the reader failed; an interrupted one is read again
abbrev pub IsFailure : {E : Type 0} → StreamError E → Type 0
IsFailure (Number error) = ⊥
IsFailure (NoRoom at) = ⊤
IsFailure (Read kind) = kind ≢ Interrupted
IsFailure TooLong = ⊥
IsFailure (Trailing at why) = ⊥

-- These numbers and this end are those of a list. Where the reader failed, or the buffer is too
-- small, the numbers are the first of the list.
abbrev pub Gives : {A E : Type 0} → StreamNumbers A E → List A → StreamEnd E → Type 0
Gives list numbers (Full at) = list ≡ (numbers, Full at)
Gives list numbers (Over at) = list ≡ (numbers, Over at)
Gives list numbers (Fault (Number error)) = list ≡ (numbers, Fault (Number error))
Gives list numbers (Fault (NoRoom at)) = BeginsWith list.0 numbers
Gives list numbers (Fault (Read kind)) = BeginsWith list.0 numbers
Gives list numbers (Fault TooLong) = BeginsWith list.0 numbers
Gives list numbers (Fault (Trailing at why)) = BeginsWith list.0 numbers

-- a list has these numbers, and then others
abbrev pub GoesOn : {A E : Type 0} → StreamNumbers A E → List A → StreamNumbers A E → Type 0
GoesOn list numbers others = list ≡ (numbers ++ others.0, others.1)

-- bytes of a text that begins at a position were used, those up to another position
pub record Uses (from to : ℕ) (old new : List ℕ) : Type 0 where
  pub onward : from ≤ to
  pub within : to - from ≤ length old
  pub rest : new ≡ drop (to - from) old

-- the same of a text that is known
abbrev pub UsesKnown : ℕ → ℕ → Option (List ℕ) → Option (List ℕ) → Type 0
UsesKnown from to None new = ⊤
UsesKnown from to (Some old) None = ⊥
UsesKnown from to (Some old) (Some new) = Uses from to old new

-- the end of a piece that begins at a position of the stream
abbrev pub held_of : {E : Type 0} → (ℕ → E → E) → ℕ → PieceEnd E → Held E
held_of later position (pieces.More at) = held.More
held_of later position (pieces.Full at) = held.End (Full (position + at))
held_of later position (pieces.Over at) = held.End (Over (position + at))
held_of later position (pieces.Fault error) = held.End (Fault (Number (later position error)))

-- Where the numbers end is the position after the bytes that were used. There is no room for a
-- number only if the whole buffer holds bytes that were not used.
abbrev pub IsPlace : {E : Type 0} → StreamEnd E → (position capacity held : ℕ) → Type 0
IsPlace (Full at) position capacity held = at ≡ position
IsPlace (Over at) position capacity held = at ≡ position
IsPlace (Fault (Number error)) position capacity held = ⊤
IsPlace (Fault (NoRoom at)) position capacity held = (at ≡ position) × (capacity ≤ held)
IsPlace (Fault (Read kind)) position capacity held = ⊤
IsPlace (Fault TooLong) position capacity held = ⊤
IsPlace (Fault (Trailing at why)) position capacity held = ⊥

-- the numbers of the bytes that a buffer holds, as many as there is room for
abbrev pub held_piece : {A E : Type 0} → (List ℕ → ℕ → Result (A × ℕ) E) → (ℕ → E → Bool)
    → (ℕ → Bool) → Gap → List ℕ → Bool → ℕ → PieceNumbers A E
held_piece one none_at has gap text is_last room =
    piece_at (one text) none_at gap text (sure_end has text) is_last room 0

-- a piece has these numbers, and the bytes after those that are used are needed again
abbrev pub AsksFor : {A E : Type 0} → (List ℕ → ℕ → Result (A × ℕ) E) → (ℕ → E → Bool)
    → (ℕ → Bool) → Gap → List ℕ → Bool → ℕ → List A → ℕ → Type 0
AsksFor one none_at has gap text is_last room numbers used =
    held_piece one none_at has gap text is_last room ≡ (numbers, pieces.More used)

-- the next number of a text that goes on is not sure: it touches the end, or the blanks after it do
abbrev pub NeedsMore : {A E : Type 0} → (List ℕ → ℕ → Result (A × ℕ) E) → (ℕ → E → Bool)
    → (ℕ → Bool) → Gap → List ℕ → Type 0
NeedsMore one none_at has gap text = AsksFor one none_at has gap text false 1 [] 0

-- a fact, if there is no room
abbrev pub IfNoRoom : {E : Type 0} → StreamEnd E → Type 0 → Type 0
IfNoRoom (Full at) P = ⊤
IfNoRoom (Over at) P = ⊤
IfNoRoom (Fault (Number error)) P = ⊤
IfNoRoom (Fault (NoRoom at)) P = P
IfNoRoom (Fault (Read kind)) P = ⊤
IfNoRoom (Fault TooLong) P = ⊤
IfNoRoom (Fault (Trailing at why)) P = ⊤

-- These bytes are what was left of a piece that was read: no number in them was sure.
abbrev pub IsLeft : {A E : Type 0} → (List ℕ → ℕ → Result (A × ℕ) E) → (ℕ → E → Bool)
    → (ℕ → Bool) → Gap → List ℕ → Type 0
IsLeft {A} one none_at has gap left =
    (text : List ℕ) × (room : ℕ) × (numbers : List A) × (used : ℕ)
    × AsksFor one none_at has gap text false room numbers used × (left ≡ drop used text)

-- a fact of the error with which a piece ends
abbrev pub IsPieceFault : {E : Type 0} → PieceEnd E → (E → Type 0) → Type 0
IsPieceFault (pieces.More at) P = ⊥
IsPieceFault (pieces.Full at) P = ⊥
IsPieceFault (pieces.Over at) P = ⊥
IsPieceFault (pieces.Fault error) P = P error

-- A position is above `u64::MAX`, or nearly: that after these bytes, which begin at a position, or
-- that of the error with which they end.
abbrev pub IsTooLong : {A E : Type 0} → (List ℕ → ℕ → Result (A × ℕ) E) → (ℕ → E → Bool)
    → (E → ℕ) → (ℕ → Bool) → Gap → ℕ → List ℕ → Type 0
IsTooLong one none_at error_at has gap position text =
    (2 ^ 64 ≤ position + length text + 2)
    ⊎ ((is_last : Bool) × (room : ℕ) × IsPieceFault
    (held_piece one none_at has gap text is_last room).1
    (λ error. 2 ^ 64 ≤ position + error_at error))

-- When a reader fails, or a position is too large. The buffer holds these bytes, which begin at a
-- position.
abbrev pub HasReason : {A E : Type 0} → (List ℕ → ℕ → Result (A × ℕ) E) → (ℕ → E → Bool)
    → (E → ℕ) → (ℕ → Bool) → Gap → StreamEnd E → ℕ → List ℕ → Type 0
HasReason one none_at error_at has gap (Full at) position text = ⊤
HasReason one none_at error_at has gap (Over at) position text = ⊤
HasReason one none_at error_at has gap (Fault (Number error)) position text = ⊤
HasReason one none_at error_at has gap (Fault (NoRoom at)) position text = ⊤
HasReason one none_at error_at has gap (Fault (Read kind)) position text =
    (kind ≢ Interrupted) × IsLeft one none_at has gap text
HasReason one none_at error_at has gap (Fault TooLong) position text =
    IsTooLong one none_at error_at has gap position text
HasReason one none_at error_at has gap (Fault (Trailing at why)) position text = ⊥

-- Where a piece ends. It has no reason of a reader; a position may be too large, if `Long`.
abbrev pub IsHeldPlace : {E : Type 0} → Held E → ℕ → Type 0 → Type 0
IsHeldPlace held.More position Long = ⊤
IsHeldPlace (held.End (Full at)) position Long = at ≡ position
IsHeldPlace (held.End (Over at)) position Long = at ≡ position
IsHeldPlace (held.End (Fault (Number error))) position Long = ⊤
IsHeldPlace (held.End (Fault (NoRoom at))) position Long = ⊥
IsHeldPlace (held.End (Fault (Read kind))) position Long = ⊥
IsHeldPlace (held.End (Fault TooLong)) position Long = Long
IsHeldPlace (held.End (Fault (Trailing at why))) position Long = ⊥

-- a fact, if a piece ends with an error
abbrev pub IfHeldFault : {E : Type 0} → Held E → Type 0 → Type 0
IfHeldFault held.More P = ⊤
IfHeldFault (held.End (Full at)) P = ⊤
IfHeldFault (held.End (Over at)) P = ⊤
IfHeldFault (held.End (Fault error)) P = P

-- the end that is answered from then on, if the next call doesn't go on
abbrev pub ended_by : {E : Type 0} → StreamEnd E → Option (Ended E)
ended_by (Full at) = None
ended_by (Over at) = Some (ended.Over at)
ended_by (Fault error) = if may_go_on error then None else Some (ended.Fault error)

-- Of these numbers the last come again: the list is the first, and then what others are.
pub record ComeAgain {A E : Type 0} (list : StreamNumbers A E) (numbers : List A)
    (others : ℕ → StreamNumbers A E) : Type 0 where
  pub first : List A
  pub again : List A
  pub are : numbers ≡ first ++ again
  pub on : GoesOn list first (others (length first))

-- Where a list goes on after an error: after its numbers, if the reader failed or the buffer is too
-- small; otherwise some of them come again. `others` is the list from there on, after so many.
abbrev pub StandsAfter : {A E : Type 0} → StreamNumbers A E → List A → StreamEnd E
    → (ℕ → StreamNumbers A E) → Type 0
StandsAfter list numbers (Full at) others = ⊤
StandsAfter list numbers (Over at) others = ⊤
StandsAfter list numbers (Fault (Number error)) others = ComeAgain list numbers others
StandsAfter list numbers (Fault (NoRoom at)) others = GoesOn list numbers (others (length numbers))
StandsAfter list numbers (Fault (Read kind)) others = GoesOn list numbers (others (length numbers))
StandsAfter list numbers (Fault TooLong) others = ComeAgain list numbers others
StandsAfter list numbers (Fault (Trailing at why)) others = ⊤

-- a fact, if there is an error
abbrev pub IfEndsFault : {E : Type 0} → StreamEnd E → Type 0 → Type 0
IfEndsFault (Full at) P = ⊤
IfEndsFault (Over at) P = ⊤
IfEndsFault (Fault error) P = P

-- What `next_number` answers, of a list for which there is one place: its number; none, if it is
-- over; or why there is none.
abbrev pub IsNext : {V A E : Type 0} → (V → A) → StreamNumbers A E
    → Option (Result V (StreamError E)) → Type 0
IsNext meaning list None = (at : ℕ) × (list ≡ ([], Over at))
IsNext meaning list (Some (Ok x)) = list.0 ≡ meaning x ∷ []
IsNext meaning list (Some (Err (Number error))) = list ≡ ([], Fault (Number error))
IsNext meaning list (Some (Err (NoRoom at))) = ⊤
IsNext meaning list (Some (Err (Read kind))) = ⊤
IsNext meaning list (Some (Err TooLong)) = ⊤
IsNext meaning list (Some (Err (Trailing at why))) = ⊤

-- the same of what `next_number` answers
abbrev pub IsPlaceOfNext : {V E : Type 0} → Option (Result V (StreamError E))
    → (position capacity held : ℕ) → Type 0
IsPlaceOfNext None position capacity held = ⊤
IsPlaceOfNext (Some (Ok x)) position capacity held = ⊤
IsPlaceOfNext (Some (Err error)) position capacity held =
    IsPlace (Fault error) position capacity held

abbrev pub IfNoRoomOfNext : {V E : Type 0} → Option (Result V (StreamError E)) → Type 0 → Type 0
IfNoRoomOfNext None P = ⊤
IfNoRoomOfNext (Some (Ok x)) P = ⊤
IfNoRoomOfNext (Some (Err error)) P = IfNoRoom (Fault error) P

-- What `next_number` answers from then on: after no number that again, and after an error that,
-- unless the next call goes on.
abbrev pub EndsSo : {V E : Type 0} → Option (Result V (StreamError E)) → Option (Ended E) → Type 0
EndsSo None after = (at : ℕ) × (after ≡ Some (ended.Over at))
EndsSo (Some (Ok x)) after = ⊤
EndsSo (Some (Err error)) after = may_go_on error ≡ false → after ≡ Some (ended.Fault error)

-- what `next_number` answers of a number, or why there is none
abbrev pub next_of : {V E : Type 0} → Option V → StreamEnd E → Option (Result V (StreamError E))
next_of (Some x) end = Some (Ok x)
next_of None (Full at) = None
next_of None (Over at) = None
next_of None (Fault error) = Some (Err error)

-- The numbers of what `next_number` answered, and how they end, as `read_into` tells them of one
-- place: by the position and the end that is answered from then on.
abbrev pub numbers_of_next : {V A E : Type 0} → (V → A) → Option (Result V (StreamError E))
    → List A
numbers_of_next meaning None = []
numbers_of_next meaning (Some (Ok x)) = meaning x ∷ []
numbers_of_next meaning (Some (Err error)) = []

abbrev pub end_of_next : {V E : Type 0} → Option (Result V (StreamError E)) → ℕ → Option (Ended E)
    → StreamEnd E
end_of_next None position after = Over position
end_of_next (Some (Ok x)) position None = Full position
end_of_next (Some (Ok x)) position (Some ended) = end_again ended
end_of_next (Some (Err error)) position after = Fault error

-- what `next_number` answers after an end
abbrev pub next_again : {V E : Type 0} → Ended E → Option (Result V (StreamError E))
next_again (ended.Over at) = None
next_again (ended.Fault error) = Some (Err error)

-- how many bytes of a piece are used at its end
abbrev pub used : {E : Type 0} → PieceEnd E → ℕ
used (pieces.More at) = at
used (pieces.Full at) = at
used (pieces.Over at) = at
used (pieces.Fault error) = 0

-- the position to which a piece was read: at its end, or that of its error
abbrev pub reach : {E : Type 0} → (E → ℕ) → PieceEnd E → ℕ
reach error_at (pieces.More at) = at
reach error_at (pieces.Full at) = at
reach error_at (pieces.Over at) = at
reach error_at (pieces.Fault error) = error_at error

-- a list has these numbers; and where more bytes are needed, then others
abbrev pub ReadsOn : {A E : Type 0} → StreamNumbers A E → List A → Held E → StreamNumbers A E
    → Type 0
ReadsOn list numbers held.More others = GoesOn list numbers others
ReadsOn list numbers (held.End end) others = Gives list numbers end

-- the number that was read, if there is one
abbrev pub list_of_option : {V A : Type 0} → (V → A) → Option V → List A
list_of_option meaning None = []
list_of_option meaning (Some x) = meaning x ∷ []

-- a fact, unless there was an error
abbrev pub IfNoFault : {E : Type 0} → Option (Ended E) → Type 0 → Type 0
IfNoFault None P = P
IfNoFault (Some (ended.Over at)) P = P
IfNoFault (Some (ended.Fault error)) P = ⊤

-- a fact of the position where a stream goes on after its numbers
abbrev pub IfTrailing : {E : Type 0} → StreamError E → (ℕ → Type 0) → Type 0
IfTrailing (Number error) P = ⊤
IfTrailing (NoRoom at) P = ⊤
IfTrailing (Read kind) P = ⊤
IfTrailing TooLong P = ⊤
IfTrailing (Trailing at why) P = P at

-- a fact of why no number begins where a stream goes on after its numbers
abbrev pub IfReason : {E : Type 0} → StreamError E → (Option E → Type 0) → Type 0
IfReason (Number error) P = ⊤
IfReason (NoRoom at) P = ⊤
IfReason (Read kind) P = ⊤
IfReason TooLong P = ⊤
IfReason (Trailing at why) P = P why

-- why there is no number of a text that begins at a position of the stream: its error with its
-- position in the stream, if that is at most `u64::MAX`
abbrev pub why_none : {A E : Type 0} → (E → ℕ) → (ℕ → E → E) → ℕ → Result (A × ℕ) E → Option E
why_none error_at later position (Ok number) = None
why_none error_at later position (Err error) =
    if nat_lt (position + error_at error) (2 ^ 64) then Some (later position error) else None

-- why no number begins at the front of such a text, past its blanks
abbrev pub reason_of : {A E : Type 0} → (List ℕ → ℕ → Result (A × ℕ) E) → (E → ℕ) → (ℕ → E → E)
    → Gap → ℕ → List ℕ → Option E
reason_of one error_at later gap position text =
    why_none error_at later position (one text (past_blanks gap text 0))

-- The same of the bytes that a buffer holds, if it stays, whatever follows them: the reader is at
-- its end, or a byte there ends every number.
abbrev pub reason_held : {A E : Type 0} → (List ℕ → ℕ → Result (A × ℕ) E) → (E → ℕ)
    → (ℕ → E → E) → (ℕ → Bool) → Gap → ℕ → List ℕ → Bool → Option E
reason_held one error_at later has gap position text is_last =
    if is_sure is_last (sure_end has text) (past_blanks gap text 0)
    then reason_of one error_at later gap position text else None

-- Why it isn't known whether a stream goes on after its numbers: the buffer holds nothing, and has
-- no place, or the reader failed. No other error is answered, but for `Trailing`.
abbrev pub IsUnknown : {E : Type 0} → StreamError E → (position capacity : ℕ) → (held : List ℕ)
    → Type 0
IsUnknown (Number error) position capacity held = ⊥
IsUnknown (NoRoom at) position capacity held = (at ≡ position) × (capacity ≡ 0)
IsUnknown (Read kind) position capacity held = (held ≡ []) × (kind ≢ Interrupted)
IsUnknown TooLong position capacity held = ⊥
IsUnknown (Trailing at why) position capacity held = ⊤

-- a fact of the error that is answered again
abbrev pub IfFault : {E : Type 0} → Ended E → (StreamError E → Type 0) → Type 0
IfFault (ended.Over at) P = ⊤
IfFault (ended.Fault error) P = P error

-- how the numbers so far end: there is room for more, or an end is answered again
abbrev pub end_by : {E : Type 0} → ℕ → Option (Ended E) → StreamEnd E
end_by position None = Full position
end_by position (Some ended) = end_again ended

-- A list that is over is over at this position. No error says that bytes trail.
abbrev pub IsHere : {E : Type 0} → StreamEnd E → ℕ → Type 0
IsHere (Full at) position = ⊤
IsHere (Over at) position = at ≡ position
IsHere (Fault error) position = IfTrailing error (λ at. ⊥)

-- What a reader gave of a stream, whose bytes from `start` on are known or not: the numbers of the
-- list that begins at `from`, up to an end. It is at a position, and these bytes are left.
pub record HasGivenFrom {A E : Type 0} (start from : ℕ)
    (list : ℕ → List ℕ → ℕ → StreamNumbers A E) (known : Option (List ℕ)) (numbers : List A)
    (end : StreamEnd E) (position : ℕ) (bytes : Option (List ℕ)) : Type 0 where
  pub order : IfSome known (λ text. (start ≤ from) × (from ≤ position))
  pub uses : UsesKnown start position known bytes
  pub gives : IfSome known (λ text. (room : ℕ)
      × Gives (list from (drop (from - start) text) room) numbers end)
  pub here : IsHere end position

-- the same of the list that begins at the start of the stream
pub record HasGiven {A E : Type 0} (list : List ℕ → ℕ → StreamNumbers A E)
    (known : Option (List ℕ)) (numbers : List A) (end : StreamEnd E) (position : ℕ)
    (bytes : Option (List ℕ)) : Type 0 where
  pub uses : UsesKnown 0 position known bytes
  pub gives : IfSome known (λ text. (room : ℕ) × Gives (list text room) numbers end)
  pub here : IsHere end position

-- From a position of a text on, a byte is looked for after blanks. The blanks are used, with the
-- byte if it is found there: `end` is the position after them.
pub record Passes (gap : Gap) (byte : ℕ) (text : List ℕ) (from : ℕ) (found : Bool) (end : ℕ)
    : Type 0 where
  pub is : has_byte text (past_blanks gap text from) byte ≡ found
  pub to : end ≡ past_blanks gap text from + (if found then 1 else 0)

-- the byte after the blanks that a text begins with, which are so many
pub record IsNextByte (gap : Gap) (text : List ℕ) (count : ℕ) (next : Option ℕ) : Type 0 where
  pub blanks : past_blanks gap text 0 ≡ count
  pub is : slice_get text count ≡ next

-- the first so many bytes of a text are blanks that it begins with
abbrev pub SkipsBlanks : Gap → List ℕ → ℕ → Type 0
SkipsBlanks gap text used = past_blanks gap text 0 ≡ used + past_blanks gap (drop used text) 0

-- Why it isn't known which byte is next: the buffer has no place, or the reader failed, or a
-- position is above `u64::MAX`, or nearly.
abbrev pub IsNoByte : {E : Type 0} → StreamError E → (position capacity : ℕ) → (held : List ℕ)
    → Type 0
IsNoByte (Number error) position capacity held = ⊥
IsNoByte (NoRoom at) position capacity held = (at ≡ position) × (capacity ≡ 0)
IsNoByte (Read kind) position capacity held = (held ≡ []) × (kind ≢ Interrupted)
IsNoByte TooLong position capacity held = 2 ^ 64 ≤ position + length held + 2
IsNoByte (Trailing at why) position capacity held = ⊥

-- the end that is answered after a byte was looked for: none, if it was there
abbrev pub ended_after : {E : Type 0} → Result Bool (StreamError E) → Option (Ended E)
    → Option (Ended E)
ended_after (Ok true) before = None
ended_after (Ok false) before = before
ended_after (Err error) before = before
