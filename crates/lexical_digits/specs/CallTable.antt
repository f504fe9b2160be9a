-- The call table: what each call answers, and the state that it leaves. No row loops.
use Rattle.std.specs.Prelude.{◌≡◌, ℕ, ◌+◌, ◌<◌, ◌==◌, ◌||◌, Bool, true, false, if◌then◌else◌, nat_lt, nat_le, List, [], ◌∷◌, length, drop, count_by, slice_get, slice_index, Option, Some, None, is_none, is_some, MatchOption, option_copied}
use Rattle.std.specs.Borrow.{Bor}
use Rattle.std.specs.Int.{w32, w64}
use Rattle.std.specs.Iterator.{YieldsFirstRef}
use Rattle.lexical_format.specs.Word.{separator}
use Rattle.lexical_digits.specs.declared.skip.component.Component.{Component}
use Rattle.lexical_digits.specs.declared.skip.component.Component.TheVariants.{Integer, Fraction, Exponent, Special}
pub use Rattle.lexical_digits.specs.declared.ops.Op.{Op}
pub use Rattle.lexical_digits.specs.declared.ops.Op.TheVariants.{AsSlice, GetBuffer, BufferLength, Cursor, CurrentCount, IsBufferEmpty, IsContiguous, SetCursor, StepBy, Step, First, FirstIsCased, FirstIsUncased, FirstIs, PeekU32, PeekU64, IsConsumed, IncrementCount, Peek, TryRead, Next, PeekIsCased, PeekIsUncased, PeekIs, ReadIfEqual, ReadIfNever, ReadIf, ReadIfValueCased, ReadIfValueUncased, ReadIfValue, SkipZeros, IsDigit, IsSign, IsDigitSeparator, TakeN}
pub use Rattle.lexical_digits.specs.declared.ops.Answer.{Answer}
pub use Rattle.lexical_digits.specs.declared.ops.Answer.TheVariants.{Span, Count, Flag, Done, Byte, Four, Eight, View, Refused}
use Rattle.lexical_digits.specs.Separators.{is_digit, is_separator, place, drain, zeros, past_zeros}
use Rattle.lexical_digits.specs.State.{State, with_cursor, rule, own, with_own, has_no_separator, is_contiguous, counts, saturating, count_after, count_of_all, current_count, cut_end, cut}
use Rattle.lexical_digits.specs.Cursor.{can_step, holds_of, byte_if, is_value, next_number}
use Rattle.lexical_digits.specs.ByteSet.{accepts}

-- ---- what the iterator of a component finds and leaves

-- the place: the next kept position from the cursor on, or the length
unfoldable pub place_of : Component → State → ℕ
place_of k s = place (rule k s) s.buffer s.cursor (own k s)

-- the byte at the place, if the place is not the length
abbrev pub byte_at_place : Component → State → Option ℕ
byte_at_place k s = slice_get s.buffer (place_of k s)

-- `peek` moves the cursor to the place
abbrev pub settled : Component → State → State
settled k s = with_cursor s (place_of k s)

-- a read that does not count moves the cursor past the byte there
abbrev pub past_place : Component → State → State
past_place k s = with_cursor s (place_of k s + 1)

-- `increment_count_of` counts that many digits
abbrev pub counted_by : ℕ → Component → State → State
counted_by digits k s = with_own k s (saturating (own k s) digits)

-- `increment_count` counts one
abbrev pub counted : Component → State → State
counted k s = counted_by 1 k s

-- `next` moves the cursor past the byte at the place, and counts it if it is a digit
unfoldable pub taken : Component → State → State
taken k s =
    let p = place_of k s in
    if nat_lt p (length s.buffer)
    then with_cursor (with_own k s
    (count_after (rule k s) (counts k s.word) (slice_index s.buffer p) (own k s))) (p + 1)
    else settled k s

-- the bytes that `next` answers before `None`
abbrev pub drain_of : Component → State → List ℕ
drain_of k s = drain (rule k s) s.buffer s.cursor (own k s)

-- the own count that the drain leaves
abbrev pub own_after : Component → State → ℕ
own_after k s =
    if counts k s.word
    then saturating (own k s) (count_by (is_digit (rule k s)) (drop s.cursor s.buffer))
    else own k s

-- the state that the drain leaves: the cursor at the length, the digits counted
unfoldable pub after_drain : Component → State → State
after_drain k s = with_cursor (with_own k s (own_after k s)) (length s.buffer)

-- how many zeros `skip_zeros` reads and counts
abbrev pub zeros_of : Component → State → ℕ
zeros_of k s = zeros (rule k s) s.buffer s.cursor (own k s)

-- the state that `skip_zeros` leaves: the cursor at the next kept byte after the zeros
abbrev pub past_zeros_of : Component → State → State
past_zeros_of k s = with_cursor (with_own k s (saturating (own k s) (zeros_of k s)))
    (past_zeros (rule k s) s.buffer s.cursor (own k s))

-- `take_n`: the view
unfoldable pub view : Component → State → ℕ → Option State
view k s n = if is_contiguous k s.word then Some (cut s (cut_end s n)) else None

-- the state that `take_n` leaves: the cursor at the end of the view
unfoldable pub after_view : Component → State → ℕ → State
after_view k s n = if is_contiguous k s.word then with_cursor s (cut_end s n) else s

-- A call of `next` from s to t: it answers the byte at the place and leaves `taken`; that byte is
-- the first of the drain, or None if the drain is empty; a whole drain leaves the same state from s
-- and from t.
pub record Takes (k : Component) (s t : State) (result : Option (Bor ℕ)) : Type 0 where
  pub byte : option_copied result ≡ byte_at_place k s
  pub takes : t ≡ taken k s
  pub drains : YieldsFirstRef (drain_of k) s result t
  pub leaves : after_drain k t ≡ after_drain k s
  pub ends : MatchOption result (t ≡ after_drain k s) (λ item. s.cursor < t.cursor)

-- t is s with another cursor and another own count, and nothing else is changed
pub record ChangesOwn (k : Component) (s t : State) : Type 0 where
  pub count : ℕ
  pub cursor : ℕ
  pub is : t ≡ with_cursor (with_own k s count) cursor

-- ---- calls by their names

-- what a call is made on: a `Bytes`, or the iterator of a component over it
pub data Part : Type 0 where
  OnBytes : Part
  On : Component → Part

-- an answer, and the state left
pub record Row : Type 0 where
  pub answer : Answer
  pub state : State

abbrev pub row : Answer → State → Row
row a s = record { answer = a; state = s }

-- ---- the rows that every part has

-- whether a part drops no byte
abbrev pub contiguous_on : Part → State → Bool
contiguous_on OnBytes s = has_no_separator s.word
contiguous_on (On k) s = is_contiguous k s.word

-- what `current_count` of a part answers
abbrev pub count_on : Part → State → ℕ
count_on OnBytes s = count_of_all s
count_on (On k) s = current_count k s

-- the byte at the cursor
abbrev pub first : State → Option ℕ
first s = slice_get s.buffer s.cursor

-- whether a part may step by n bytes
abbrev pub may_step : Part → ℕ → State → Bool
may_step part n s =
    can_step s.buffer s.cursor (contiguous_on part s) (is_separator (separator s.word)) n

-- a call whose condition holds, or a refusal that changes nothing
abbrev pub within : Bool → State → State → Row
within true s t = row Done t
within false s t = row Refused s

-- a read of the byte at the place, by what the call answers
abbrev pub read_where : Component → State → Option ℕ → Row
read_where k s read = row (Byte read) (if is_some read then past_place k s else settled k s)

abbrev pub view_answer : Option State → Option (ℕ × ℕ)
view_answer None = None
view_answer (Some s) = Some (length s.buffer, s.cursor)

-- ---- the table

-- special has no `take_n`
abbrev pub view_row : Component → ℕ → State → Row
view_row Special n s = row Refused s
view_row Integer n s = row (View (view_answer (view Integer s n))) (after_view Integer s n)
view_row Fraction n s = row (View (view_answer (view Fraction s n))) (after_view Fraction s n)
view_row Exponent n s = row (View (view_answer (view Exponent s n))) (after_view Exponent s n)

-- the calls that every part has
abbrev pub shared_row : Part → Op → State → Row
shared_row part AsSlice s = row (Span s.cursor (length s.buffer)) s
shared_row part GetBuffer s = row (Span 0 (length s.buffer)) s
shared_row part BufferLength s = row (Count (length s.buffer)) s
shared_row part IsBufferEmpty s = row (Flag (s.cursor == length s.buffer)) s
shared_row part Cursor s = row (Count s.cursor) s
shared_row part (SetCursor i) s = within (nat_le i (length s.buffer)) s (with_cursor s i)
shared_row part CurrentCount s = row (Count (count_on part s)) s
shared_row part IsContiguous s = row (Flag (contiguous_on part s)) s
shared_row part First s = row (Byte (first s)) s
shared_row part (FirstIsCased v) s = row (Flag (holds_of (is_value v true) (first s))) s
shared_row part (FirstIsUncased v) s = row (Flag (holds_of (is_value v false) (first s))) s
shared_row part (FirstIs v is_cased) s = row (Flag (holds_of (is_value v is_cased) (first s))) s
shared_row part (StepBy n) s = within (may_step part n s) s (with_cursor s (s.cursor + n))
shared_row part Step s = within (may_step part 1 s) s (with_cursor s (s.cursor + 1))
shared_row part PeekU32 s =
    row (Four (next_number w32 (contiguous_on part s) (drop s.cursor s.buffer))) s
shared_row part PeekU64 s =
    row (Eight (next_number w64 (contiguous_on part s) (drop s.cursor s.buffer))) s
shared_row part call s = row Refused s

-- the whole table: some calls are only on iterators
abbrev pub row_of : Part → Op → State → Row
row_of (On k) IsConsumed s = row (Flag (is_none (byte_at_place k s))) (settled k s)
row_of (On k) IncrementCount s = row Done (counted k s)
row_of (On k) Peek s = row (Byte (byte_at_place k s)) (settled k s)
row_of (On k) TryRead s = read_where k s (byte_at_place k s)
row_of (On k) Next s = row (Byte (byte_at_place k s)) (taken k s)
row_of (On k) (PeekIsCased v) s =
    row (Flag (holds_of (is_value v true) (byte_at_place k s))) (settled k s)
row_of (On k) (PeekIsUncased v) s =
    row (Flag (holds_of (is_value v false) (byte_at_place k s))) (settled k s)
row_of (On k) (PeekIs v is_cased) s =
    row (Flag (holds_of (is_value v is_cased) (byte_at_place k s))) (settled k s)
row_of (On k) (ReadIfEqual v) s = read_where k s (byte_if (is_value v true) (byte_at_place k s))
row_of (On k) ReadIfNever s = read_where k s None
row_of (On k) (ReadIf set) s = read_where k s (byte_if (accepts set) (byte_at_place k s))
row_of (On k) (ReadIfValueCased v) s =
    read_where k s (byte_if (is_value v true) (byte_at_place k s))
row_of (On k) (ReadIfValueUncased v) s =
    read_where k s (byte_if (is_value v false) (byte_at_place k s))
row_of (On k) (ReadIfValue v is_cased) s =
    read_where k s (byte_if (is_value v is_cased) (byte_at_place k s))
row_of (On k) SkipZeros s = row (Count (zeros_of k s)) (past_zeros_of k s)
row_of (On k) (IsDigit v) s = row (Flag (is_digit (rule k s) v)) s
row_of (On k) (IsSign v) s = row (Flag ((v == 43) || (v == 45))) s
row_of (On k) (IsDigitSeparator v) s = row (Flag (is_separator (separator s.word) v)) s
row_of (On k) (TakeN n) s = view_row k n s
row_of part call s = shared_row part call s

-- the call that reads what a `read_if` read: a closure accepted that byte, or none
abbrev pub read_as : Option ℕ → Op
read_as None = ReadIfNever
read_as (Some byte) = ReadIfEqual byte

-- ---- a list of calls

-- each answer, and the state at the end
pub record Ran : Type 0 where
  pub answers : List Answer
  pub state : State

-- the answers and the state of a list of calls, in their order
abbrev pub run_of : State → List (Part × Op) → Ran
run_of s [] = record { answers = []; state = s }
run_of s (call ∷ calls) =
    let first = row_of call.0 call.1 s in
    let rest = run_of first.state calls in
    record { answers = first.answer ∷ rest.answers; state = rest.state }
