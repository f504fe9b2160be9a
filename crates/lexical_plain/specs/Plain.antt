-- The plain call table: what each call answers, and the state that it leaves, where no byte is
-- dropped. The place and the count are the cursor. No row scans, steps or loops.
use Rattle.std.specs.Prelude.{◌≡◌, ℕ, ◌+◌, ◌-◌, ◌<◌, ◌≤◌, min, ◌==◌, Bool, true, false, if◌then◌else◌, nat_lt, nat_le, List, [], ◌∷◌, length, take, drop, slice_get, Option, Some, None, is_none, is_some, MatchOption, option_copied, IsTrue}
use Rattle.std.specs.List.{prefix_len}
use Rattle.std.specs.Borrow.{Bor}
use Rattle.std.specs.Int.{w32, w64}
use Rattle.std.specs.Iterator.{YieldsFirstRef}
use Rattle.lexical_format.specs.Digits.{is_digit_of_radix}
use Rattle.lexical_format.specs.Word.{separator, separator_flags, mantissa_radix, exponent_radix, is_supported}
use Rattle.lexical_digits.specs.declared.skip.component.Component.{Component}
use Rattle.lexical_digits.specs.declared.skip.component.Component.TheVariants.{Special}
use Rattle.lexical_digits.specs.State.{State}
use Rattle.lexical_digits.specs.Cursor.{holds_of, byte_if, is_value, next_number}
use Rattle.lexical_digits.specs.ByteSet.{accepts}
use Rattle.lexical_digits.specs.CallTable.{Part, On}
use Rattle.lexical_digits.specs.declared.ops.Op.{Op}
use Rattle.lexical_digits.specs.declared.ops.Answer.{Answer}
use Rattle.lexical_digits.specs.declared.ops.Op.TheVariants.{AsSlice, GetBuffer, BufferLength, IsBufferEmpty, Cursor, SetCursor, CurrentCount, IsContiguous, First, FirstIsCased, FirstIsUncased, FirstIs, StepBy, Step, PeekU32, PeekU64, IsConsumed, IncrementCount, Peek, TryRead, Next, PeekIsCased, PeekIsUncased, PeekIs, ReadIfEqual, ReadIfNever, ReadIf, ReadIfValueCased, ReadIfValueUncased, ReadIfValue, SkipZeros, IsDigit, IsSign, IsDigitSeparator, TakeN}
use Rattle.lexical_digits.specs.declared.ops.Answer.TheVariants.{Span, Count, Flag, Done, Byte, Four, Eight, View, Refused}

-- ---- the state

pub record Plain : Type 0 where
  pub buffer : List ℕ
  pub word : ℕ
  pub cursor : ℕ

-- the cursor is within the buffer, and the word is supported
pub record IsPlain (s : Plain) : Type 0 where
  pub within : s.cursor ≤ length s.buffer
  pub word : IsTrue (is_supported s.word)

-- the state of a new `Bytes`
abbrev pub start : List ℕ → ℕ → Plain
start buffer word = record { buffer = buffer; word = word; cursor = 0 }

-- the same state with another cursor
abbrev pub with_cursor : Plain → ℕ → Plain
with_cursor s i = record s { cursor = i }

-- ---- what an iterator finds and leaves

-- the byte at the cursor
abbrev pub first : Plain → Option ℕ
first s = slice_get s.buffer s.cursor

-- the bytes from the cursor on, all of which `next` answers
abbrev pub rest : Plain → List ℕ
rest s = drop s.cursor s.buffer

-- how many they are
abbrev pub bytes_left : Plain → ℕ
bytes_left s = length s.buffer - s.cursor

-- a digit of the mantissa radix, for every component
abbrev pub is_digit : Plain → ℕ → Bool
is_digit s byte = is_digit_of_radix (mantissa_radix s.word) byte

-- `next` passes the byte at the cursor
unfoldable pub taken : Plain → Plain
taken s = if nat_lt s.cursor (length s.buffer) then with_cursor s (s.cursor + 1) else s

-- what `next` leaves at the end
abbrev pub drained : Plain → Plain
drained s = with_cursor s (length s.buffer)

-- how many bytes `0` are first from the cursor on
abbrev pub zeros : Plain → ℕ
zeros s = prefix_len (λ byte. byte == 48) (rest s)

-- `take_n`: where the next n bytes end, and the view of the buffer up to there
abbrev pub cut_end : Plain → ℕ → ℕ
cut_end s n = min (length s.buffer) (s.cursor + n)

-- the view that `take_n` answers
abbrev pub view : Plain → ℕ → Plain
view s n = record s { buffer = take (cut_end s n) s.buffer }

-- A call of `next` from s to t: it answers the byte at the cursor and leaves `taken`; that byte is
-- the first of those that were left, or None where none was; a whole drain leaves the same state
-- from s and from t.
pub record Takes (s t : Plain) (result : Option (Bor ℕ)) : Type 0 where
  pub byte : option_copied result ≡ first s
  pub takes : t ≡ taken s
  pub drains : YieldsFirstRef rest s result t
  pub leaves : drained t ≡ drained s
  pub ends : MatchOption result (t ≡ drained s) (λ item. s.cursor < t.cursor)

-- A call of `next` on an iterator: what it takes; the iterator still holds the same `Bytes`.
pub record Nexts (s t : Plain) (loan left : ℕ) (result : Option (Bor ℕ)) : Type 0 where
  pub takes : Takes s t result
  pub keeps_loan : left ≡ loan

-- ---- what a `Bytes` holds

pub record Held : Type 0 where
  pub state : Plain
  pub holds : IsPlain state

-- ---- the table

-- an answer, and the state left
pub record Row : Type 0 where
  pub answer : Answer
  pub state : Plain

abbrev pub row : Answer → Plain → Row
row a s = record { answer = a; state = s }

-- a call within its condition, and else a refusal that changes nothing
abbrev pub within : Bool → Plain → Plain → Row
within true s t = row Done t
within false s t = row Refused s

-- `set_cursor` and the steps: to a position of the buffer or its end
abbrev pub to : ℕ → Plain → Row
to i s = within (nat_le i (length s.buffer)) s (with_cursor s i)

-- a read of the byte at the cursor, by what the call answers
abbrev pub read_where : Plain → Option ℕ → Row
read_where s read = row (Byte read) (if is_some read then with_cursor s (s.cursor + 1) else s)

-- a view is shown by its length and its cursor
abbrev pub view_answer : Plain → Answer
view_answer s = View (Some (length s.buffer, s.cursor))

-- the calls that every part has
abbrev pub shared_row : Op → Plain → Row
shared_row AsSlice s = row (Span s.cursor (length s.buffer)) s
shared_row GetBuffer s = row (Span 0 (length s.buffer)) s
shared_row BufferLength s = row (Count (length s.buffer)) s
shared_row IsBufferEmpty s = row (Flag (s.cursor == length s.buffer)) s
shared_row Cursor s = row (Count s.cursor) s
shared_row (SetCursor i) s = to i s
shared_row CurrentCount s = row (Count s.cursor) s
shared_row IsContiguous s = row (Flag true) s
shared_row First s = row (Byte (first s)) s
shared_row (FirstIsCased v) s = row (Flag (holds_of (is_value v true) (first s))) s
shared_row (FirstIsUncased v) s = row (Flag (holds_of (is_value v false) (first s))) s
shared_row (FirstIs v is_cased) s = row (Flag (holds_of (is_value v is_cased) (first s))) s
shared_row (StepBy n) s = to (s.cursor + n) s
shared_row Step s = to (s.cursor + 1) s
shared_row PeekU32 s = row (Four (next_number w32 true (rest s))) s
shared_row PeekU64 s = row (Eight (next_number w64 true (rest s))) s
shared_row call s = row Refused s

-- The whole table. Some calls are only on iterators; the four components have one iterator type,
-- with the same rows.
abbrev pub row_of : Part → Op → Plain → Row
row_of (On k) IsConsumed s = row (Flag (is_none (first s))) s
row_of (On k) IncrementCount s = row Done s
row_of (On k) Peek s = row (Byte (first s)) s
row_of (On k) TryRead s = read_where s (first s)
row_of (On k) Next s = row (Byte (first s)) (taken s)
row_of (On k) (PeekIsCased v) s = row (Flag (holds_of (is_value v true) (first s))) s
row_of (On k) (PeekIsUncased v) s = row (Flag (holds_of (is_value v false) (first s))) s
row_of (On k) (PeekIs v is_cased) s = row (Flag (holds_of (is_value v is_cased) (first s))) s
row_of (On k) (ReadIfEqual v) s = read_where s (byte_if (is_value v true) (first s))
row_of (On k) ReadIfNever s = read_where s None
row_of (On k) (ReadIf set) s = read_where s (byte_if (accepts set) (first s))
row_of (On k) (ReadIfValueCased v) s = read_where s (byte_if (is_value v true) (first s))
row_of (On k) (ReadIfValueUncased v) s = read_where s (byte_if (is_value v false) (first s))
row_of (On k) (ReadIfValue v is_cased) s = read_where s (byte_if (is_value v is_cased) (first s))
row_of (On k) SkipZeros s = row (Count (zeros s)) (with_cursor s (s.cursor + zeros s))
row_of (On k) (IsDigit v) s = row (Flag (is_digit s v)) s
row_of (On k) (TakeN n) s = row (view_answer (view s n)) (with_cursor s (cut_end s n))
row_of part call s = shared_row call s

-- a call on a part, from s to t, is answered by its row
pub record Makes (part : Part) (call : Op) (s t : Plain) (answer : Answer) : Type 0 where
  pub answers : answer ≡ (row_of part call s).answer
  pub leaves : t ≡ (row_of part call s).state

-- the same on the iterator of each component
abbrev pub MakesOnDigits : Op → Plain → Plain → Answer → Type 0
MakesOnDigits call s t answer = (k : Component) → Makes (On k) call s t answer

-- a call that leaves its state
abbrev pub Answers : Part → Op → Plain → Answer → Type 0
Answers part call s answer = Makes part call s s answer

abbrev pub AnswersOnDigits : Op → Plain → Answer → Type 0
AnswersOnDigits call s answer = MakesOnDigits call s s answer

-- a list of calls: each answer, and the state at the end
pub record Ran : Type 0 where
  pub answers : List Answer
  pub state : Plain

abbrev pub run_of : Plain → List (Part × Op) → Ran
run_of s [] = record { answers = []; state = s }
run_of s (call ∷ calls) =
    let first = row_of call.0 call.1 s in
    let rest = run_of first.state calls in
    record { answers = first.answer ∷ rest.answers; state = rest.state }

-- ---- beside `skip`

-- the calls that a part has both here and in `skip`: here no iterator has `is_sign` and
-- `is_digit_separator`, and there the special iterator has no `take_n`
abbrev pub is_on_both : Part → Op → Bool
is_on_both (On k) (IsSign v) = false
is_on_both (On k) (IsDigitSeparator v) = false
is_on_both (On Special) (TakeN n) = false
is_on_both part call = true

abbrev pub both_have : Part × Op → Bool
both_have call = is_on_both call.0 call.1

-- the words for which `skip` answers the same: no separator, no flag, equal radixes
pub record IsPlainWord (word : ℕ) : Type 0 where
  pub no_separator : separator word ≡ 0
  pub no_flags : separator_flags word ≡ 0
  pub one_radix : exponent_radix word ≡ mantissa_radix word

-- a state of `skip` without its counts
abbrev pub without_counts : State → Plain
without_counts s = record { buffer = s.buffer; word = s.word; cursor = s.cursor }
