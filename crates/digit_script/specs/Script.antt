-- What a list of calls means: the calls of the call table, its answers, and what it costs.
use Rattle.std.specs.Prelude.{◌≡◌, ◌≤◌, IfOk, OnOk, OnErr, Result, ℕ, ℤ, ◌+◌, ◌*◌, pos, ◌≤ℤ◌, ◌+ℤ◌, nat_lt, if◌then◌else◌, List, [], ◌∷◌, length, map, slice_get, Bool, true, false}
use Rattle.std.specs.declared.vec.Vec.{Vec}
use Rattle.std.specs.declared.alloc.AllocError.{AllocError}
use Rattle.lexical_format.specs.Word.{separator}
use Rattle.lexical_digits.specs.declared.skip.component.Component.{Component}
use Rattle.lexical_digits.specs.declared.skip.component.Component.TheVariants as component
use Rattle.lexical_digits.specs.Separators.{is_digit, is_separator}
use Rattle.lexical_digits.specs.State.{State, with_cursor, rule}
use Rattle.lexical_digits.specs.Cursor.{holds_of}
use Rattle.lexical_digits.specs.CallTable as table
use Rattle.lexical_digits.specs.CallTable.{OnBytes, On, row_of, run_of, place_of, past_place, zeros_of, contiguous_on, count_on}
use Rattle.lexical_digits.specs.declared.ops.Op.{Op}
use Rattle.lexical_digits.specs.declared.ops.Answer.{Answer}
use Rattle.lexical_digits.specs.declared.ops.Op.TheVariants as op
use Rattle.lexical_digits.specs.Looks.{Held, owed}
use Rattle.digit_script.specs.declared.Part.{Part}
use Rattle.digit_script.specs.declared.Part.TheVariants.{Bytes, Integer, Fraction, Exponent, Special}
use Rattle.digit_script.specs.declared.Call.{Call}

-- ---- calls and answers

-- a part in the form of the call table
abbrev pub part_of : Part → table.Part
part_of Bytes = OnBytes
part_of Integer = On component.Integer
part_of Fraction = On component.Fraction
part_of Exponent = On component.Exponent
part_of Special = On component.Special

-- a list of calls of the call table
abbrev pub script_of : List Call → List (table.Part × Op)
script_of calls = map (λ call. (part_of call.part, call.op)) calls

-- ---- calls that every part has

-- what the cursor's trait says of a value is what the state says
pub record Shows (part : table.Part) (s : State) (buffer : List ℕ) (cursor count : ℕ)
    (contiguous : Bool) : Type 0 where
  pub same_buffer : s.buffer ≡ buffer
  pub same_cursor : s.cursor ≡ cursor
  pub same_count : count_on part s ≡ count
  pub same_contiguous : contiguous_on part s ≡ contiguous

-- the calls that every part has and that change nothing
abbrev pub asks : Op → Bool
asks op.AsSlice = true
asks op.GetBuffer = true
asks op.BufferLength = true
asks op.IsBufferEmpty = true
asks op.Cursor = true
asks op.CurrentCount = true
asks op.IsContiguous = true
asks op.First = true
asks (op.FirstIsCased v) = true
asks (op.FirstIsUncased v) = true
asks (op.FirstIs v is_cased) = true
asks op.PeekU32 = true
asks op.PeekU64 = true
asks call = false

-- the calls that move the cursor without reading
abbrev pub moves : Op → Bool
moves (op.SetCursor i) = true
moves (op.StepBy n) = true
moves op.Step = true
moves call = false

-- the calls that are made on the iterator of a component: those that its traits lack, and those of
-- which a trait says less than the table
abbrev pub goes_by_part : Op → Bool
goes_by_part (op.SetCursor i) = true
goes_by_part op.SkipZeros = true
goes_by_part (op.IsSign v) = true
goes_by_part (op.IsDigitSeparator v) = true
goes_by_part (op.TakeN n) = true
goes_by_part call = false

-- m is a meaning of the iterator of component k, and `state` gives the state of each meaning: the
-- calls on m answer and leave what the calls of the component answer and leave.
pub record IsOn {M : Type 0} (k : Component) (state : M → State)
    (buffer : M → List ℕ) (cursor count : M → ℕ) (contiguous : M → Bool)
    (separates : M → ℕ → Bool) (moved : M → ℕ → M) (place : M → ℕ) (digit : M → ℕ → Bool)
    (settled counted taken : M → M) (m : M) : Type 0 where
  pub shows : Shows (On k) (state m) (buffer m) (cursor m) (count m) (contiguous m)
  pub same_stop : holds_of (is_separator (separator (state m).word)) (table.first (state m)) ≡
      holds_of (separates m) (slice_get (buffer m) (cursor m))
  pub same_place : place_of k (state m) ≡ place m
  pub same_digit : (b : ℕ) → is_digit (rule k (state m)) b ≡ digit m b
  pub moves : (i : ℕ) → state (moved m i) ≡ with_cursor (state m) i
  pub settles : state (settled m) ≡ table.settled k (state m)
  pub passes : state (moved (settled m) (place m + 1)) ≡ past_place k (state m)
  pub counts : state (counted m) ≡ table.counted k (state m)
  pub takes : state (taken m) ≡ table.taken k (state m)

-- ---- what a list of calls may cost

-- how many reads a call makes: one for each leading zero, and one for what ends them
abbrev pub reads : table.Part → Op → State → ℕ
reads (On k) op.IsConsumed s = 1
reads (On k) op.Peek s = 1
reads (On k) op.TryRead s = 1
reads (On k) op.Next s = 1
reads (On k) (op.PeekIsCased v) s = 1
reads (On k) (op.PeekIsUncased v) s = 1
reads (On k) (op.PeekIs v is_cased) s = 1
reads (On k) (op.ReadIfEqual v) s = 1
reads (On k) op.ReadIfNever s = 1
reads (On k) (op.ReadIf set) s = 1
reads (On k) (op.ReadIfValueCased v) s = 1
reads (On k) (op.ReadIfValueUncased v) s = 1
reads (On k) (op.ReadIfValue v is_cased) s = 1
reads (On k) op.SkipZeros s = zeros_of k s + 1
reads part call s = 0

-- how often a call moves the cursor back
abbrev pub set_backs : Op → State → ℕ
set_backs (op.SetCursor i) s = if nat_lt i s.cursor then 1 else 0
set_backs call s = 0

-- over a list, each call at the state that the calls before it left
abbrev pub reads_of : State → List (table.Part × Op) → ℕ
reads_of s [] = 0
reads_of s (call ∷ calls) = reads call.0 call.1 s + reads_of (row_of call.0 call.1 s).state calls

-- how many calls of a list set the cursor to a lesser position
abbrev pub set_backs_of : State → List (table.Part × Op) → ℕ
set_backs_of s [] = 0
set_backs_of s (call ∷ calls) =
    set_backs call.1 s + set_backs_of (row_of call.0 call.1 s).state calls

-- ---- one call

-- what a call may add to what is owed
abbrev pub cost : table.Part → Op → State → ℕ
cost part call s = 4 * reads part call s + 3 * (length s.buffer * set_backs call s)

-- A call from state s to state t, where `before` is owed before it and `after` after it: it answers
-- and leaves what the call table says, and adds at most `cost` to what is owed.
pub record Obeys (part : table.Part) (call : Op) (s t : State) (before after : ℤ)
    (result : Answer) : Type 0 where
  pub answers : result ≡ (row_of part call s).answer
  pub leaves : t ≡ (row_of part call s).state
  pub owes : after ≤ℤ (before +ℤ pos (cost part call s))

abbrev pub Makes : table.Part → Op → (a b : Held) → Answer → Type 0
Makes part call a b result = Obeys part call a.state b.state (owed a) (owed b) result

-- ---- a list of calls

-- What a list of calls does to a `Bytes`, from a to b: the answers and the state that is left are
-- those of the call table. k reads and m moves back of the cursor over n bytes add at most
-- 4k + 3n(m + 1) looks, and 4k + 3nm to what is owed, so that several lists add up. Without memory
-- nothing changes.
pub record RunsCalls {Z : Type 0} (a b : Held) (calls : List (table.Part × Op))
    (result : Result (Vec Answer Z) AllocError) : Type 0 where
  pub answers : IfOk result (λ made. made.items ≡ (run_of a.state calls).answers)
  pub state : OnOk result (b.state ≡ (run_of a.state calls).state)
  pub looks : b.looks ≤ a.looks + 4 * reads_of a.state calls
      + 3 * (length a.state.buffer * (set_backs_of a.state calls + 1))
  pub owes : owed b ≤ℤ (owed a +ℤ pos (4 * reads_of a.state calls
      + 3 * (length a.state.buffer * set_backs_of a.state calls)))
  pub memory : OnErr result (b ≡ a)
