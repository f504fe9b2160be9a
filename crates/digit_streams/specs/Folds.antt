-- Folds of the numbers of a stream: what steps made of them, and what a whole text came to.
use Rattle.std.specs.Prelude.{◌≡◌, ◌<◌, ⊤, ℕ, List, [], ◌∷◌, ◌++◌, length, map, Option, None, Some, Result, Ok, Err, IfOk}
use Rattle.std.specs.List.{FoldsTo}
use Rattle.digit_streams.specs.declared.fold.FoldError.{FoldError}
use Rattle.digit_streams.specs.declared.fold.FoldError.TheVariants as folds
use Rattle.digit_streams.specs.declared.stream.Ended.{Ended}
use Rattle.digit_streams.specs.declared.stream.StreamEnd.{StreamEnd}
use Rattle.digit_streams.specs.declared.stream.StreamEnd.TheVariants.{Full, Over, Fault}
use Rattle.digit_streams.specs.declared.stream.StreamError.{StreamError}
use Rattle.digit_streams.specs.declared.stream.StreamError.TheVariants.{Number, NoRoom, Read, TooLong, Trailing}
use Rattle.digit_streams.specs.Streams.{Gives, HasGiven, HasGivenFrom, IfTrailing, Stream, StreamNumbers, end_by}

-- Steps from a first value on made a last one of some numbers, one after the other. `gives` says
-- what a step may answer.
abbrev pub Makes : {A V : Type 0} → (A → V → Option A → Type 0) → A → List V → A → Type 0
Makes gives = FoldsTo (λ value number next. gives value number (Some next))

-- The steps of a fold were given these numbers, and it came to this: a value that they made; or the
-- last of the numbers made none.
abbrev pub Steps : {A V E : Type 0} → (A → V → Option A → Type 0) → A → List V
    → Result A (FoldError E) → Type 0
Steps gives init numbers (Ok last) = Makes gives init numbers last
Steps {A} {V} gives init numbers (Err (folds.Stopped at)) =
    (before : List V) × (value : A) × (number : V) × (numbers ≡ before ++ number ∷ [])
    × Makes gives init before value × gives value number None
Steps {A} gives init numbers (Err (folds.Stream error)) = (last : A) × Makes gives init numbers last

-- how the numbers of a fold end, after which a reader is at a position
abbrev pub end_of_fold : {A E : Type 0} → Result A (FoldError E) → ℕ → Option (Ended E)
    → StreamEnd E
end_of_fold (Ok value) position after = Over position
end_of_fold (Err (folds.Stopped at)) position after = end_by position after
end_of_fold (Err (folds.Stream error)) position after = Fault error

-- What a fold of the numbers of a reader came to: what its steps made of which numbers. Those are
-- the next ones of the reader's list, after what it gave before; and how the list ends.
pub record Folded {K V M A E : Type 0} (gives : A → V → Option A → Type 0) (meaning : V → M)
    (init : A) (list : ℕ → List ℕ → ℕ → StreamNumbers M E) (old new : Stream K E)
    (result : Result A (FoldError E)) : Type 0 where
  pub numbers : List V
  pub steps : Steps gives init numbers result
  pub given : (known : Option (List ℕ)) (before : List M)
      → HasGiven (list 0) known before (end_by old.position old.ended) old.position old.bytes
      → HasGiven (list 0) known (before ++ map meaning numbers)
      (end_of_fold result new.position new.ended) new.position new.bytes
  pub given_from : (start from : ℕ) (known : Option (List ℕ)) (before : List M)
      → HasGivenFrom start from list known before (end_by old.position old.ended) old.position
      old.bytes
      → HasGivenFrom start from list known (before ++ map meaning numbers)
      (end_of_fold result new.position new.ended) new.position new.bytes

-- how the list of a text ends, of which reading all of it came to an error
abbrev pub end_of_error : {E : Type 0} → StreamError E → StreamEnd E
end_of_error (Number error) = Fault (Number error)
end_of_error (NoRoom at) = Fault (NoRoom at)
end_of_error (Read kind) = Fault (Read kind)
end_of_error TooLong = Fault TooLong
end_of_error (Trailing at why) = Over at

-- A list has these numbers, and it ends as reading a whole text of so many bytes came to: it is all
-- of the text, or it is at fault, or over before the end. Where the reader failed, or the buffer is
-- too small, the numbers are the first of the list.
abbrev pub GivesAll : {M A E : Type 0} → StreamNumbers M E → ℕ → List M → Result A (StreamError E)
    → Type 0
GivesAll list length numbers (Ok value) = Gives list numbers (Over length)
GivesAll list length numbers (Err error) =
    Gives list numbers (end_of_error error) × IfTrailing error (λ at. at < length)

-- What reading a whole text came to: the value of its numbers, or an error.
pub record ReadsText {M A E : Type 0} (list : List ℕ → ℕ → StreamNumbers M E)
    (value_of : List M → A) (text : List ℕ) (result : Result A (StreamError E)) : Type 0 where
  pub numbers : List M
  pub room : ℕ
  pub all : GivesAll (list text room) (length text) numbers result
  pub is : IfOk result (λ value. value ≡ value_of numbers)

-- a list that is not at fault ends at this position
abbrev pub EndsAt : {E : Type 0} → StreamEnd E → ℕ → Type 0
EndsAt (Full place) at = place ≡ at
EndsAt (Over place) at = place ≡ at
EndsAt (Fault error) at = ⊤

-- The same of a fold. It may also have stopped, after the first numbers.
abbrev pub GivesFold : {M A E : Type 0} → StreamNumbers M E → ℕ → List M → Result A (FoldError E)
    → Type 0
GivesFold list length numbers (Ok value) = Gives list numbers (Over length)
GivesFold {M} {A} {E} list length numbers (Err (folds.Stopped at)) =
    (end : StreamEnd E) × Gives list numbers end × EndsAt end at
GivesFold {M} {A} list length numbers (Err (folds.Stream error)) =
    GivesAll {A = A} list length numbers (Err error)

-- What the fold of a whole text came to, by what its steps may answer.
pub record FoldsText {V M A E : Type 0} (gives : A → V → Option A → Type 0) (meaning : V → M)
    (init : A) (list : List ℕ → ℕ → StreamNumbers M E) (text : List ℕ)
    (result : Result A (FoldError E)) : Type 0 where
  pub numbers : List V
  pub steps : Steps gives init numbers result
  pub room : ℕ
  pub all : GivesFold (list text room) (length text) (map meaning numbers) result

-- a fact of the position after the number where a fold stopped
abbrev pub IfStopped : {E : Type 0} → FoldError E → (ℕ → Type 0) → Type 0
IfStopped (folds.Stopped at) P = P at
IfStopped (folds.Stream error) P = ⊤

-- the error of the stream; of a step that stopped, that the stream is too long
abbrev pub stream_error : {E : Type 0} → FoldError E → StreamError E
stream_error (folds.Stopped at) = TooLong
stream_error (folds.Stream error) = error

abbrev pub in_stream : {A E : Type 0} → Result A (FoldError E) → Result A (StreamError E)
in_stream (Ok value) = Ok value
in_stream (Err error) = Err (stream_error error)
