-- A list between two bytes of a stream, such as an array of JSON.
use Rattle.std.specs.Prelude.{◌≡◌, ⊤, Bool, true, false, ℕ, List, [], drop, map, if◌then◌else◌, Option, Result, Ok, Err, IfOk}
use Rattle.digit_literals.specs.declared.list.Gap.{Gap}
use Rattle.digit_literals.specs.Lists.{past_blanks}
use Rattle.digit_literals.specs.Numbers.{has_byte}
use Rattle.digit_streams.specs.declared.enclosed.EnclosedFoldError.{EnclosedFoldError}
use Rattle.digit_streams.specs.declared.enclosed.EnclosedFoldError.TheVariants.{NoOpening, NoClosing, Fold}
use Rattle.digit_streams.specs.declared.fold.FoldError.TheVariants.{Stopped, Stream}
use Rattle.digit_streams.specs.declared.stream.StreamEnd.{StreamEnd}
use Rattle.digit_streams.specs.declared.stream.StreamEnd.TheVariants.{Over, Fault}
use Rattle.digit_streams.specs.declared.stream.StreamError.{StreamError}
use Rattle.digit_streams.specs.declared.stream.StreamError.TheVariants.{Number, NoRoom, Read, TooLong, Trailing}
use Rattle.digit_streams.specs.Folds.{EndsAt, Makes, Steps, stream_error}
use Rattle.digit_streams.specs.Streams.{Gives, Passes, StreamNumbers}

-- The bytes before and after the numbers, and the list of a text from a position on, as many
-- numbers as there is room for.
pub record Brackets (M E : Type 0) : Type 0 where
  pub gap : Gap
  pub opening : ℕ
  pub closing : ℕ
  pub list : ℕ → List ℕ → ℕ → StreamNumbers M E

module _ {M E : Type 0} (b : Brackets M E) (text : List ℕ) where
  -- the list from a position on, which is empty if the closing byte is the first after blanks
  abbrev pub list_inside : ℕ → ℕ → StreamNumbers M E
  list_inside inside room =
      let first = past_blanks b.gap text inside in
      if has_byte text first b.closing then ([], Over inside)
      else b.list first (drop first text) room

  -- after the opening byte are these numbers, which end so
  pub record Opened (from : ℕ) (numbers : List M) (end : StreamEnd E) : Type 0 where
    pub inside : ℕ
    pub opens : Passes b.gap b.opening text from true inside
    pub room : ℕ
    pub gives : Gives (list_inside inside room) numbers end

  -- and after those the closing byte is found or not: this is the position after what was used
  pub record Closed (from : ℕ) (numbers : List M) (is : Bool) (end : ℕ) : Type 0 where
    pub over : ℕ
    pub opened : Opened from numbers (Over over)
    pub closes : Passes b.gap b.closing text over is end

  -- The numbers after the opening byte, where a stream has an error of theirs. A reader may also
  -- fail, and a buffer be too small, at any place.
  abbrev pub OpenedFault : ℕ → List M → StreamError E → Type 0
  OpenedFault from numbers (Number error) = Opened from numbers (Fault (Number error))
  OpenedFault from numbers (NoRoom at) = ⊤
  OpenedFault from numbers (Read kind) = ⊤
  OpenedFault from numbers TooLong = ⊤
  OpenedFault from numbers (Trailing at why) = ⊤

  -- these are the numbers of a list between the two bytes, of which a fold came to this
  abbrev pub GivesEnclosed : {A : Type 0} → ℕ → List M → ℕ → Result A (EnclosedFoldError E) → Type 0
  GivesEnclosed from numbers end (Ok value) = Closed from numbers true end
  GivesEnclosed from numbers end (Err (NoOpening at)) = Passes b.gap b.opening text from false at
  GivesEnclosed from numbers end (Err (NoClosing at)) = Closed from numbers false at
  GivesEnclosed from numbers end (Err (Fold (Stopped at))) =
      (last : StreamEnd E) × Opened from numbers last × EndsAt last at
  GivesEnclosed from numbers end (Err (Fold (Stream error))) = OpenedFault from numbers error

  -- What reading a list between the two bytes came to: the value of its numbers, or an error. This
  -- is the position after the closing byte.
  pub record ReadsEnclosed {A : Type 0} (value_of : List M → A) (from end : ℕ)
      (result : Result A (EnclosedFoldError E)) : Type 0 where
    pub numbers : List M
    pub all : GivesEnclosed from numbers end result
    pub is : IfOk result (λ value. value ≡ value_of numbers)

-- what the steps of a fold between two bytes made
abbrev pub StepsEnclosed : {A V E : Type 0} → (A → V → Option A → Type 0) → A → List V
    → Result A (EnclosedFoldError E) → Type 0
StepsEnclosed gives init numbers (Ok last) = Makes gives init numbers last
StepsEnclosed gives init numbers (Err (NoOpening at)) = numbers ≡ []
StepsEnclosed {A} gives init numbers (Err (NoClosing at)) =
    (last : A) × Makes gives init numbers last
StepsEnclosed {A} gives init numbers (Err (Fold error)) =
    Steps {A = A} gives init numbers (Err error)

-- What a fold of a list between two bytes came to, by what its steps may answer.
pub record FoldsEnclosed {V M A E : Type 0} (gives : A → V → Option A → Type 0) (meaning : V → M)
    (init : A) (b : Brackets M E) (text : List ℕ) (from end : ℕ)
    (result : Result A (EnclosedFoldError E)) : Type 0 where
  pub numbers : List V
  pub steps : StepsEnclosed gives init numbers result
  pub all : GivesEnclosed b text from (map meaning numbers) end result

-- the same, if no step stops of a stream that has fewer than 2 ^ 64 numbers
abbrev pub unstopped : {E : Type 0} → EnclosedFoldError E → EnclosedFoldError E
unstopped (NoOpening at) = NoOpening at
unstopped (NoClosing at) = NoClosing at
unstopped (Fold error) = Fold (Stream (stream_error error))

abbrev pub never_stopped : {A E : Type 0} → Result A (EnclosedFoldError E)
    → Result A (EnclosedFoldError E)
never_stopped (Ok value) = Ok value
never_stopped (Err error) = Err (unstopped error)
