-- A fold of the numbers that a reader gives.
use Rattle.std.proofs.Common.{◌≡◌, ℕ, ◌-◌, ◌<◌, drop, List, [], ◌∷◌, ◌++◌, length, map, refl, sym, ap, ◌∙◌, append_assoc, append-nil}
use Rattle.std.proofs.lemmas.Fn.{FoldsTo-push}
use Rattle.std.proofs.lemmas.List.{map_push}
use Rattle.std.specs.Prelude.{Option, None, Some, Result, Ok, Err, IfSome}
use Rattle.digit_streams.specs.declared.fold.FoldError.{FoldError}
use Rattle.digit_streams.specs.declared.fold.FoldError.TheVariants as folds
use Rattle.digit_streams.specs.declared.stream.Ended.{Ended}
use Rattle.digit_streams.specs.declared.stream.Ended.TheVariants as ended
use Rattle.digit_streams.specs.declared.stream.StreamEnd.{StreamEnd}
use Rattle.digit_streams.specs.declared.stream.StreamEnd.TheVariants.{Full, Over, Fault}
use Rattle.digit_streams.specs.declared.stream.StreamError.{StreamError}
use Rattle.digit_streams.specs.declared.stream.StreamError.TheVariants.{Number, NoRoom, Read, TooLong, Trailing}
use Rattle.digit_streams.specs.Streams.{BeginsWith, Gives, HasGiven, HasGivenFrom, IfTrailing, IsHere, IsUnknown, Stream, StreamNumbers, end_by, end_of_next, numbers_of_next}
use Rattle.digit_streams.specs.Folds.{EndsAt, Folded, FoldsText, GivesAll, IfStopped, Makes, Steps, end_of_fold}
use Rattle.digit_streams.proofs.Given.{given_all, given_from_all, none_left, some_left}

-- the end after a number
end_after : {V E : Type 0} (x : V) (position : ℕ) (ended : Option (Ended E))
    → end_of_next (Some (Ok x)) position ended ≡ end_by position ended
end_after x position None = refl
end_after x position (Some end) = refl

-- one number more
one_more : {V M : Type 0} (meaning : V → M) (before : List M) (numbers : List V) (x : V)
    → (before ++ map meaning numbers) ++ meaning x ∷ []
    ≡ before ++ map meaning (numbers ++ x ∷ [])
one_more meaning before numbers x =
    append_assoc before (map meaning numbers) (meaning x ∷ [])
    ∙ ap (λ l. before ++ l) (sym (map_push meaning numbers x))

-- the first numbers of a list, however it ends
pub begins : {M E : Type 0} (list : StreamNumbers M E) (numbers : List M) (end : StreamEnd E)
    → Gives list numbers end → BeginsWith list.0 numbers
begins list numbers (Full at) h = ([], ap (λ l. l.0) h ∙ sym (append-nil numbers))
begins list numbers (Over at) h = ([], ap (λ l. l.0) h ∙ sym (append-nil numbers))
begins list numbers (Fault (Number error)) h = ([], ap (λ l. l.0) h ∙ sym (append-nil numbers))
begins list numbers (Fault (NoRoom at)) h = h
begins list numbers (Fault (Read kind)) h = h
begins list numbers (Fault TooLong) h = h
begins list numbers (Fault (Trailing at why)) h = h

begins_known : {M E : Type 0} (list : List ℕ → ℕ → StreamNumbers M E) (known : Option (List ℕ))
    (numbers : List M) (end : StreamEnd E)
    → IfSome known (λ text. (room : ℕ) × Gives (list text room) numbers end)
    → IfSome known (λ text. (room : ℕ) × BeginsWith (list text room).0 numbers)
begins_known list None numbers end h = tt
begins_known list (Some text) numbers end (room, h) =
    (room, begins (list text room) numbers end h)

module _ {K V M A E : Type 0} (gives : A → V → Option A → Type 0) (meaning : V → M) (init : A)
    (Apart : Type 0) (list : ℕ → List ℕ → ℕ → StreamNumbers M E) (old : Stream K E) where
  -- a reader, which is at a state now, gave these numbers after those before
  abbrev Gave : Stream K E → List M → StreamEnd E → Type 0
  Gave now more end = (start from : ℕ) (known : Option (List ℕ)) (before : List M) → Apart
      → HasGivenFrom start from list known before (end_by old.position old.ended) old.position
      old.bytes
      → HasGivenFrom start from list known (before ++ more) end now.position now.bytes

  -- the value so far was made of the numbers that a reader gave so far
  pub record SoFar (now : Stream K E) (value : A) : Type 0 where
    pub numbers : List V
    pub made : Makes gives init numbers value
    pub gave : Gave now (map meaning numbers) (end_by now.position now.ended)

  -- what one call of `next_number` says
  abbrev Next : Stream K E → Stream K E → Option (Result V (StreamError E)) → Type 0
  Next now new result = (start from : ℕ) (known : Option (List ℕ)) (before : List M) → Apart
      → HasGivenFrom start from list known before (end_by now.position now.ended) now.position
      now.bytes
      → HasGivenFrom start from list known (before ++ numbers_of_next meaning result)
      (end_of_next result new.position new.ended) new.position new.bytes

  pub so_far_none : SoFar old init
  so_far_none = record {
    numbers = [];
    made = refl;
    gave = λ start from known before apart h. rw (append-nil before) h;
  }

  gave_more : (now new : Stream K E) (value : A) (number : V) → (so_far : SoFar now value)
      → Next now new (Some (Ok number))
      → Gave new (map meaning (so_far.numbers ++ number ∷ [])) (end_by new.position new.ended)
  gave_more now new value number so_far goes = λ start from known before apart h.
      rw (one_more meaning before so_far.numbers number, end_after number new.position new.ended)
      at (goes start from known (before ++ map meaning so_far.numbers) apart
      (so_far.gave start from known before apart h))

  pub so_far_more : (now new : Stream K E) (value next : A) (number : V) → SoFar now value
      → gives value number (Some next) → Next now new (Some (Ok number)) → SoFar new next
  so_far_more now new value next number so_far step goes = record {
    numbers = so_far.numbers ++ number ∷ [];
    made = FoldsTo-push _ _ _ _ _ _ so_far.made step;
    gave = gave_more now new value number so_far goes;
  }

  folded : (new : Stream K E) (result : Result A (FoldError E)) (numbers : List V)
      → Steps gives init numbers result
      → Gave new (map meaning numbers) (end_of_fold result new.position new.ended) → Apart
      → Folded gives meaning init list old new result
  folded new result numbers steps gave apart = record {
    numbers = numbers;
    steps = steps;
    given = λ known before h.
        given_all list known new.bytes _ _ new.position (gave 0 0 known before apart
        (given_from_all list known old.bytes before _ old.position h));
    given_from = λ start from known before h. gave start from known before apart h;
  }

  gave_no_more : (now new : Stream K E) (value : A) (result : Option (Result V (StreamError E)))
      → (so_far : SoFar now value) → numbers_of_next meaning result ≡ [] → Next now new result
      → Gave new (map meaning so_far.numbers) (end_of_next result new.position new.ended)
  gave_no_more now new value result so_far none goes = λ start from known before apart h.
      let all = before ++ map meaning so_far.numbers in
      rw (none, append-nil all)
      at (goes start from known all apart (so_far.gave start from known before apart h))

  pub folded_all : (now new : Stream K E) (value : A) → SoFar now value → Next now new None
      → Apart → Folded gives meaning init list old new (Ok value)
  folded_all now new value so_far goes =
      folded new (Ok value) so_far.numbers so_far.made
      (gave_no_more now new value None so_far refl goes)

  pub folded_error : (now new : Stream K E) (value : A) (error : StreamError E)
      → SoFar now value → Next now new (Some (Err error))
      → Apart → Folded gives meaning init list old new (Err (folds.Stream error))
  folded_error now new value error so_far goes =
      folded new (Err (folds.Stream error)) so_far.numbers (value, so_far.made)
      (gave_no_more now new value (Some (Err error)) so_far refl goes)

  pub folded_stop : (now new : Stream K E) (value : A) (number : V) (at : ℕ) → SoFar now value
      → gives value number None → Next now new (Some (Ok number))
      → Apart → Folded gives meaning init list old new (Err (folds.Stopped at))
  folded_stop now new value number at so_far step goes =
      folded new (Err (folds.Stopped at)) (so_far.numbers ++ number ∷ [])
      (so_far.numbers, value, number, refl, so_far.made, step)
      (gave_more now new value number so_far goes)

  -- as many turns as there may be
  pub folded_long : (now : Stream K E) (value : A) → SoFar now value
      → Apart → Folded gives meaning init list old now (Err (folds.Stream TooLong))
  folded_long now value so_far =
      folded now (Err (folds.Stream TooLong)) so_far.numbers (value, so_far.made)
      (λ start from known before apart h.
      let given = so_far.gave start from known before apart h in
      record {
        order = given.order;
        uses = given.uses;
        gives =
            begins_known (λ text room. list from (drop (from - start) text) room) known _ _
            given.gives;
        here = tt;
      })

-- ---- a whole text

pub if_apart : (Apart : Type 0) (known : Option (List ℕ)) (P : List ℕ → Type 0)
    → (Apart → IfSome known P) → IfSome known (λ text. Apart → P text)
if_apart Apart None P h = tt
if_apart Apart (Some text) P h = h

-- where a list ends after numbers
pub ends_at : {E : Type 0} (position : ℕ) (ended : Option (Ended E))
    → IsHere (end_by position ended) position → EndsAt (end_by position ended) position
ends_at position None here = refl
ends_at position (Some (ended.Over at)) here = here
ends_at position (Some (ended.Fault error)) here = tt

module _ {V M A E : Type 0} (gives : A → V → Option A → Type 0) (meaning : V → M) (init : A)
    (list : List ℕ → ℕ → StreamNumbers M E) where
  -- the list is over, and nothing follows it
  pub text_all : (known bytes : Option (List ℕ)) (numbers : List V) (value : A) (position : ℕ)
      → Makes gives init numbers value
      → HasGiven list known (map meaning numbers) (Over position) position bytes
      → IfSome bytes (λ bytes. bytes ≡ [])
      → IfSome known (λ text. FoldsText gives meaning init list text (Ok value))
  text_all None bytes numbers value position made given none = tt
  text_all (Some text) bytes numbers value position made given none = record {
    numbers = numbers;
    steps = made;
    room = given.gives.0;
    all = given.gives.1 ∙ ap (λ at. (map meaning numbers, Over at))
        (none_left position text bytes given.uses none);
  }

  first_of : (text : List ℕ) (room position : ℕ) (numbers : List M)
      → list text room ≡ (numbers, Over position) → BeginsWith (list text room).0 numbers
  first_of text room position numbers is = begins (list text room) numbers (Over position) is

  -- the list is over, and the stream isn't, or may not be
  after_over : (text : List ℕ) (bytes : Option (List ℕ)) (numbers : List V) (value : A)
      (position capacity : ℕ) (held : List ℕ) (error : StreamError E)
      → Makes gives init numbers value
      → HasGiven list (Some text) (map meaning numbers) (Over position) position bytes
      → IfTrailing error (λ at. (at ≡ position) × IfSome bytes (λ bytes. 0 < length bytes))
      → IsUnknown error position capacity held
      → FoldsText gives meaning init list text (Err (folds.Stream error))
  after_over text bytes numbers value position capacity held (Number error) made given trails
      unknown = absurd unknown
  after_over text bytes numbers value position capacity held (NoRoom at) made given trails
      unknown = record {
        numbers = numbers;
        steps = (value, made);
        room = given.gives.0;
        all = (first_of text given.gives.0 position _ given.gives.1, tt);
      }
  after_over text bytes numbers value position capacity held (Read kind) made given trails
      unknown = record {
        numbers = numbers;
        steps = (value, made);
        room = given.gives.0;
        all = (first_of text given.gives.0 position _ given.gives.1, tt);
      }
  after_over text bytes numbers value position capacity held TooLong made given trails
      unknown = absurd unknown
  after_over text bytes numbers value position capacity held (Trailing at why) made given trails
      unknown = record {
        numbers = numbers;
        steps = (value, made);
        room = given.gives.0;
        all = (
          given.gives.1 ∙ ap (λ at. (map meaning numbers, Over at)) (sym trails.0),
          rw trails.0 (some_left position text bytes given.uses trails.1),
        );
      }

  pub text_over : (known bytes : Option (List ℕ)) (numbers : List V) (value : A)
      (position capacity : ℕ) (held : List ℕ) (error : StreamError E)
      → Makes gives init numbers value
      → HasGiven list known (map meaning numbers) (Over position) position bytes
      → IfTrailing error (λ at. (at ≡ position) × IfSome bytes (λ bytes. 0 < length bytes))
      → IsUnknown error position capacity held
      → IfSome known (λ text. FoldsText gives meaning init list text (Err (folds.Stream error)))
  text_over None bytes numbers value position capacity held error made given trails unknown = tt
  text_over (Some text) bytes numbers value position capacity held error made given trails
      unknown =
      after_over text bytes numbers value position capacity held error made given trails unknown

  -- there is an error of the numbers
  at_error : (text : List ℕ) (bytes : Option (List ℕ)) (numbers : List V) (value : A)
      (position : ℕ) (error : StreamError E) → Makes gives init numbers value
      → HasGiven list (Some text) (map meaning numbers) (Fault error) position bytes
      → FoldsText gives meaning init list text (Err (folds.Stream error))
  at_error text bytes numbers value position error made given = record {
    numbers = numbers;
    steps = (value, made);
    room = given.gives.0;
    all = all_of error given.gives.1 given.here;
  } where
    all_of : (error : StreamError E)
        → Gives (list text given.gives.0) (map meaning numbers) (Fault error)
        → IsHere (Fault error) position
        → GivesAll {A = A} (list text given.gives.0) (length text) (map meaning numbers) (Err error)
    all_of (Number error) h here = (h, tt)
    all_of (NoRoom at) h here = (h, tt)
    all_of (Read kind) h here = (h, tt)
    all_of TooLong h here = (h, tt)
    all_of (Trailing at why) h here = absurd here

  -- a step stopped
  at_stop : (text : List ℕ) (bytes : Option (List ℕ)) (numbers : List V) (position at : ℕ)
      (ended : Option (Ended E)) → Steps {E = E} gives init numbers (Err (folds.Stopped at))
      → HasGiven list (Some text) (map meaning numbers) (end_by position ended) position bytes
      → at ≡ position → FoldsText gives meaning init list text (Err (folds.Stopped at))
  at_stop text bytes numbers position at ended steps given same = record {
    numbers = numbers;
    steps = steps;
    room = given.gives.0;
    all = (end_by position ended, given.gives.1, rw same (ends_at position ended given.here));
  }

  module _ {K : Type 0} (lists : ℕ → List ℕ → ℕ → StreamNumbers M E) (is : lists 0 ≡ list)
      (old new : Stream K E) where
    pub text_error : (known : Option (List ℕ)) (error : FoldError E)
        → HasGiven list known [] (end_by old.position old.ended) old.position old.bytes
        → IfStopped error (λ at. at ≡ new.position)
        → Folded gives meaning init lists old new (Err error)
        → IfSome known (λ text. FoldsText gives meaning init list text (Err error))
    text_error None error given stopped folded = tt
    text_error (Some text) (folds.Stopped at) given stopped folded =
        at_stop text new.bytes folded.numbers new.position at new.ended folded.steps
        ((rw is at folded.given) (Some text) [] given) stopped
    text_error (Some text) (folds.Stream error) given stopped folded =
        at_error text new.bytes folded.numbers folded.steps.0 new.position error folded.steps.1
        ((rw is at folded.given) (Some text) [] given)
