-- What a reader gave, call after call.
use Rattle.std.proofs.Common.{◌≡◌, ℕ, ◌+◌, ◌-◌, ◌<◌, ◌≤◌, List, [], ◌++◌, drop, length, ap, refl, ◌∙◌, sym, subst, arith, append_assoc, append-nil}
use Rattle.std.proofs.lemmas.List.{drop-drop, length-drop}
use Rattle.std.specs.Prelude.{Bool, Option, None, Some, IfSome, IfNone, Result}
use Rattle.digit_literals.specs.declared.list.Gap.{Gap}
use Rattle.digit_pieces.specs.Pieces.{whole_at}
use Rattle.digit_streams.specs.declared.stream.Ended.{Ended}
use Rattle.digit_streams.specs.declared.stream.Ended.TheVariants as ended
use Rattle.digit_streams.specs.declared.stream.StreamEnd.{StreamEnd}
use Rattle.digit_streams.specs.declared.stream.StreamEnd.TheVariants.{Full, Over, Fault}
use Rattle.digit_streams.specs.declared.stream.StreamError.{StreamError}
use Rattle.digit_streams.specs.declared.stream.StreamError.TheVariants.{Number, NoRoom, Read, TooLong, Trailing}
use Rattle.digit_streams.specs.Streams.{Gives, HasGiven, HasGivenFrom, IsHere, IsPlace, StreamNumbers, UsesKnown, end_again, end_by, end_of_next, next_again, next_of, numbers_of_next, stream_list, then_from}

-- ---- the bytes

pub no_bytes : (at : ℕ) (known bytes : Option (List ℕ)) → bytes ≡ known
    → UsesKnown at at known bytes
no_bytes at None bytes e = tt
no_bytes at (Some text) None e = absurd cc
no_bytes at (Some text) (Some bytes) e =
    let same : bytes ≡ text = cc in
    let none : at - at ≡ 0 = omega arith in
    record { onward = omega arith; within = omega arith; rest = rw none same }

pub more_bytes : (start position at : ℕ) (known bytes rest : Option (List ℕ))
    → UsesKnown start position known bytes → UsesKnown position at bytes rest
    → UsesKnown start at known rest
more_bytes start position at None bytes rest first second = tt
more_bytes start position at (Some text) None rest first second = absurd first
more_bytes start position at (Some text) (Some bytes) None first second = absurd second
more_bytes start position at (Some text) (Some bytes) (Some rest) first second =
    let left : length bytes ≡ length text - (position - start) =
    ap length first.rest ∙ length-drop (position - start) text in
    let sum : position - start + (at - position) ≡ at - start =
    omega (arith, first.onward, second.onward) in
    record {
      onward = omega (arith, first.onward, second.onward);
      within = omega (arith, first.within, first.onward, second.within, second.onward, left);
      rest = second.rest ∙ ap (drop (at - position)) first.rest
          ∙ drop-drop (at - position) (position - start) text ∙ ap (λ n. drop n text) sum;
    }

-- positions in order, of a list that begins after a start
abbrev Order : ℕ → ℕ → ℕ → Option (List ℕ) → Type 0
Order start from position known = IfSome known (λ text. (start ≤ from) × (from ≤ position))

order_here : (start at : ℕ) (known bytes : Option (List ℕ)) → UsesKnown start at known bytes
    → Order start at at known
order_here start at None bytes uses = tt
order_here start at (Some text) None uses = absurd uses
order_here start at (Some text) (Some bytes) uses = (uses.onward, omega arith)

order_on : (start from position at : ℕ) (known bytes rest : Option (List ℕ))
    → UsesKnown start position known bytes → UsesKnown position at bytes rest
    → Order start from position known → Order start from at known
order_on start from position at None bytes rest first second order = tt
order_on start from position at (Some text) None rest first second order = absurd first
order_on start from position at (Some text) (Some bytes) None first second order = absurd second
order_on start from position at (Some text) (Some bytes) (Some rest) first second order =
    (order.0, omega (arith, order.1, second.onward))

-- with no room is no number
pub none_yet : {A E : Type 0} (one : List ℕ → ℕ → Result (A × ℕ) E) (none_at : ℕ → E → Bool)
    (later : ℕ → E → E) (gap : Gap) (position : ℕ) (text : List ℕ)
    → stream_list one none_at later gap position text 0 ≡ ([], Full position)
unfolding whole_at
none_yet one none_at later gap position text =
    let none : position + 0 ≡ position = omega arith in ap (λ n. ([], Full n)) none

-- what `finish` says of a stream that was read to a position
pub none_left : (position : ℕ) (text : List ℕ) (bytes : Option (List ℕ))
    → UsesKnown 0 position (Some text) bytes → IfSome bytes (λ bytes. bytes ≡ [])
    → position ≡ length text
none_left position text None uses none = absurd uses
none_left position text (Some bytes) uses none =
    let left : length bytes ≡ length text - (position - 0) =
    ap length uses.rest ∙ length-drop (position - 0) text in
    let zero : length bytes ≡ 0 = ap length none in
    omega (arith, uses.within, left, zero)

pub some_left : (position : ℕ) (text : List ℕ) (bytes : Option (List ℕ))
    → UsesKnown 0 position (Some text) bytes → IfSome bytes (λ bytes. 0 < length bytes)
    → position < length text
some_left position text None uses some = absurd uses
some_left position text (Some bytes) uses some =
    let left : length bytes ≡ length text - (position - 0) =
    ap length uses.rest ∙ length-drop (position - 0) text in
    omega (arith, left, some)

-- ---- the numbers

here : {E : Type 0} (end : StreamEnd E) (position capacity held : ℕ)
    → IsPlace end position capacity held → IsHere end position
here (Full at) position capacity held place = tt
here (Over at) position capacity held place = place
here (Fault (Number error)) position capacity held place = tt
here (Fault (NoRoom at)) position capacity held place = tt
here (Fault (Read kind)) position capacity held place = tt
here (Fault TooLong) position capacity held place = tt
here (Fault (Trailing at why)) position capacity held place = absurd place

module _ {A E : Type 0} where
  -- what a call gives, after numbers for which the room was full
  gives_both : (list : StreamNumbers A E) (numbers more : List A) (end : StreamEnd E)
      → Gives list more end → Gives (numbers ++ list.0, list.1) (numbers ++ more) end
  gives_both list numbers more (Full at) h = ap (λ l. (numbers ++ l.0, l.1)) h
  gives_both list numbers more (Over at) h = ap (λ l. (numbers ++ l.0, l.1)) h
  gives_both list numbers more (Fault (Number error)) h = ap (λ l. (numbers ++ l.0, l.1)) h
  gives_both list numbers more (Fault (NoRoom at)) h =
      (h.0, ap (λ l. numbers ++ l) h.1 ∙ sym (append_assoc numbers more h.0))
  gives_both list numbers more (Fault (Read kind)) h =
      (h.0, ap (λ l. numbers ++ l) h.1 ∙ sym (append_assoc numbers more h.0))
  gives_both list numbers more (Fault TooLong) h =
      (h.0, ap (λ l. numbers ++ l) h.1 ∙ sym (append_assoc numbers more h.0))
  gives_both list numbers more (Fault (Trailing at why)) h =
      (h.0, ap (λ l. numbers ++ l) h.1 ∙ sym (append_assoc numbers more h.0))

  module _ (list : ℕ → List ℕ → ℕ → StreamNumbers A E) where
    begins : (start from : ℕ) (known : Option (List ℕ))
        → ((text : List ℕ) → list from text 0 ≡ ([], Full from))
        → IfSome known (λ text. (room : ℕ)
        × Gives (list from (drop (from - start) text) room) [] (Full from))
    begins start from None none = tt
    begins start from (Some text) none = (0, none (drop (from - start) text))

    -- of a list that begins here, nothing was given
    pub given_here : (start at : ℕ) (known bytes : Option (List ℕ))
        → ((text : List ℕ) → list at text 0 ≡ ([], Full at)) → UsesKnown start at known bytes
        → HasGivenFrom start at list known [] (Full at) at bytes
    given_here start at known bytes none uses = record {
      order = order_here start at known bytes uses;
      uses = uses;
      gives = begins start at known none;
      here = tt;
    }

    -- a new reader gave nothing
    pub given_none : (known bytes : Option (List ℕ)) (position at : ℕ) (ended : Option (Ended E))
        → ((text : List ℕ) → list at text 0 ≡ ([], Full at))
        → bytes ≡ known → position ≡ at → ended ≡ None
        → HasGivenFrom at at list known [] (end_by position ended) position bytes
    given_none known bytes position at ended none same first on =
        rw (on, first) (given_here at at known bytes none (no_bytes at known bytes same))

    -- the list from the start of the stream on
    pub given_all : (known bytes : Option (List ℕ)) (numbers : List A) (end : StreamEnd E)
        (position : ℕ) → HasGivenFrom 0 0 list known numbers end position bytes
        → HasGiven (list 0) known numbers end position bytes
    given_all known bytes numbers end position given =
        record { uses = given.uses; gives = given.gives; here = given.here }

    order_all : (position : ℕ) (known : Option (List ℕ)) → Order 0 0 position known
    order_all position None = tt
    order_all position (Some text) = (omega arith, omega arith)

    pub given_from_all : (known bytes : Option (List ℕ)) (numbers : List A) (end : StreamEnd E)
        (position : ℕ) → HasGiven (list 0) known numbers end position bytes
        → HasGivenFrom 0 0 list known numbers end position bytes
    given_from_all known bytes numbers end position given = record {
      order = order_all position known;
      uses = given.uses;
      gives = given.gives;
      here = given.here;
    }

    module _ (start from m : ℕ) (numbers more : List A) (end : StreamEnd E)
        (on : (n : ℕ) (text : List ℕ) → list from text (n + m)
        ≡ then_from (list from text n) (λ at. list at (drop (at - from) text) m)) where
      abbrev room_for : Option (List ℕ) → List A → StreamEnd E → Type 0
      room_for known numbers end = IfSome known (λ text. (room : ℕ)
          × Gives (list from (drop (from - start) text) room) numbers end)

      gives_on : (position : ℕ) (known bytes : Option (List ℕ))
          → UsesKnown start position known bytes → Order start from position known
          → room_for known numbers (Full position)
          → IfSome bytes (λ bytes. Gives (list position bytes m) more end)
          → room_for known (numbers ++ more) end
      gives_on position None bytes uses order so_far gives = tt
      gives_on position (Some text) None uses order so_far gives = absurd uses
      gives_on position (Some text) (Some bytes) uses order (n, first) gives =
          let sum : from - start + (position - from) ≡ position - start =
          omega (arith, order.0, order.1) in
          let rest : drop (position - from) (drop (from - start) text) ≡ bytes =
          drop-drop (position - from) (from - start) text ∙ ap (λ k. drop k text) sum
          ∙ sym uses.rest in (
            n + m,
            rw (on n (drop (from - start) text), first)
                (gives_both (list position (drop (position - from) (drop (from - start) text)) m)
                numbers more end (rw rest gives)),
          )

    -- one more call of `next_number`
    module _ {V : Type 0} (meaning : V → A) (before : List A) (start from position at : ℕ)
        (after : Option (Ended E)) (result : Option (Result V (StreamError E)))
        (on : (n : ℕ) (text : List ℕ) → list from text (n + 1)
        ≡ then_from (list from text n) (λ at. list at (drop (at - from) text) 1)) where
      abbrev IsGiven : Option (List ℕ) → Option (Result V (StreamError E)) → Type 0
      IsGiven known result = IfSome known (λ text. (room : ℕ)
          × Gives (list from (drop (from - start) text) room)
          (before ++ numbers_of_next meaning result) (end_of_next result at after))

      gives_next : (ended : Option (Ended E)) (known bytes : Option (List ℕ))
          → UsesKnown start position known bytes → Order start from position known
          → IfSome known (λ text. (room : ℕ) × Gives (list from (drop (from - start) text) room)
          before (end_by position ended))
          → IsHere (end_by position ended) position
          → IfNone ended (IfSome bytes (λ bytes. Gives (list position bytes 1)
          (numbers_of_next meaning result) (end_of_next result at after)))
          → IfSome ended (λ ended. result ≡ next_again ended)
          → IfSome ended (λ ended. at ≡ position) → IsGiven known result
      gives_next None known bytes uses order so_far here gives again still =
          gives_on start from 1 before (numbers_of_next meaning result)
          (end_of_next result at after) on position known bytes uses order so_far gives
      gives_next (Some (ended.Over over)) known bytes uses order so_far here gives again still =
          let none : IfSome known (λ text. (room : ℕ)
          × Gives (list from (drop (from - start) text) room) (before ++ []) (Over at)) =
          rw (append-nil before, still, ← here) so_far in
          subst (IsGiven known) (sym again) none
      gives_next (Some (ended.Fault error)) known bytes uses order so_far here gives again still =
          subst (IsGiven known) (sym again)
          (subst (λ numbers. IfSome known (λ text. (room : ℕ)
          × Gives (list from (drop (from - start) text) room) numbers (Fault error)))
          (sym (append-nil before)) so_far)

      here_next : (ended : Option (Ended E)) (capacity held : ℕ)
          → IsHere (end_by position ended) position
          → IfNone ended (IsPlace (end_of_next result at after) at capacity held)
          → IfSome ended (λ ended. result ≡ next_again ended)
          → IsHere (end_of_next result at after) at
      here_next None capacity held before place again =
          here (end_of_next result at after) at capacity held place
      here_next (Some (ended.Over over)) capacity held before place again =
          subst (λ result. IsHere (end_of_next result at after) at) (sym again) refl
      here_next (Some (ended.Fault error)) capacity held before place again =
          subst (λ result. IsHere (end_of_next result at after) at) (sym again) before

      if_apart : (Apart : Type 0) → Apart → (ended : Option (Ended E)) (bytes : Option (List ℕ))
          → IfNone ended (IfSome bytes (λ bytes. Apart → Gives (list position bytes 1)
          (numbers_of_next meaning result) (end_of_next result at after)))
          → IfNone ended (IfSome bytes (λ bytes. Gives (list position bytes 1)
          (numbers_of_next meaning result) (end_of_next result at after)))
      if_apart Apart apart (Some ended) bytes gives = tt
      if_apart Apart apart None None gives = tt
      if_apart Apart apart None (Some bytes) gives = gives apart

      pub given_next : (Apart : Type 0) (ended : Option (Ended E))
          (known bytes rest : Option (List ℕ)) (capacity held : ℕ)
          → HasGivenFrom start from list known before (end_by position ended) position bytes
          → Apart
          → IfNone ended (IfSome bytes (λ bytes. Apart → Gives (list position bytes 1)
          (numbers_of_next meaning result) (end_of_next result at after)))
          → UsesKnown position at bytes rest
          → IfNone ended (IsPlace (end_of_next result at after) at capacity held)
          → IfSome ended (λ ended. result ≡ next_again ended)
          → IfSome ended (λ ended. at ≡ position)
          → HasGivenFrom start from list known (before ++ numbers_of_next meaning result)
          (end_of_next result at after) at rest
      given_next Apart ended known bytes rest capacity held given apart gives uses place again
          still = record {
            order = order_on start from position at known bytes rest given.uses uses given.order;
            uses = more_bytes start position at known bytes rest given.uses uses;
            gives =
                gives_next ended known bytes given.uses given.order given.gives given.here
                (if_apart Apart apart ended bytes gives) again still;
            here = here_next ended capacity held given.here place again;
          }

-- what is told after an end
pub told_again : {V E : Type 0} (before : Option (Ended E)) (number : Option V) (end : StreamEnd E)
    → IfSome before (λ ended. ◌≡◌ {A = Option V × StreamEnd E} (number, end)
    (None, end_again ended))
    → IfSome before (λ ended. next_of number end ≡ next_again ended)
told_again None number end again = tt
told_again (Some (ended.Over at)) number end again =
    let no : number ≡ None = ap (λ l. l.0) again in
    let over : end ≡ Over at = ap (λ l. l.1) again in
    rw (no, over) refl
told_again (Some (ended.Fault error)) number end again =
    let no : number ≡ None = ap (λ l. l.0) again in
    let fault : end ≡ Fault error = ap (λ l. l.1) again in
    rw (no, fault) refl
