-- How a turn ends: where a list goes on, and why.
use Rattle.std.proofs.Common.{◌≡◌, ℕ, ◌+◌, ◌-◌, ◌^◌, ◌<◌, ◌≤◌, Bool, true, false, List, [], ◌++◌, length, map, take, drop, refl, sym, ap, ◌∙◌, arith, inl, inr, append-nil, length-drop}
use Rattle.std.specs.Prelude.{Option, Some, None, IfSome, IsSome, Result}
use Rattle.std.proofs.lemmas.List.{length-take-le, length-map}
use Rattle.digit_literals.specs.declared.list.Gap.{Gap}
use Rattle.digit_pieces.specs.declared.piece.PieceEnd.{PieceEnd}
use Rattle.digit_pieces.specs.declared.piece.PieceEnd.TheVariants as pieces
use Rattle.digit_pieces.specs.Cuts.{sure_end}
use Rattle.digit_pieces.specs.Pieces.{IfAt}
use Rattle.digit_streams.specs.declared.stream.StreamEnd.{StreamEnd}
use Rattle.digit_streams.specs.declared.stream.StreamEnd.TheVariants.{Full, Over, Fault}
use Rattle.digit_streams.specs.declared.stream.StreamError.{StreamError}
use Rattle.digit_streams.specs.declared.stream.StreamError.TheVariants.{Number, NoRoom, Read, TooLong, Trailing}
use Rattle.digit_streams.specs.declared.held.Held.TheVariants as held
use Rattle.digit_streams.specs.Streams.{StreamNumbers, AsksFor, GoesOn, HasReason, IfEndsFault, IfHeldFault, IsFailure, IsHeldPlace, IsLeft, IsTooLong, StandsAfter, Uses, held_of, held_piece, reach, used}
use Rattle.digit_streams.proofs.PiecesHeld.{last_more}
use Rattle.digit_streams.proofs.Turns.{some_then}

-- ---- a piece

module _ {E : Type 0} (later : ℕ → E → E) (position : ℕ) where
  pub held_place : (end : PieceEnd E) (Long : Type 0)
      → IsHeldPlace (held_of later position end) (position + used end) Long
  held_place (pieces.More at) Long = tt
  held_place (pieces.Full at) Long = refl
  held_place (pieces.Over at) Long = refl
  held_place (pieces.Fault error) Long = tt

  pub held_still : (end : PieceEnd E)
      → IfHeldFault (held_of later position end) (position + used end ≡ position)
  held_still (pieces.More at) = tt
  held_still (pieces.Full at) = tt
  held_still (pieces.Over at) = tt
  held_still (pieces.Fault error) = omega arith

  -- no number comes with an error
  pub held_fault : {V : Type 0} (number : Option V) (end : PieceEnd E) (error : StreamError E)
      → ((e : E) → end ≡ pieces.Fault e → number ≡ None)
      → held_of later position end ≡ held.End (Fault error) → IsSome number → error ≡ TooLong
  held_fault number (pieces.More at) error none is some =
      let e : held.More ≡ held.End (Fault error) = is in absurd cc
  held_fault number (pieces.Full at) error none is some =
      let e : held.End (Full (position + at)) ≡ held.End (Fault error) = is in absurd cc
  held_fault number (pieces.Over at) error none is some =
      let e : held.End (Over (position + at)) ≡ held.End (Fault error) = is in absurd cc
  held_fault (Some x) (pieces.Fault e) error none is some =
      let not : Some x ≡ None = none e refl in absurd cc
  held_fault None (pieces.Fault e) error none is some = absurd cc

module _ {A E : Type 0} (one : List ℕ → ℕ → Result (A × ℕ) E) (none_at : ℕ → E → Bool)
    (error_at : E → ℕ) (has : ℕ → Bool) (gap : Gap) where
  -- a position that is too large
  pub too_long : (position : ℕ) (text : List ℕ) (is_last : Bool) (room : ℕ) (end : PieceEnd E)
      (P : ℕ → Type 0) → ((at : ℕ) → P at → at ≤ length text) → IfAt end P
      → (held_piece one none_at has gap text is_last room).1 ≡ end
      → 2 ^ 64 ≤ position + reach error_at end
      → IsTooLong one none_at error_at has gap position text
  too_long position text is_last room (pieces.More at) P within here is past =
      let l = within at here in let p : 2 ^ 64 ≤ position + at = past in inl (omega (arith, l, p))
  too_long position text is_last room (pieces.Full at) P within here is past =
      let l = within at here in let p : 2 ^ 64 ≤ position + at = past in inl (omega (arith, l, p))
  too_long position text is_last room (pieces.Over at) P within here is past =
      let l = within at here in let p : 2 ^ 64 ≤ position + at = past in inl (omega (arith, l, p))
  too_long position text is_last room (pieces.Fault error) P within here is past =
      inr (is_last, room, rw is past)

  -- what a piece left, if it isn't the last
  pub left_of : (text left : List ℕ) (is_last : Bool) (room used : ℕ) (numbers : List A)
      → AsksFor one none_at has gap text is_last room numbers used → left ≡ drop used text
      → IsLeft one none_at has gap left
  left_of text left true room used numbers is rest =
      absurd (last_more (one text) none_at gap text (sure_end has text) room 0 numbers used is)
  left_of text left false room used numbers is rest =
      (text, room, numbers, used, is, rest)

  pub goes_on : (text : List ℕ) (is_last : Bool) (room used : ℕ) (numbers : List A)
      → AsksFor one none_at has gap text is_last room numbers used → is_last ≡ false
  goes_on text true room used numbers is =
      absurd (last_more (one text) none_at gap text (sure_end has text) room 0 numbers used is)
  goes_on text false room used numbers is = refl

  -- ---- the reason

  pub reason_end : (end : StreamEnd E) (position : ℕ) (text : List ℕ)
      → IsHeldPlace (held.End end) position (IsTooLong one none_at error_at has gap position text)
      → HasReason one none_at error_at has gap end position text
  reason_end (Full at) position text place = tt
  reason_end (Over at) position text place = tt
  reason_end (Fault (Number error)) position text place = tt
  reason_end (Fault (NoRoom at)) position text place = tt
  reason_end (Fault (Read kind)) position text place = absurd place
  reason_end (Fault TooLong) position text place = place
  reason_end (Fault (Trailing at why)) position text place = absurd place

  pub reason_failed : (error : StreamError E) (position : ℕ) (text : List ℕ) → IsFailure error
      → IsLeft one none_at has gap text
      → HasReason one none_at error_at has gap (Fault error) position text
  reason_failed (Number error) position text is left = absurd is
  reason_failed (NoRoom at) position text is left = tt
  reason_failed (Read kind) position text is left = (is, left)
  reason_failed TooLong position text is left = absurd is
  reason_failed (Trailing at why) position text is left = absurd is

-- ---- where the list goes on

pub numbers_length : {V A : Type 0} (meaning : V → A) (count : ℕ) (out : List V)
    → count ≤ length out → length (map meaning (take count out)) ≡ count
numbers_length meaning count out h =
    length-map (take count out) meaning ∙ length-take-le count out h

module _ {A E : Type 0} (list : ℕ → List ℕ → ℕ → StreamNumbers A E) (Apart : Type 0)
    (from at to room count : ℕ) (numbers : List A) (text : Option (List ℕ))
    (counted : length numbers ≡ count) where
  pub stands_end : (more : List A) (end : StreamEnd E) (Long : Type 0)
      → IsHeldPlace (held.End end) to Long → IfHeldFault (held.End end) (to ≡ at)
      → IfSome text (λ whole. Apart → GoesOn (list from whole room) numbers
      (list at (drop (at - from) whole) (room - count)))
      → IfSome text (λ whole. Apart → StandsAfter (list from whole room) (numbers ++ more) end
      (λ n. list to (drop (to - from) whole) (room - n)))
  stands_end more (Full i) Long place still goes = some_then text _ _ (λ whole h apart. tt) goes
  stands_end more (Over i) Long place still goes = some_then text _ _ (λ whole h apart. tt) goes
  stands_end more (Fault (Number error)) Long place still goes =
      some_then text _ _ (λ whole h apart. record {
        first = numbers;
        again = more;
        are = refl;
        on = rw (still, counted) (h apart);
      }) goes
  stands_end more (Fault (NoRoom i)) Long place still goes = absurd place
  stands_end more (Fault (Read kind)) Long place still goes = absurd place
  stands_end more (Fault TooLong) Long place still goes =
      some_then text _ _ (λ whole h apart. record {
        first = numbers;
        again = more;
        are = refl;
        on = rw (still, counted) (h apart);
      }) goes
  stands_end more (Fault (Trailing i why)) Long place still goes = absurd place

  pub stands_failed : (error : StreamError E) → IsFailure error
      → IfSome text (λ whole. Apart → GoesOn (list from whole room) numbers
      (list to (drop (to - from) whole) (room - count)))
      → IfSome text (λ whole. Apart → StandsAfter (list from whole room) numbers (Fault error)
      (λ n. list to (drop (to - from) whole) (room - n)))
  stands_failed (Number error) is goes = absurd is
  stands_failed (NoRoom i) is goes =
      some_then text _ _ (λ whole h apart. rw counted (h apart)) goes
  stands_failed (Read kind) is goes =
      some_then text _ _ (λ whole h apart. rw counted (h apart)) goes
  stands_failed TooLong is goes = absurd is
  stands_failed (Trailing i why) is goes = absurd is

  pub stands_long : IfSome text (λ whole. Apart → GoesOn (list from whole room) numbers
      (list to (drop (to - from) whole) (room - count)))
      → IfSome text (λ whole. Apart → StandsAfter (list from whole room) numbers (Fault TooLong)
      (λ n. list to (drop (to - from) whole) (room - n)))
  stands_long goes =
      some_then text _ _ (λ whole h apart. record {
        first = numbers;
        again = [];
        are = sym (append-nil numbers);
        on = rw counted (h apart);
      }) goes

-- the same where no number was read
pub onward_end : {A E : Type 0} (list : ℕ → List ℕ → ℕ → StreamNumbers A E) (Apart : Type 0)
    (from at to : ℕ) (text : Option (List ℕ)) (end : StreamEnd E)
    → IfHeldFault (held.End end) (to ≡ at)
    → IfSome text (λ whole. Apart → GoesOn (list from whole 1) []
    (list at (drop (at - from) whole) 1))
    → IfEndsFault end (IfSome text (λ whole. Apart → GoesOn (list from whole 1) []
    (list to (drop (to - from) whole) 1)))
onward_end list Apart from at to text (Full i) still goes = tt
onward_end list Apart from at to text (Over i) still goes = tt
onward_end list Apart from at to text (Fault error) still goes =
    some_then text _ _ (λ whole h apart. rw still (h apart)) goes

-- ---- how many turns there are: each but the last has a byte more

abbrev pub IsTurn : ℕ → Bool → ℕ → ℕ → Type 0
IsTurn turn is_over position held =
    (turn ≤ position + held + 1) × (is_over ≡ false → turn ≤ position + held)

pub turn_on : (turn from to : ℕ) (old new filled : List ℕ) (is_over : Bool)
    → turn ≤ from + length old → Uses from to old new
    → (is_over ≡ true → length filled ≡ length new)
    → (is_over ≡ false → length new < length filled)
    → IsTurn (turn + 1) is_over to (length filled)
turn_on turn from to old new filled true before uses none more =
    let is : length filled ≡ length new = none refl in
    let lengths : length new ≡ length old - (to - from) =
    ap length uses.rest ∙ length-drop (to - from) old in
    (omega (arith, before, uses.onward, uses.within, lengths, is), λ e. absurd cc)
turn_on turn from to old new filled false before uses none more =
    let is : length new < length filled = more refl in
    let lengths : length new ≡ length old - (to - from) =
    ap length uses.rest ∙ length-drop (to - from) old in (
      omega (arith, before, uses.onward, uses.within, lengths, is),
      λ e. omega (arith, before, uses.onward, uses.within, lengths, is),
    )
