-- Two calls in a row read what one would.
use Rattle.std.proofs.Common.{◌≡◌, ℕ, zero, suc, ◌+◌, ◌-◌, ◌≤◌, Bool, true, false, List, ◌++◌, length, drop, refl, ap, ◌∙◌, arith}
use Rattle.std.specs.Prelude.{Result, Ok, Err, IfOk, ◌&&◌, if◌then◌else◌}
use Rattle.digit_literals.specs.declared.list.Gap.{Gap}
use Rattle.digit_literals.specs.declared.list.ListEnd.TheVariants as lists
use Rattle.digit_literals.specs.Lists.{Numbers, past_blanks, and_then, IfFull}
use Rattle.digit_pieces.specs.Moves.{IsFresh}
use Rattle.digit_pieces.specs.Pieces.{list_later, next_start, after_of_whole, from_of_whole, whole_at}
use Rattle.digit_pieces.specs.Texts.{IsApart}
use Rattle.digit_pieces.proofs.Blanks.{blanks_within}
use Rattle.digit_pieces.proofs.Fresh.{past_fresh, start_fresh}
use Rattle.digit_pieces.proofs.GoesOn.{whole_goes_on}
use Rattle.digit_pieces.proofs.Moved.{start_within}
use Rattle.digit_pieces.proofs.Theorem.{AreNumbers, moved}
use Rattle.digit_streams.specs.Streams.{StreamNumbers, in_stream, stream_list, then_from}
use Rattle.digit_streams.proofs.PiecesHeld.{end_twice}

module _ {A E : Type 0} (one : List ℕ → ℕ → Result (A × ℕ) E) (none_at : ℕ → E → Bool)
    (later : ℕ → E → E) (has : ℕ → Bool) (gap : Gap)
    (are : AreNumbers one none_at later has) (apart : IsApart has gap) (text : List ℕ) where
  abbrev of : ℕ → ℕ → Numbers A E
  of room start = whole_at (one text) none_at gap text room start

  -- a position of the text, with no byte of a number before it
  record IsNext (at : ℕ) : Type 0 where
    within : at ≤ length text
    fresh : IsFresh has text at

  next_is : (next : Result ℕ ℕ) → IfOk next (λ n. n ≤ length text)
      → IfOk next (IsFresh has text) → IfOk next IsNext
  next_is (Ok next) low fresh = record { within = low; fresh = fresh }
  next_is (Err over) low fresh = tt

  none_full : (place : ℕ) (error : E) (is_over : Bool)
      → IfFull (if is_over then lists.Over place else lists.Fault error) IsNext
  none_full place error true = tt
  none_full place error false = tt

  full_is_next : (room at : ℕ) → IsNext at → IfFull (of room at).1 IsNext
  unfolding whole_at
  full_is_next zero at next = next
  full_is_next (suc room) at next =
      by_read (λ there. full_is_next room there) (one text place) refl
    where
      place : ℕ
      place = past_blanks gap text at

      here : IsNext place
      here = record {
        within = blanks_within gap text at next.within;
        fresh = past_fresh has gap apart text at next.fresh;
      }

      after : ((there : ℕ) → IsNext there → IfFull (of room there).1 IsNext) → (x : A)
          → (next : Result ℕ ℕ) → IfOk next IsNext
          → IfFull (after_of_whole (one text) none_at gap text (of room) x next).1 IsNext
      after same x (Ok next) is = same next is
      after same x (Err over) is = tt

      by_read : ((there : ℕ) → IsNext there → IfFull (of room there).1 IsNext)
          → (read : Result (A × ℕ) E) → one text place ≡ read
          → IfFull (from_of_whole (one text) none_at gap text (of room) place read).1 IsNext
      by_read same (Ok (x, end)) is =
          after same x (next_start gap text end)
          (next_is _ (start_within gap text end (are.ends text place end x here.within is))
          (start_fresh has gap apart text end))
      by_read same (Err error) is =
          none_full place error (gap.may_trail && none_at place error)

  -- the list from a position of the text on
  abbrev rest : ℕ → ℕ → Numbers A E
  rest room at = whole_at (one (drop at text)) none_at gap (drop at text) room 0

  module _ (later_more : (by more : ℕ) (e : E) → later by (later more e) ≡ later (by + more) e)
      (position m : ℕ) where
    abbrev from_there : ℕ → StreamNumbers A E
    from_there at = stream_list one none_at later gap at (drop (at - position) text) m

    later_there : (read : Numbers A E) → IfFull read.1 IsNext
        → in_stream later position (and_then read (of m))
        ≡ then_from (in_stream later position read) from_there
    later_there (numbers, lists.Full at) next =
        let none : at + 0 ≡ at = omega arith in
        let gone : position + at - position ≡ at = omega arith in
        let there : of m at ≡ list_later later at (rest m at) =
        rw none at (moved one none_at later has gap are text at next.within next.fresh m 0
        (omega arith)) in
        rw (there, gone)
        (ap (λ end. (numbers ++ (rest m at).0, end))
        (end_twice one none_at later gap later_more position at (rest m at).1))
    later_there (numbers, lists.Over at) next = refl
    later_there (numbers, lists.Fault error) next = refl

    pub calls_go_on : (n : ℕ) → stream_list one none_at later gap position text (n + m)
        ≡ then_from (stream_list one none_at later gap position text n) from_there
    calls_go_on n =
        ap (in_stream later position)
        (whole_goes_on (one text) none_at gap text n m 0)
        ∙ later_there (of n 0)
        (full_is_next n 0 (record { within = omega arith; fresh = refl }))
