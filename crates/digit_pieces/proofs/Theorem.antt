-- A text that is read piece by piece, each after what was left, gives its list.
use Rattle.std.proofs.Common.{◌≡◌, ℕ, zero, suc, ◌+◌, ◌<◌, ◌≤◌, Bool, List, [], ◌∷◌, ◌++◌, length, drop, refl, ap, ◌∙◌, arith, append_assoc, length-append}
use Rattle.std.specs.Prelude.{Result, Ok}
use Rattle.std.specs.List.{concat}
use Rattle.std.proofs.lemmas.List.{drop-append-le}
use Rattle.digit_literals.specs.declared.list.Gap.{Gap}
use Rattle.digit_literals.specs.Lists.{Numbers}
use Rattle.digit_languages.specs.Follows.{AreSameBefore}
use Rattle.digit_pieces.specs.Cuts.{sure_end}
use Rattle.digit_pieces.specs.Moves.{IsFresh, outcome_later}
use Rattle.digit_pieces.specs.Pieces.{and_more, list_later}
use Rattle.digit_pieces.specs.Texts.{IsApart, list_of, piece_of, read_pieces}
use Rattle.digit_pieces.proofs.Blanks.{get_front}
use Rattle.digit_pieces.proofs.SureEnds.{sure_within, sure_stays}
use Rattle.digit_pieces.proofs.Moved.{list_moved}
use Rattle.digit_pieces.proofs.Cut.{IsNext, more_same, if_more, always_more, cut_list, more_is_next}

-- What a kind of numbers promises.
pub record AreNumbers {A E : Type 0} (one : List ℕ → ℕ → Result (A × ℕ) E) (none_at : ℕ → E → Bool)
    (later : ℕ → E → E) (has : ℕ → Bool) : Type 0 where
  pub follows : (text other : List ℕ) (at start : ℕ) → AreSameBefore has text other at
      → start ≤ at → one text start ≡ one other start
  pub precedes : (text : List ℕ) (from at : ℕ) → from + at ≤ length text → IsFresh has text from
      → one text (from + at) ≡ outcome_later later from (one (drop from text) at)
  pub ends : (text : List ℕ) (start end : ℕ) (x : A) → start ≤ length text
      → one text start ≡ Ok (x, end) → end ≤ length text
  pub none_later : (by place : ℕ) (e : E)
      → none_at (by + place) (later by e) ≡ none_at place e

-- a position with nothing of a number before it, in a text that goes on
fresh_on : (has : ℕ → Bool) (text more : List ℕ) (at : ℕ) → at ≤ length text
    → IsFresh has text at → IsFresh has (text ++ more) at
fresh_on has text more zero low h = h
fresh_on has text more (suc at) low h = rw (get_front text more at (omega arith)) h

module _ {A E : Type 0} (one : List ℕ → ℕ → Result (A × ℕ) E) (none_at : ℕ → E → Bool)
    (later : ℕ → E → E) (has : ℕ → Bool) (gap : Gap)
    (are : AreNumbers one none_at later has) where
  abbrev of : List ℕ → ℕ → ℕ → Numbers A E
  of text room start = list_of one none_at later has gap text room start

  -- before the sure end what follows makes no difference
  pub stays : (text more : List ℕ) (at : ℕ) → at < sure_end has text
      → one (text ++ more) at ≡ one text at
  stays text more at h = sure_stays has text one are.follows more at h

  -- from a position with nothing of a number before it, what was before makes no difference
  pub moved : (text : List ℕ) (from : ℕ) → from ≤ length text → IsFresh has text from
      → (room at : ℕ) → at ≤ length (drop from text)
      → of text room (from + at) ≡ list_later later from (of (drop from text) room at)
  moved text from within fresh =
      list_moved one none_at later gap text from within are.none_later
      (λ at low. are.precedes text from at low fresh) (are.ends (drop from text))

  module _ (apart : IsApart has gap) where
    -- one cut: the piece, and where it asks for more, the list of what is left with what follows
    pub cut : (piece more : List ℕ) (room : ℕ)
        → of (piece ++ more) room 0 ≡ and_more room
        (piece_of one none_at later has gap piece room 0)
        (λ left at. list_later later at (of (drop at piece ++ more) left 0))
    cut piece more room =
        cut_list (one piece) (one (piece ++ more)) none_at gap piece more sure
        (sure_within has piece) (stays piece more) room 0 (omega arith)
        ∙ more_same room (piece_of one none_at later has gap piece room 0) _ _
        (if_more (IsNext (one piece) (one (piece ++ more)) none_at gap piece more sure
        (sure_within has piece) (stays piece more) has apart) _
        (piece_of one none_at later has gap piece room 0).1 then
        (more_is_next (one piece) (one (piece ++ more)) none_at gap piece more sure
        (sure_within has piece) (stays piece more) has apart room 0
        (record { within = omega arith; fresh = refl })))
      where
        sure : ℕ
        sure = sure_end has piece

        then : (at : ℕ) → IsNext (one piece) (one (piece ++ more)) none_at gap piece more sure
            (sure_within has piece) (stays piece more) has apart at
            → (left : ℕ) → of (piece ++ more) left at
            ≡ list_later later at (of (drop at piece ++ more) left 0)
        then at next left =
            let none : at + 0 ≡ at = omega arith in
            let low : at ≤ length (piece ++ more) =
            omega (arith, next.within, length-append piece more) in
            rw (← drop-append-le at piece more next.within)
            (rw none at (moved (piece ++ more) at low
            (fresh_on has piece more at next.within next.fresh) left 0 (omega arith)))

    -- any number of cuts
    pub all_pieces : (room : ℕ) (rest : List ℕ) (pieces : List (List ℕ)) (last : List ℕ)
        → read_pieces one none_at later has gap room rest pieces last
        ≡ of (rest ++ (concat pieces ++ last)) room 0
    unfolding read_pieces
    all_pieces room rest [] last = refl
    all_pieces room rest (piece ∷ pieces) last =
        let more : List ℕ = concat pieces ++ last in
        let text : List ℕ = rest ++ piece in
        let same : rest ++ ((piece ++ concat pieces) ++ last) ≡ text ++ more =
        rw (append_assoc rest piece more, append_assoc piece (concat pieces) last) refl in
        rw (same, cut text more room)
        (more_same room (piece_of one none_at later has gap text room 0) _ _
        (always_more _ (piece_of one none_at later has gap text room 0).1
        (λ at left. ap (list_later later at) (all_pieces left (drop at text) pieces last))))
