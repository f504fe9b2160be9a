-- A list of a text that is there in part: that of the part, and where it asks for more, what is
-- read from there on.
use Rattle.std.proofs.Common.{◌≡◌, ℕ, zero, suc, ◌-◌, ◌<◌, ◌≤◌, Bool, true, false, List, [], ◌++◌, length, refl, ◌∙◌, arith}
use Rattle.std.specs.Prelude.{Result, Ok, Err, IfOk, ◌&&◌, nat_lt, if◌then◌else◌}
use Rattle.std.proofs.lemmas.Bool.Decides.{nat_tests}
use Rattle.digit_literals.specs.declared.list.Gap.{Gap}
use Rattle.digit_literals.specs.declared.list.ListEnd.{ListEnd}
use Rattle.digit_literals.specs.declared.list.ListEnd.TheVariants as lists
use Rattle.digit_literals.specs.Lists.{Numbers, past_blanks, before}
use Rattle.digit_pieces.specs.declared.piece.PieceEnd.{PieceEnd}
use Rattle.digit_pieces.specs.declared.piece.PieceEnd.TheVariants.{More, Full, Over, Fault}
use Rattle.digit_pieces.specs.Moves.{IsFresh}
use Rattle.digit_pieces.specs.Texts.{IsApart}
use Rattle.digit_pieces.specs.Pieces.{PieceNumbers, of_list, and_others, and_more, is_parted, next_start, after_number, from_number, piece_at, after_of_whole, from_of_whole, whole_at}
use Rattle.digit_pieces.proofs.Blanks.{blanks_within, blanks_same, blanks_go_on, parted_within, start_same}
use Rattle.digit_pieces.proofs.Moved.{start_within}
use Rattle.digit_pieces.proofs.Fresh.{past_fresh, start_fresh}

-- a fact of where a piece asks for more
pub IfMore : {E : Type 0} → PieceEnd E → (ℕ → Type 0) → Type 0
IfMore (More at) P = P at
IfMore (Full at) P = Unit {0}
IfMore (Over at) P = Unit {0}
IfMore (Fault error) P = Unit {0}

pub if_more : {E : Type 0} (P Q : ℕ → Type 0) (end : PieceEnd E) → ((at : ℕ) → P at → Q at)
    → IfMore end P
    → IfMore end Q
unfolding IfMore
if_more P Q (More at) to h = to at h
if_more P Q (Full at) to h = tt
if_more P Q (Over at) to h = tt
if_more P Q (Fault error) to h = tt

pub always_more : {E : Type 0} (P : ℕ → Type 0) (end : PieceEnd E) → ((at : ℕ) → P at)
    → IfMore end P
unfolding IfMore
always_more P (More at) h = h at
always_more P (Full at) h = tt
always_more P (Over at) h = tt
always_more P (Fault error) h = tt

module _ {A E : Type 0} where
  -- with a number more
  others_more : (room : ℕ) (x : A) (read : PieceNumbers A E) (more : ℕ → ℕ → Numbers A E)
      → and_more (suc room) (and_others x read) more ≡ before x (and_more room read more)
  others_more room x (numbers, More at) more =
      let left : suc room - suc (length numbers) ≡ room - length numbers = omega arith in
      rw left refl
  others_more room x (numbers, Full at) more = refl
  others_more room x (numbers, Over at) more = refl
  others_more room x (numbers, Fault error) more = refl

  -- what is read from there on is the same
  pub more_same : (room : ℕ) (read : PieceNumbers A E) (f g : ℕ → ℕ → Numbers A E)
      → IfMore read.1 (λ at. (left : ℕ) → f left at ≡ g left at)
      → and_more room read f ≡ and_more room read g
  unfolding IfMore
  more_same room (numbers, More at) f g same = rw (same (room - length numbers)) refl
  more_same room (numbers, Full at) f g same = refl
  more_same room (numbers, Over at) f g same = refl
  more_same room (numbers, Fault error) f g same = refl

module _ {A E : Type 0} (one one_whole : ℕ → Result (A × ℕ) E) (none_at : ℕ → E → Bool) (gap : Gap)
    (piece more : List ℕ) (sure : ℕ) (low : sure ≤ length piece)
    (stays : (at : ℕ) → at < sure → one_whole at ≡ one at) where
  abbrev of_whole : ℕ → ℕ → Numbers A E
  of_whole room at = whole_at one_whole none_at gap (piece ++ more) room at

  abbrev of_piece : ℕ → ℕ → PieceNumbers A E
  of_piece room at = piece_at one none_at gap piece sure false room at

  -- from a place on it is the list
  from_place : (room at : ℕ) → at ≤ length piece
      → of_whole (suc room) at ≡ of_whole (suc room) (past_blanks gap piece at)
  unfolding whole_at
  from_place room at h = rw (blanks_go_on gap piece more at h) refl

  asks : (room at : ℕ) → at ≤ length piece → of_whole (suc room) at
      ≡ and_more (suc room) ([], More (past_blanks gap piece at)) of_whole
  asks room at h = let all : suc room - 0 ≡ suc room = omega arith in rw all (from_place room at h)

  no_more : (room place : ℕ) (error : E) (is_over : Bool)
      → (let none : ListEnd E = if is_over then lists.Over place else lists.Fault error in
      let xs : List A = [] in (xs, none) ≡ and_more room (xs, of_list none) of_whole)
  no_more room place error true = refl
  no_more room place error false = refl

  pub cut_list : (room at : ℕ) → at ≤ length piece
      → of_whole room at ≡ and_more room (of_piece room at) of_whole
  unfolding whole_at piece_at
  cut_list zero at h = refl
  cut_list (suc room) at h = by_sure (λ next. cut_list room next) (nat_lt place sure) refl
    where
      place : ℕ
      place = past_blanks gap piece at

      after_both : ((next : ℕ) → next ≤ length piece
          → of_whole room next ≡ and_more room (of_piece room next) of_whole)
          → (x : A) (next : Result ℕ ℕ) → IfOk next (λ n. n ≤ length piece)
          → after_of_whole one_whole none_at gap (piece ++ more) (of_whole room) x next
          ≡ and_more (suc room)
          (after_number one none_at gap piece sure false (of_piece room) x next) of_whole
      after_both same x (Ok next) here =
          rw (others_more room x (of_piece room next) of_whole, ← same next here) refl
      after_both same x (Err over) here = refl

      by_parted : ((next : ℕ) → next ≤ length piece
          → of_whole room next ≡ and_more room (of_piece room next) of_whole)
          → (x : A) (end : ℕ) (parted : Bool)
          → is_parted gap piece false end ≡ parted
          → of_whole (suc room) at ≡ from_of_whole one_whole none_at gap (piece ++ more)
          (of_whole room) place (Ok (x, end))
          → of_whole (suc room) at ≡ and_more (suc room)
          (if parted then after_number one none_at gap piece sure false (of_piece room) x
          (next_start gap piece end) else ([], More place)) of_whole
      by_parted same x end true is step =
          let here : end ≤ length piece = omega (arith, parted_within gap piece end is) in
          step ∙ rw (start_same gap piece more end is)
          (after_both same x (next_start gap piece end) (start_within gap piece end here))
      by_parted same x end false is step = asks room at h

      by_read : ((next : ℕ) → next ≤ length piece
          → of_whole room next ≡ and_more room (of_piece room next) of_whole)
          → (read : Result (A × ℕ) E) → place < sure
          → of_whole (suc room) at ≡ from_of_whole one_whole none_at gap (piece ++ more)
          (of_whole room) place read
          → of_whole (suc room) at ≡ and_more (suc room)
          (from_number one none_at gap piece sure false (of_piece room) place read) of_whole
      by_read same (Ok (x, end)) l step =
          by_parted same x end (is_parted gap piece false end) refl step
      by_read same (Err error) l step =
          step ∙ no_more (suc room) place error (gap.may_trail && none_at place error)

      by_sure : ((next : ℕ) → next ≤ length piece
          → of_whole room next ≡ and_more room (of_piece room next) of_whole)
          → (is_sure : Bool) → nat_lt place sure ≡ is_sure
          → of_whole (suc room) at ≡ and_more (suc room)
          (if is_sure then from_number one none_at gap piece sure false (of_piece room) place
          (one place) else ([], More place)) of_whole
      by_sure same true is =
          let l : place < sure = grind (arith, nat_tests, is) in
          let part : place < length piece = omega arith in
          by_read same (one place) l (rw (blanks_same gap piece more at part, stays place l) refl)
      by_sure same false is = asks room at h

  -- ---- where it asks for more

  module _ (has : ℕ → Bool) (apart : IsApart has gap) where
    -- a position of the piece, with no byte of a number before it
    pub record IsNext (at : ℕ) : Type 0 where
      pub within : at ≤ length piece
      pub fresh : IsFresh has piece at

    next_is : (next : Result ℕ ℕ) → IfOk next (λ n. n ≤ length piece)
        → IfOk next (IsFresh has piece) → IfOk next IsNext
    next_is (Ok next) low fresh = record { within = low; fresh = fresh }
    next_is (Err over) low fresh = tt

    no_number_more : (place : ℕ) (error : E) (is_over : Bool)
        → IfMore (of_list (if is_over then lists.Over place else lists.Fault error)) IsNext
    unfolding IfMore
    no_number_more place error true = tt
    no_number_more place error false = tt

    pub more_is_next : (room at : ℕ) → IsNext at → IfMore (of_piece room at).1 IsNext
    unfolding piece_at IfMore
    more_is_next zero at next = tt
    more_is_next (suc room) at next = by_sure (λ there. more_is_next room there) (nat_lt place sure)
      where
        place : ℕ
        place = past_blanks gap piece at

        here : IsNext place
        here = record {
          within = blanks_within gap piece at next.within;
          fresh = past_fresh has gap apart piece at next.fresh;
        }

        after : ((there : ℕ) → IsNext there → IfMore (of_piece room there).1 IsNext)
            → (x : A) (next : Result ℕ ℕ) → IfOk next IsNext
            → IfMore
            (after_number one none_at gap piece sure false (of_piece room) x next).1 IsNext
        after same x (Ok next) is = same next is
        after same x (Err over) is = tt

        by_parted : ((there : ℕ) → IsNext there → IfMore (of_piece room there).1 IsNext)
            → (x : A) (end : ℕ) (parted : Bool)
            → is_parted gap piece false end ≡ parted
            → IfMore (if parted then after_number one none_at gap piece sure false (of_piece room)
            x (next_start gap piece end) else ([], More place)).1 IsNext
        by_parted same x end true is =
            let low : end ≤ length piece = omega (arith, parted_within gap piece end is) in
            after same x (next_start gap piece end)
            (next_is _ (start_within gap piece end low) (start_fresh has gap apart piece end))
        by_parted same x end false is = here

        by_read : ((there : ℕ) → IsNext there → IfMore (of_piece room there).1 IsNext)
            → (read : Result (A × ℕ) E)
            → IfMore (from_number one none_at gap piece sure false (of_piece room) place read).1
            IsNext
        by_read same (Ok (x, end)) =
            by_parted same x end (is_parted gap piece false end) refl
        by_read same (Err error) =
            no_number_more place error (gap.may_trail && none_at place error)

        by_sure : ((there : ℕ) → IsNext there → IfMore (of_piece room there).1 IsNext)
            → (is_sure : Bool)
            → IfMore (if is_sure then from_number one none_at gap piece sure false (of_piece room)
            place (one place) else ([], More place)).1 IsNext
        by_sure same true = by_read same (one place)
        by_sure same false = here
