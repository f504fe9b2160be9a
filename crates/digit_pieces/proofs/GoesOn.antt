-- A piece that is the last, and one that is read by several calls.
use Rattle.std.proofs.Common.{◌≡◌, ℕ, zero, suc, ◌+◌, Bool, true, false, List, [], refl, ap, arith}
use Rattle.std.specs.Prelude.{Result, Ok, Err, ◌&&◌, if◌then◌else◌}
use Rattle.digit_literals.specs.declared.list.Gap.{Gap}
use Rattle.digit_literals.specs.declared.list.ListEnd.TheVariants as lists
use Rattle.digit_literals.specs.Lists.{Numbers, past_blanks, before, and_then}
use Rattle.digit_pieces.specs.declared.piece.PieceEnd.TheVariants.{More, Full, Over, Fault}
use Rattle.digit_pieces.specs.Pieces.{PieceNumbers, of_list, as_piece, and_full, and_others, is_sure, is_parted, next_start, after_number, from_number, piece_at, after_of_whole, from_of_whole, whole_at}

module _ {A E : Type 0} (one : ℕ → Result (A × ℕ) E) (none_at : ℕ → E → Bool) (gap : Gap)
    (text : List ℕ) (sure : ℕ) where
  -- ---- the last piece is the whole text

  abbrev last : ℕ → ℕ → PieceNumbers A E
  last room start = piece_at one none_at gap text sure true room start

  abbrev whole : ℕ → ℕ → Numbers A E
  whole room start = whole_at one none_at gap text room start

  last_next : (room : ℕ) (x : A) → ((start : ℕ) → last room start ≡ as_piece (whole room start))
      → (next : Result ℕ ℕ) → after_number one none_at gap text sure true (last room) x next
      ≡ as_piece (after_of_whole one none_at gap text (whole room) x next)
  last_next room x same (Ok next) = ap (and_others x) (same next)
  last_next room x same (Err over) = refl

  last_read : (room place : ℕ) → ((start : ℕ) → last room start ≡ as_piece (whole room start))
      → (read : Result (A × ℕ) E)
      → from_number one none_at gap text sure true (last room) place read
      ≡ as_piece (from_of_whole one none_at gap text (whole room) place read)
  last_read room place same (Ok (x, end)) = last_next room x same (next_start gap text end)
  last_read room place same (Err error) = refl

  pub last_piece : (room start : ℕ) → last room start ≡ as_piece (whole room start)
  unfolding piece_at whole_at
  last_piece zero start = refl
  last_piece (suc room) start =
      last_read room (past_blanks gap text start) (λ next. last_piece room next)
      (one (past_blanks gap text start))

  -- ---- where the slice was full, the next call goes on

  module _ (is_last : Bool) where
    abbrev of : ℕ → ℕ → PieceNumbers A E
    of room start = piece_at one none_at gap text sure is_last room start

    before_both : (x : A) (read : PieceNumbers A E) (more : ℕ → PieceNumbers A E)
        → and_others x (and_full read more) ≡ and_full (and_others x read) more
    before_both x (numbers, More at) more = refl
    before_both x (numbers, Full at) more = refl
    before_both x (numbers, Over at) more = refl
    before_both x (numbers, Fault error) more = refl

    pub goes_on : (n m start : ℕ) → of (n + m) start ≡ and_full (of n start) (of m)
    unfolding piece_at
    goes_on zero m start = let none : 0 + m ≡ m = omega arith in rw none refl
    goes_on (suc n) m start =
        let more : suc n + m ≡ suc (n + m) = omega arith in
        rw more (by_sure (λ next. goes_on n m next) (is_sure is_last sure place))
      where
        place : ℕ
        place = past_blanks gap text start

        after_both : (x : A) → ((next : ℕ) → of (n + m) next ≡ and_full (of n next) (of m))
            → (next : Result ℕ ℕ)
            → after_number one none_at gap text sure is_last (of (n + m)) x next
            ≡ and_full (after_number one none_at gap text sure is_last (of n) x next) (of m)
        after_both x same (Ok next) = rw (same next) (before_both x (of n next) (of m))
        after_both x same (Err over) = refl

        by_parted : (x : A) (end : ℕ)
            → ((next : ℕ) → of (n + m) next ≡ and_full (of n next) (of m)) → (parted : Bool)
            → (if parted then after_number one none_at gap text sure is_last (of (n + m)) x
            (next_start gap text end) else ([], More place))
            ≡ and_full (if parted then after_number one none_at gap text sure is_last (of n) x
            (next_start gap text end) else ([], More place)) (of m)
        by_parted x end same true = after_both x same (next_start gap text end)
        by_parted x end same false = refl

        none : Bool → E → PieceNumbers A E
        none is_over error = ([], of_list (if is_over then lists.Over place else lists.Fault error))

        no_more : (error : E) (is_over : Bool)
            → none is_over error ≡ and_full (none is_over error) (of m)
        no_more error true = refl
        no_more error false = refl

        from_both : ((next : ℕ) → of (n + m) next ≡ and_full (of n next) (of m))
            → (read : Result (A × ℕ) E)
            → from_number one none_at gap text sure is_last (of (n + m)) place read
            ≡ and_full (from_number one none_at gap text sure is_last (of n) place read) (of m)
        from_both same (Ok (x, end)) = by_parted x end same (is_parted gap text is_last end)
        from_both same (Err error) = no_more error (gap.may_trail && none_at place error)

        by_sure : ((next : ℕ) → of (n + m) next ≡ and_full (of n next) (of m)) → (is : Bool)
            → (if is then from_number one none_at gap text sure is_last (of (n + m)) place
            (one place) else ([], More place))
            ≡ and_full (if is then from_number one none_at gap text sure is_last (of n) place
            (one place) else ([], More place)) (of m)
        by_sure same true = from_both same (one place)
        by_sure same false = refl

-- the same of a whole text
module _ {A E : Type 0} (one : ℕ → Result (A × ℕ) E) (none_at : ℕ → E → Bool) (gap : Gap)
    (text : List ℕ) where
  abbrev all : ℕ → ℕ → Numbers A E
  all room start = whole_at one none_at gap text room start

  with_before : (x : A) (read : Numbers A E) (more : ℕ → Numbers A E)
      → before x (and_then read more) ≡ and_then (before x read) more
  with_before x (numbers, lists.Full at) more = refl
  with_before x (numbers, lists.Over at) more = refl
  with_before x (numbers, lists.Fault error) more = refl

  pub whole_goes_on : (n m start : ℕ) → all (n + m) start ≡ and_then (all n start) (all m)
  unfolding whole_at
  whole_goes_on zero m start = let none : 0 + m ≡ m = omega arith in rw none refl
  whole_goes_on (suc n) m start =
      let more : suc n + m ≡ suc (n + m) = omega arith in
      rw more (from_both (λ next. whole_goes_on n m next) (one place))
    where
      place : ℕ
      place = past_blanks gap text start

      after_both : (x : A) → ((next : ℕ) → all (n + m) next ≡ and_then (all n next) (all m))
          → (next : Result ℕ ℕ) → after_of_whole one none_at gap text (all (n + m)) x next
          ≡ and_then (after_of_whole one none_at gap text (all n) x next) (all m)
      after_both x same (Ok next) = rw (same next) (with_before x (all n next) (all m))
      after_both x same (Err over) = refl

      none : Bool → E → Numbers A E
      none is_over error = ([], if is_over then lists.Over place else lists.Fault error)

      no_more : (error : E) (is_over : Bool)
          → none is_over error ≡ and_then (none is_over error) (all m)
      no_more error true = refl
      no_more error false = refl

      from_both : ((next : ℕ) → all (n + m) next ≡ and_then (all n next) (all m))
          → (read : Result (A × ℕ) E)
          → from_of_whole one none_at gap text (all (n + m)) place read
          ≡ and_then (from_of_whole one none_at gap text (all n) place read) (all m)
      from_both same (Ok (x, end)) = after_both x same (next_start gap text end)
      from_both same (Err error) = no_more error (gap.may_trail && none_at place error)

-- to be named in an attribute
pub ruleset several = (last_piece, goes_on)
