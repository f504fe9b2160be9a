-- A block that may end where it ends asks for more only there.
use Rattle.std.proofs.Common.{◌≡◌, ℕ, zero, suc, ◌-◌, ◌<◌, ◌≤◌, Bool, true, false, List, [], length, refl, arith, inl, inr}
use Rattle.std.specs.Prelude.{⊤, slice_get, Option, Some, None, Result, Ok, Err, IfOk, ◌&&◌, ◌||◌, nat_lt, if◌then◌else◌}
use Rattle.std.proofs.lemmas.Bool.{cases_Bool, cases_lt}
use Rattle.std.proofs.lemmas.Bool.Decides.{nat_tests}
use Rattle.lexical_digits.specs.ByteSet.{accepts}
use Rattle.lexical_digits.specs.Cursor.{holds_of}
use Rattle.lexical_digits.specs.Laws.Terms.{gets}
use Rattle.digit_literals.specs.declared.list.Gap.{Gap}
use Rattle.digit_literals.specs.declared.list.ListEnd.TheVariants as lists
use Rattle.digit_literals.specs.Lists.{is_blank, past_blanks}
use Rattle.digit_pieces.specs.Cuts.{sure_end}
use Rattle.digit_pieces.specs.Pieces.{PieceNumbers, of_list, is_of_blanks, is_parted, next_start, after_number, from_number, piece_at}
use Rattle.digit_pieces.specs.declared.piece.PieceEnd.{PieceEnd}
use Rattle.digit_pieces.specs.declared.piece.PieceEnd.TheVariants.{More, Full, Over, Fault}
use Rattle.digit_pieces.specs.Texts.{IsApart}
use Rattle.digit_pieces.proofs.Blanks.{blanks_stop, blanks_within}
use Rattle.digit_pieces.proofs.ByLists.{number_low}
use Rattle.digit_pieces.proofs.SureEnds.{sure_last, sure_within}
use Rattle.digit_pieces.proofs.Moved.{start_within}
use Rattle.digit_pieces.proofs.Theorem.{AreNumbers}
use Rattle.digit_blocks.specs.Blocks.{EndsApart, ends_of}

-- where more is needed, it is from this position on
abbrev pub AsksAt : {E : Type 0} → ℕ → PieceEnd E → Type 0
AsksAt n (More at) = at ≡ n
AsksAt n (Full at) = ⊤
AsksAt n (Over at) = ⊤
AsksAt n (Fault error) = ⊤

-- ---- the byte with which a block may end

module _ (gap : Gap) where
  first_of : (s a : Bool) → s ≡ true → s || a ≡ true
  first_of true a is = refl
  first_of false a is = absurd cc

  second_of : (s a : Bool) → a ≡ true → s || a ≡ true
  second_of true a is = refl
  second_of false a is = is

  -- it separates, or is a blank
  between : (byte : ℕ) → accepts (ends_of gap) byte ≡ true
      → accepts gap.separators byte || accepts gap.blanks byte ≡ true
  between byte = by (is_of_blanks gap)
    where
      by : (b : Bool) → accepts (if b then gap.blanks else gap.separators) byte ≡ true
          → accepts gap.separators byte || accepts gap.blanks byte ≡ true
      by true is = second_of (accepts gap.separators byte) (accepts gap.blanks byte) is
      by false is = first_of (accepts gap.separators byte) (accepts gap.blanks byte) is

  -- where not blanks alone separate, it separates
  separates : (o : Option ℕ) → is_of_blanks gap ≡ false
      → holds_of (accepts (ends_of gap)) o ≡ true → holds_of (accepts gap.separators) o ≡ true
  separates o = by (is_of_blanks gap)
    where
      by : (b : Bool) → b ≡ false
          → holds_of (accepts (if b then gap.blanks else gap.separators)) o ≡ true
          → holds_of (accepts gap.separators) o ≡ true
      by true mixed is = absurd cc
      by false mixed is = is

  -- a separator is no blank
  no_blank : (o : Option ℕ) → holds_of (accepts gap.separators) o ≡ true
      → holds_of (is_blank gap) o ≡ false
  no_blank None is = refl
  no_blank (Some byte) is = grind (arith, is)

-- it is in no number
in_no_number : (has : ℕ → Bool) (gap : Gap) → IsApart has gap → (o : Option ℕ)
    → holds_of (accepts (ends_of gap)) o ≡ true → holds_of has o ≡ false
in_no_number has gap apart None is = refl
in_no_number has gap apart (Some byte) is = elim (cases_Bool (has byte)) [
  | inl h ↦
      let none = apart byte h in
      let some = between gap byte is in
      absurd (cc)
  | inr h ↦ h
]

module _ {A E : Type 0} (one : List ℕ → ℕ → Result (A × ℕ) E) (none_at : ℕ → E → Bool)
    (later : ℕ → E → E) (has : ℕ → Bool) (gap : Gap)
    (are : AreNumbers one none_at later has) (apart : IsApart has gap) where
  module _ (block : List ℕ) (ends : EndsApart gap block) where
    abbrev of_block : ℕ → ℕ → PieceNumbers A E
    of_block room at = piece_at (one block) none_at gap block (sure_end has block) false room at

    -- its last byte
    pub last_other : (last : ℕ) → suc last ≡ length block
        → holds_of has (slice_get block last) ≡ false
    last_other last is = in_no_number has gap apart (slice_get block last) (ends last is)

    -- it is sure up to its end
    pub sure_all : length block ≤ sure_end has block
    sure_all = elim (cases_lt (sure_end has block) (length block)) [
      | inl l ↦
          let last : ℕ = length block - 1 in
          let yes = sure_last has block last (omega arith) (omega arith) in
          let other = last_other last (omega arith) in
          absurd (grind (arith, gets, yes, other))
      | inr l ↦ l
    ]

    -- a number in it is parted from what follows
    pub parted : (start end : ℕ) (x : A) → start < length block → one block start ≡ Ok (x, end)
        → is_parted gap block false end ≡ true
    parted start end x l is = by (is_of_blanks gap) refl
      where
        last : ℕ
        last = length block - 1

        e : suc last ≡ length block
        e = omega arith

        low : end ≤ last
        low =
            number_low one none_at later has are block start end last x (omega arith) (omega arith)
            (last_other last e) is

        stops : is_of_blanks gap ≡ false → past_blanks gap block end < length block
        stops mixed =
            let there = no_blank gap (slice_get block last)
            (separates gap (slice_get block last) mixed (ends last e)) in
            let before = blanks_stop gap block end last low (omega arith) there in
            omega (arith, before)

        by : (b : Bool) → is_of_blanks gap ≡ b
            → b && nat_lt end (length block)
            || nat_lt (past_blanks gap block end) (length block) ≡ true
        by true alone =
            let here : nat_lt end (length block) ≡ true = grind (arith, nat_tests, low) in
            rw here refl
        by false mixed =
            let past = stops mixed in
            grind (arith, nat_tests, past)

    no_number_more : (place : ℕ) (error : E) (is_over : Bool)
        → AsksAt (length block) (of_list (if is_over then lists.Over place else lists.Fault error))
    no_number_more place error true = tt
    no_number_more place error false = tt

    pub asks_at_end : (room at : ℕ) → at ≤ length block
        → AsksAt (length block) (of_block room at).1
    unfolding piece_at
    asks_at_end zero at low = tt
    asks_at_end (suc room) at low =
        by_sure (λ next. asks_at_end room next) (nat_lt place (sure_end has block)) refl
      where
        place : ℕ
        place = past_blanks gap block at

        here : place ≤ length block
        here = blanks_within gap block at low

        after : ((next : ℕ) → next ≤ length block
            → AsksAt (length block) (of_block room next).1)
            → (x : A) (next : Result ℕ ℕ) → IfOk next (λ n. n ≤ length block)
            → AsksAt (length block)
            (after_number (one block) none_at gap block (sure_end has block) false (of_block room)
            x next).1
        after same x (Ok next) is = same next is
        after same x (Err over) is = tt

        by_parted : ((next : ℕ) → next ≤ length block
            → AsksAt (length block) (of_block room next).1)
            → (x : A) (end : ℕ) (is_apart : Bool) → place < length block
            → one block place ≡ Ok (x, end)
            → is_parted gap block false end ≡ is_apart
            → AsksAt (length block)
            (if is_apart then after_number (one block) none_at gap block (sure_end has block) false
            (of_block room) x (next_start gap block end) else ([], More place)).1
        by_parted same x end true l is part =
            let ended = are.ends block place end x here is in
            after same x (next_start gap block end) (start_within gap block end ended)
        by_parted same x end false l is part =
            let always = parted place end x l is in
            absurd (cc)

        by_read : ((next : ℕ) → next ≤ length block
            → AsksAt (length block) (of_block room next).1)
            → (read : Result (A × ℕ) E) → place < length block → one block place ≡ read
            → AsksAt (length block)
            (from_number (one block) none_at gap block (sure_end has block) false (of_block room)
            place read).1
        by_read same (Ok (x, end)) l is =
            by_parted same x end (is_parted gap block false end) l is refl
        by_read same (Err error) l is =
            no_number_more place error (gap.may_trail && none_at place error)

        by_sure : ((next : ℕ) → next ≤ length block
            → AsksAt (length block) (of_block room next).1)
            → (is_sure : Bool) → nat_lt place (sure_end has block) ≡ is_sure
            → AsksAt (length block) (if is_sure then from_number (one block) none_at gap block
            (sure_end has block) false (of_block room) place (one block place)
            else ([], More place)).1
        by_sure same true is =
            let l : place < sure_end has block = grind (arith, nat_tests, is) in
            by_read same (one block place) (omega (arith, l, sure_within has block)) refl
        by_sure same false is =
            let l : sure_end has block ≤ place = grind (arith, nat_tests, is) in
            omega (arith, l, sure_all, here)
