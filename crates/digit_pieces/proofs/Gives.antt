-- When a number of a piece is given.
use Rattle.std.proofs.Common.{◌≡◌, ℕ, suc, ◌+◌, ◌<◌, ◌≤◌, Bool, true, false, List, [], ◌∷◌, length, take, slice_index, refl, ap, ◌∙◌, arith, inl, inr, add-one}
use Rattle.std.specs.Prelude.{Result, Ok, Err, ◌&&◌, ◌||◌, nat_lt}
use Rattle.std.proofs.lemmas.Bool.{cases_lt}
use Rattle.std.proofs.lemmas.Bool.Decides.{nat_tests}
use Rattle.lexical_digits.specs.Laws.Terms.{gets}
use Rattle.digit_literals.specs.declared.list.Gap.{Gap}
use Rattle.digit_literals.specs.Lists.{is_blank, has_blank, past_blanks}
use Rattle.digit_pieces.specs.Cuts.{sure_end}
use Rattle.digit_pieces.specs.Pieces.{PieceNumbers, is_of_blanks, is_sure, is_parted, next_start, after_number, piece_at}
use Rattle.digit_pieces.proofs.Blanks.{blanks_stop}
use Rattle.digit_pieces.proofs.ByLists.{or_else}
use Rattle.digit_pieces.proofs.SureEnds.{sure_last}

module _ (has : ℕ → Bool) (gap : Gap) (text : List ℕ) (is_last : Bool) where
  -- before a byte that no number has an outcome stays
  surely : (place last : ℕ) → place ≤ last → last < length text
      → has (slice_index text last) ≡ false → is_sure is_last (sure_end has text) place ≡ true
  surely place last low within other = elim (cases_lt last (sure_end has text)) [
    | inl l ↦ or_else is_last (nat_lt place (sure_end has text)) (grind (arith, nat_tests, low, l))
    | inr l ↦ let yes = sure_last has text last l within in absurd (cc)
  ]

  -- before a byte that is no blank a number is parted; where blanks alone separate, before any
  parted : (end last : ℕ) → end ≤ last → last < length text
      → is_blank gap (slice_index text last) ≡ false → is_parted gap text is_last end ≡ true
  parted end last low within no_blank =
      let none : has_blank gap text last ≡ false = grind (arith, gets, no_blank) in
      let stop = blanks_stop gap text end last low within none in
      or_else (is_last || is_of_blanks gap && nat_lt end (length text)) _
      (grind (arith, nat_tests, within, stop))

  alone : (end : ℕ) → end < length text → is_of_blanks gap ≡ true
      → is_parted gap text is_last end ≡ true
  alone end within is = by is_last (is_of_blanks gap) (nat_lt end (length text))
      (nat_lt (past_blanks gap text end) (length text)) is (grind (arith, nat_tests, within))
    where
      by : (last of here past : Bool) → of ≡ true → here ≡ true
          → last || of && here || past ≡ true
      by true true true past is more = refl
      by false true true past is more = refl
      by last true false past is more = absurd cc
      by last false here past is more = absurd cc

  module _ {A E : Type 0} (one : ℕ → Result (A × ℕ) E) (none_at : ℕ → E → Bool) where
    abbrev of : ℕ → ℕ → List A
    of room start = (piece_at one none_at gap text (sure_end has text) is_last room start).0

    step : (room start end : ℕ) (x : A)
        → is_sure is_last (sure_end has text) (past_blanks gap text start) ≡ true
        → one (past_blanks gap text start) ≡ Ok (x, end)
        → is_parted gap text is_last end ≡ true
        → piece_at one none_at gap text (sure_end has text) is_last (suc room) start
        ≡ after_number one none_at gap text (sure_end has text) is_last
        (piece_at one none_at gap text (sure_end has text) is_last room) x
        (next_start gap text end)
    unfolding piece_at
    step room start end x here is parts = rw (here, is, parts) refl

    first_is : (room start end : ℕ) (x : A)
        → is_sure is_last (sure_end has text) (past_blanks gap text start) ≡ true
        → one (past_blanks gap text start) ≡ Ok (x, end)
        → is_parted gap text is_last end ≡ true → take 1 (of (room + 1) start) ≡ x ∷ []
    first_is room start end x here is parts =
        rw (add-one room)
        (ap (λ (read : PieceNumbers A E). take 1 read.0) (step room start end x here is parts)
        ∙ by (next_start gap text end))
      where
        by : (next : Result ℕ ℕ) → take 1 (after_number one none_at gap text (sure_end has text)
            is_last (piece_at one none_at gap text (sure_end has text) is_last room) x next).0
            ≡ x ∷ []
        by (Ok next) = refl
        by (Err over) = refl

    module _ (room start end last : ℕ) (x : A)
        (is : one (past_blanks gap text start) ≡ Ok (x, end))
        (begins : past_blanks gap text start ≤ last) (ends : end ≤ last)
        (within : last < length text) (other : has (slice_index text last) ≡ false) where
      pub given_before : is_blank gap (slice_index text last) ≡ false
          → take 1 (of (room + 1) start) ≡ x ∷ []
      given_before no_blank =
          first_is room start end x
          (surely (past_blanks gap text start) last begins within other) is
          (parted end last ends within no_blank)

      pub given_alone : is_of_blanks gap ≡ true → take 1 (of (room + 1) start) ≡ x ∷ []
      given_alone is_alone =
          first_is room start end x
          (surely (past_blanks gap text start) last begins within other) is
          (alone end (omega (arith, ends, within)) is_alone)
