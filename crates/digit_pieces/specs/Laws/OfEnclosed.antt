-- What the kind of a number between two bytes promises, if the number's kind does.
use Rattle.std.proofs.Common.{◌≡◌, ℕ, zero, suc, ◌+◌, ◌<◌, ◌≤◌, Bool, true, false, List, [], ◌∷◌, length, take, drop, refl, sym, ap, ◌∙◌, arith, length-drop, add_assoc}
use Rattle.std.specs.Prelude.{◌==◌, Result, Ok, Err}
use Rattle.std.proofs.lemmas.Bool.{or_parts}
use Rattle.std.proofs.lemmas.List.{length-take-le}
use Rattle.lexical_digits.proofs.Calls.BothSides.{moved_get}
use Rattle.digit_values.specs.Bytes.{has_byte}
use Rattle.digit_languages.specs.Follows.{AreSameBefore}
use Rattle.digit_languages.proofs.Before.{same_as_cut, same_test, passes_before}
use Rattle.digit_pieces.specs.declared.kinds.enclosed.BracketError.{BracketError}
use Rattle.digit_pieces.specs.declared.kinds.enclosed.BracketError.TheVariants.{NoOpening, Number, NoClosing}
use Rattle.digit_pieces.specs.Enclosed.{bracket_later, bracket_none_at, bracket_position, closed, enclosed_at, if_closed, if_opened, is_enclosed_byte}
use Rattle.digit_pieces.specs.Laws.NoBytes.{fails_of, same_place}
use Rattle.digit_pieces.specs.Moves.{byte_before, IsFresh, outcome_later}

-- a byte that is there is one of the text
byte_within : (text : List ℕ) (i byte : ℕ) → has_byte text i byte ≡ true → i < length text
byte_within [] i byte h = absurd (grind (arith, h))
byte_within (x ∷ xs) zero byte h = omega arith
byte_within (x ∷ xs) (suc i) byte h = let l = byte_within xs i byte h in omega arith

module _ {A E : Type 0} (opening : ℕ) (one : List ℕ → ℕ → Result (A × ℕ) E) (closing : ℕ)
    (p : ℕ → Bool) where
  abbrev has : ℕ → Bool
  has byte = is_enclosed_byte opening p closing byte

  abbrev of : List ℕ → ℕ → Result (A × ℕ) (BracketError E)
  of text start = enclosed_at opening one closing text start

  in_number : (b : ℕ) → has b ≡ false → p b ≡ false
  in_number b h = (or_parts _ _ (or_parts _ _ h).0).0

  no_opening : (b : ℕ) → has b ≡ false → b == opening ≡ false
  no_opening b h = (or_parts _ _ (or_parts _ _ h).0).1

  no_closing : (b : ℕ) → has b ≡ false → b == closing ≡ false
  no_closing b h = (or_parts _ _ h).1

  pub number_fresh : (text : List ℕ) (at : ℕ) → IsFresh has text at → IsFresh p text at
  number_fresh text at h = fails_of has p in_number (byte_before text at) h

  -- ---- what follows

  module _ (follows : (text other : List ℕ) (at start : ℕ) → AreSameBefore p text other at
      → start ≤ at → one text start ≡ one other start)
      (ends : (text : List ℕ) (start end : ℕ) (x : A) → start ≤ length text
      → one text start ≡ Ok (x, end) → end ≤ length text)
      (text other : List ℕ) (at : ℕ) (upto : AreSameBefore has text other at) where
    number_upto : AreSameBefore p text other at
    number_upto = record {
      same = upto.same;
      one_within = upto.one_within;
      other_within = upto.other_within;
      one_ends = fails_of has p in_number _ upto.one_ends;
      other_ends = fails_of has p in_number _ upto.other_ends;
    }

    -- a number ends before a byte that ends it
    ends_before : (start end : ℕ) (x : A) → start ≤ at → one text start ≡ Ok (x, end) → end ≤ at
    ends_before start end x low is =
        let size : length (take at text) ≡ at = length-take-le at text upto.one_within in
        let cut = same_as_cut p text at upto.one_within number_upto.one_ends in
        let same = follows (take at text) text at start cut low in
        omega (arith, size, ends (take at text) start end x (omega (arith, size)) (same ∙ is))

    opening_same : (i : ℕ) → i ≤ at → has_byte text i opening ≡ has_byte other i opening
    opening_same i l = same_test has text other at upto (λ b. b == opening) no_opening i l

    closing_same : (i : ℕ) → i ≤ at → has_byte text i closing ≡ has_byte other i closing
    closing_same i l = same_test has text other at upto (λ b. b == closing) no_closing i l

    opening_before : (i : ℕ) → i ≤ at → has_byte text i opening ≡ true → i + 1 ≤ at
    opening_before i l is =
        passes_before has text other at upto (λ b. b == opening) no_opening i l is

    closed_same : (start : ℕ) → start ≤ at → (read : Result (A × ℕ) E) → one text start ≡ read
        → closed text closing read ≡ closed other closing read
    closed_same start low (Ok (x, end)) is =
        ap (λ b. if_closed {E = E} b x end)
        (closing_same end (ends_before start end x low is))
    closed_same start low (Err error) is = refl

    by_opening : (start : ℕ) → start ≤ at → (is : Bool) → has_byte text start opening ≡ is
        → if_opened is start (closed text closing (one text (start + 1)))
        ≡ if_opened is start (closed other closing (one other (start + 1)))
    by_opening start low true is =
        let next = opening_before start low is in
        closed_same (start + 1) next (one text (start + 1)) refl
        ∙ ap (closed other closing) (follows text other at (start + 1) number_upto next)
    by_opening start low false is = refl

    pub enclosed_follows : (start : ℕ) → start ≤ at → of text start ≡ of other start
    enclosed_follows start low =
        by_opening start low (has_byte text start opening) refl
        ∙ ap (λ b. if_opened b start (closed other closing (one other (start + 1))))
        (opening_same start low)

  -- ---- what is before

  module _ (later : ℕ → E → E) (text : List ℕ) (from : ℕ)
      (moves : (at : ℕ) → from + at ≤ length text
      → one text (from + at) ≡ outcome_later later from (one (drop from text) at)) where
    closed_moved : (read : Result (A × ℕ) E)
        → closed text closing (outcome_later later from read)
        ≡ outcome_later (bracket_later later) from (closed (drop from text) closing read)
    closed_moved (Ok (x, end)) =
        rw (moved_get text from end) (by_closing (has_byte (drop from text) end closing))
      where
        by_closing : (is : Bool) → if_closed {E = E} is x (from + end)
            ≡ outcome_later (bracket_later later) from (if_closed is x end)
        by_closing true =
            let sum : from + end + 1 ≡ from + (end + 1) = omega arith in
            ap (λ n. Ok (x, n)) sum
        by_closing false = refl
    closed_moved (Err error) = refl

    by_opening_at : (at : ℕ) → from + at ≤ length text → (is : Bool)
        → has_byte (drop from text) at opening ≡ is
        → if_opened is (from + at) (closed text closing (one text (from + at + 1)))
        ≡ outcome_later (bracket_later later) from
        (if_opened is at (closed (drop from text) closing (one (drop from text) (at + 1))))
    by_opening_at at within true is =
        let next : from + at + 1 ≡ from + (at + 1) = omega arith in
        let some = byte_within (drop from text) at opening is in
        rw (next, moves (at + 1) (omega (arith, length-drop from text)))
        (closed_moved (one (drop from text) (at + 1)))
    by_opening_at at within false is = refl

    pub enclosed_precedes : (at : ℕ) → from + at ≤ length text
        → of text (from + at) ≡ outcome_later (bracket_later later) from (of (drop from text) at)
    enclosed_precedes at within =
        rw (moved_get text from at)
        (by_opening_at at within (has_byte (drop from text) at opening) refl)

  -- ---- the end

  abbrev end_of : Result (A × ℕ) (BracketError E) → ℕ
  end_of (Ok read) = read.1
  end_of (Err error) = 0

  pub enclosed_ends : (text : List ℕ) (start end : ℕ) (x : A) → of text start ≡ Ok (x, end)
      → end ≤ length text
  enclosed_ends text start end x is = by_first (has_byte text start opening) is
    where
      by_closing : (y : A) (e : ℕ) (there : Bool) → has_byte text e closing ≡ there
          → if_closed {E = E} there y e ≡ Ok (x, end) → end ≤ length text
      by_closing y e true here same =
          let low = byte_within text e closing here in
          let it : e + 1 ≡ end = ap end_of same in omega (arith, low, it)
      by_closing y e false here same = absurd (cc)

      by_read : (read : Result (A × ℕ) E) → closed text closing read ≡ Ok (x, end)
          → end ≤ length text
      by_read (Ok (y, e)) same = by_closing y e (has_byte text e closing) refl same
      by_read (Err error) same = absurd (cc)

      by_first : (there : Bool)
          → if_opened there start (closed text closing (one text (start + 1))) ≡ Ok (x, end)
          → end ≤ length text
      by_first true same = by_read (one text (start + 1)) same
      by_first false same = absurd (cc)

-- ---- an error

module _ {E : Type 0} (position : E → ℕ) (later : ℕ → E → E) where
  pub bracket_later_at : ((by : ℕ) (e : E) → position (later by e) ≡ by + position e) → (by : ℕ)
      (e : BracketError E)
      → bracket_position position (bracket_later later by e) ≡ by + bracket_position position e
  bracket_later_at moves by (NoOpening at) = refl
  bracket_later_at moves by (Number error) = moves by error
  bracket_later_at moves by (NoClosing at) = refl

module _ {E : Type 0} (later : ℕ → E → E) where
  pub bracket_none_later : (by place : ℕ) (e : BracketError E)
      → bracket_none_at (by + place) (bracket_later later by e) ≡ bracket_none_at place e
  bracket_none_later by place (NoOpening at) = same_place by at place
  bracket_none_later by place (Number error) = refl
  bracket_none_later by place (NoClosing at) = refl

  pub bracket_later_more : ((by more : ℕ) (e : E) → later by (later more e) ≡ later (by + more) e)
      → (by more : ℕ) (e : BracketError E)
      → bracket_later later by (bracket_later later more e) ≡ bracket_later later (by + more) e
  bracket_later_more moves by more (NoOpening at) = ap NoOpening (sym (add_assoc by more at))
  bracket_later_more moves by more (Number error) = ap Number (moves by more error)
  bracket_later_more moves by more (NoClosing at) = ap NoClosing (sym (add_assoc by more at))
