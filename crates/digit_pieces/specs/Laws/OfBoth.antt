-- What the kind of two numbers promises, if their kinds do.
use Rattle.std.proofs.Common.{◌≡◌, ℕ, zero, suc, ◌+◌, ◌-◌, ◌<◌, ◌≤◌, Bool, true, false, List, [], ◌∷◌, length, take, drop, Option, None, Some, refl, sym, ap, ◌∙◌, arith, length-drop, add_assoc}
use Rattle.std.specs.Prelude.{◌==◌, if◌then◌else◌, Result, Ok, Err}
use Rattle.std.proofs.lemmas.Bool.{or_parts}
use Rattle.std.proofs.lemmas.List.{length-take-le}
use Rattle.lexical_digits.specs.Cursor.{holds_of}
use Rattle.digit_values.specs.Bytes.{has_byte}
use Rattle.digit_languages.specs.Follows.{AreSameBefore}
use Rattle.digit_languages.proofs.Before.{same_as_cut, same_test, passes_before}
use Rattle.digit_pieces.specs.declared.kinds.both.BothError.{BothError}
use Rattle.digit_pieces.specs.declared.kinds.both.BothError.TheVariants.{First, Between, Second}
use Rattle.digit_pieces.specs.Moves.{byte_before, IsFresh, outcome_later}
use Rattle.digit_pieces.specs.Both.{with_second, after_first, both_at, is_byte_of_both, both_error_at, both_later, both_none_at}
use Rattle.lexical_digits.proofs.Calls.BothSides.{moved_get}

-- ---- fewer bytes

none_holds : (p q : ℕ → Bool) → ((b : ℕ) → p b ≡ false → q b ≡ false) → (o : Option ℕ)
    → holds_of p o ≡ false → holds_of q o ≡ false
none_holds p q within None h = refl
none_holds p q within (Some b) h = within b h

same_of_fewer : (p q : ℕ → Bool) → ((b : ℕ) → p b ≡ false → q b ≡ false)
    → (one other : List ℕ) (at : ℕ) → AreSameBefore p one other at → AreSameBefore q one other at
same_of_fewer p q within one other at upto = record {
  same = upto.same;
  one_within = upto.one_within;
  other_within = upto.other_within;
  one_ends = none_holds p q within _ upto.one_ends;
  other_ends = none_holds p q within _ upto.other_ends;
}

-- a byte that is there is one of the text
byte_within : (text : List ℕ) (i byte : ℕ) → has_byte text i byte ≡ true → i < length text
byte_within [] i byte h = absurd (grind (arith, h))
byte_within (x ∷ xs) zero byte h = omega arith
byte_within (x ∷ xs) (suc i) byte h = let l = byte_within xs i byte h in omega arith

-- ---- the bytes of both kinds

module _ (p : ℕ → Bool) (between : ℕ) (q : ℕ → Bool) where
  abbrev has : ℕ → Bool
  has byte = is_byte_of_both p between q byte

  in_first : (b : ℕ) → has b ≡ false → p b ≡ false
  in_first b h = (or_parts _ _ (or_parts _ _ h).0).0

  in_between : (b : ℕ) → has b ≡ false → b == between ≡ false
  in_between b h = (or_parts _ _ (or_parts _ _ h).0).1

  in_second : (b : ℕ) → has b ≡ false → q b ≡ false
  in_second b h = (or_parts _ _ h).1

  pub first_fresh : (text : List ℕ) (at : ℕ) → IsFresh has text at → IsFresh p text at
  first_fresh text at h = none_holds has p in_first (byte_before text at) h

  pub second_fresh : (text : List ℕ) (at : ℕ) → IsFresh has text at → IsFresh q text at
  second_fresh text at h = none_holds has q in_second (byte_before text at) h

-- ---- what both kinds promise

module _ {A B D E : Type 0} (first : List ℕ → ℕ → Result (A × ℕ) D) (between : ℕ)
    (second : List ℕ → ℕ → Result (B × ℕ) E) (p q : ℕ → Bool) where
  abbrev all : ℕ → Bool
  all byte = is_byte_of_both p between q byte

  abbrev of : List ℕ → ℕ → Result ((A × B) × ℕ) (BothError D E)
  of text start = both_at first between second text start

  -- ---- what follows

  module _ (follows : (one other : List ℕ) (at start : ℕ) → AreSameBefore p one other at
      → start ≤ at → first one start ≡ first other start)
      (second_follows : (one other : List ℕ) (at start : ℕ) → AreSameBefore q one other at
      → start ≤ at → second one start ≡ second other start)
      (ends : (text : List ℕ) (start end : ℕ) (x : A) → start ≤ length text
      → first text start ≡ Ok (x, end) → end ≤ length text)
      (one other : List ℕ) (at : ℕ) (upto : AreSameBefore all one other at) where
    -- a number ends before a byte that ends it
    ends_before : (start end : ℕ) (x : A) → start ≤ at → first one start ≡ Ok (x, end) → end ≤ at
    ends_before start end x low is =
        let size : length (take at one) ≡ at = length-take-le at one upto.one_within in
        let cut = same_as_cut p one at upto.one_within
        (none_holds all p (in_first p between q) _ upto.one_ends) in
        let same = follows (take at one) one at start cut low in
        omega (arith, size, ends (take at one) start end x (omega (arith, size)) (same ∙ is))

    byte_same : (i : ℕ) → i ≤ at → has_byte one i between ≡ has_byte other i between
    byte_same i l = same_test all one other at upto (λ b. b == between) (in_between p between q) i l

    byte_before_end : (i : ℕ) → i ≤ at → has_byte one i between ≡ true → i + 1 ≤ at
    byte_before_end i l is =
        passes_before all one other at upto (λ b. b == between) (in_between p between q) i l is

    second_same : (x : A) (end : ℕ) → end ≤ at → (is : Bool) → has_byte one end between ≡ is
        → (if is then with_second {D = D} x (second one (end + 1)) else Err (Between end))
        ≡ (if is then with_second x (second other (end + 1)) else Err (Between end))
    second_same x end low true is =
        ap (with_second x)
        (second_follows one other at (end + 1)
        (same_of_fewer all q (in_second p between q) one other at upto)
        (byte_before_end end low is))
    second_same x end low false is = refl

    after_same : (start : ℕ) → start ≤ at → (read : Result (A × ℕ) D) → first one start ≡ read
        → after_first between one (second one) read ≡ after_first between other (second other) read
    after_same start low (Ok (x, end)) is =
        let here = ends_before start end x low is in
        second_same x end here (has_byte one end between) refl
        ∙ ap (λ b. if b then with_second x (second other (end + 1)) else Err (Between end))
        (byte_same end here)
    after_same start low (Err error) is = refl

    pub both_follows : (start : ℕ) → start ≤ at → of one start ≡ of other start
    both_follows start low =
        after_same start low (first one start) refl
        ∙ ap (after_first between other (second other))
        (follows one other at start
        (same_of_fewer all p (in_first p between q) one other at upto) low)

  -- ---- what is before

  module _ (later : ℕ → D → D) (second_later : ℕ → E → E) (text : List ℕ) (from : ℕ)
      (moves : (at : ℕ) → from + at ≤ length text
      → first text (from + at) ≡ outcome_later later from (first (drop from text) at))
      (second_moves : (at : ℕ) → from + at ≤ length text
      → second text (from + at) ≡ outcome_later second_later from (second (drop from text) at))
      (ends : (start end : ℕ) (x : A) → start ≤ length (drop from text)
      → first (drop from text) start ≡ Ok (x, end) → end ≤ length (drop from text)) where
    second_moved : (x : A) (read : Result (B × ℕ) E)
        → with_second {D = D} x (outcome_later second_later from read)
        ≡ outcome_later (both_later later second_later) from (with_second x read)
    second_moved x (Ok (y, end)) = refl
    second_moved x (Err error) = refl

    by_byte : (x : A) (end : ℕ) → from ≤ length text → end ≤ length (drop from text) → (is : Bool)
        → has_byte (drop from text) end between ≡ is
        → (if is then with_second {D = D} x (second text (from + end + 1))
        else Err (Between (from + end)))
        ≡ outcome_later (both_later later second_later) from
        (if is then with_second x (second (drop from text) (end + 1)) else Err (Between end))
    by_byte x end within low true is =
        let next : from + end + 1 ≡ from + (end + 1) = omega arith in
        let some = byte_within (drop from text) end between is in
        rw (next, second_moves (end + 1) (omega (arith, length-drop from text)))
        (second_moved x (second (drop from text) (end + 1)))
    by_byte x end within low false is = refl

    after_moved : (at : ℕ) → from ≤ length text → at ≤ length (drop from text)
        → (read : Result (A × ℕ) D) → first (drop from text) at ≡ read
        → after_first between text (second text) (outcome_later later from read)
        ≡ outcome_later (both_later later second_later) from
        (after_first between (drop from text) (second (drop from text)) read)
    after_moved at within low (Ok (x, end)) is =
        rw (moved_get text from end)
        (by_byte x end within (ends at end x low is) (has_byte (drop from text) end between) refl)
    after_moved at within low (Err error) is = refl

    pub both_precedes : (at : ℕ) → from + at ≤ length text
        → of text (from + at)
        ≡ outcome_later (both_later later second_later) from (of (drop from text) at)
    both_precedes at within =
        rw (moves at within)
        (after_moved at (omega arith) (omega (arith, length-drop from text))
        (first (drop from text) at) refl)

  -- ---- the end

  abbrev end_of : Result ((A × B) × ℕ) (BothError D E) → ℕ
  end_of (Ok read) = read.1
  end_of (Err error) = 0

  pub both_ends : ((text : List ℕ) (start end : ℕ) (y : B) → start ≤ length text
      → second text start ≡ Ok (y, end) → end ≤ length text)
      → (text : List ℕ) (start end : ℕ) (xy : A × B) → of text start ≡ Ok (xy, end)
      → end ≤ length text
  both_ends ends text start end xy is = by_first (first text start) is
    where
      by_second : (x : A) (s : ℕ) → s ≤ length text → (read : Result (B × ℕ) E)
          → second text s ≡ read → with_second {D = D} x read ≡ Ok (xy, end) → end ≤ length text
      by_second x s low (Ok (y, e)) here same =
          let it : e ≡ end = ap end_of same in rw it at (ends text s e y low here)
      by_second x s low (Err error) here same = cc

      by_byte_at : (x : A) (e : ℕ) (there : Bool) → has_byte text e between ≡ there
          → (if there then with_second {D = D} x (second text (e + 1)) else Err (Between e))
          ≡ Ok (xy, end) → end ≤ length text
      by_byte_at x e true here same =
          let l = byte_within text e between here in
          by_second x (e + 1) (omega arith) (second text (e + 1)) refl same
      by_byte_at x e false here same = cc

      by_first : (read : Result (A × ℕ) D) → after_first between text (second text) read
          ≡ Ok (xy, end) → end ≤ length text
      by_first (Ok (x, e)) same = by_byte_at x e (has_byte text e between) refl same
      by_first (Err error) same = cc

-- an error's position
pub later_at : {D E : Type 0} (first : D → ℕ) (second : E → ℕ) (later : ℕ → D → D)
    (second_later : ℕ → E → E) → ((by : ℕ) (e : D) → first (later by e) ≡ by + first e)
    → ((by : ℕ) (e : E) → second (second_later by e) ≡ by + second e)
    → (by : ℕ) (e : BothError D E)
    → both_error_at first second (both_later later second_later by e)
    ≡ by + both_error_at first second e
later_at first second later second_later a b by (First error) = a by error
later_at first second later second_later a b by (Between at) = refl
later_at first second later second_later a b by (Second error) = b by error

-- whether an error says that no two begin at a position
pub none_later : {D E : Type 0} (first : ℕ → D → Bool) (later : ℕ → D → D)
    (second_later : ℕ → E → E)
    → ((by place : ℕ) (e : D) → first (by + place) (later by e) ≡ first place e)
    → (by place : ℕ) (e : BothError D E)
    → both_none_at first (by + place) (both_later later second_later by e)
    ≡ both_none_at first place e
none_later first later second_later moves by place (First error) = moves by place error
none_later first later second_later moves by place (Between at) = refl
none_later first later second_later moves by place (Second error) = refl

-- an error that is later twice
pub later_more : {D E : Type 0} (later : ℕ → D → D) (second_later : ℕ → E → E)
    → ((by more : ℕ) (e : D) → later by (later more e) ≡ later (by + more) e)
    → ((by more : ℕ) (e : E) → second_later by (second_later more e)
    ≡ second_later (by + more) e) → (by more : ℕ) (e : BothError D E)
    → both_later later second_later by (both_later later second_later more e)
    ≡ both_later later second_later (by + more) e
later_more later second_later a b by more (First error) = ap First (a by more error)
later_more later second_later a b by more (Between at) = ap Between (sym (add_assoc by more at))
later_more later second_later a b by more (Second error) = ap Second (b by more error)
