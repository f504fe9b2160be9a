-- After a separator and after blanks no byte of a number is before a position.
use Rattle.std.proofs.Common.{◌≡◌, ℕ, zero, suc, ◌+◌, ◌<◌, Bool, true, false, List, [], ◌∷◌, length, drop, take_while, refl, arith, inl, inr, add-one}
use Rattle.std.specs.Prelude.{slice_get, Option, Some, None, Ok, Err, IfOk, ◌&&◌, ◌||◌, nat_lt, if◌then◌else◌}
use Rattle.std.proofs.lemmas.Bool.{cases_Bool}
use Rattle.std.proofs.lemmas.Bool.Decides.{nat_tests}
use Rattle.lexical_digits.specs.ByteSet.{accepts}
use Rattle.lexical_digits.specs.Cursor.{holds_of}
use Rattle.digit_literals.specs.declared.list.Gap.{Gap}
use Rattle.digit_literals.specs.Lists.{is_blank, has_separator, past_blanks, next_after}
use Rattle.digit_pieces.specs.Moves.{IsFresh}
use Rattle.digit_pieces.specs.Pieces.{next_start}
use Rattle.digit_pieces.specs.Texts.{IsApart}
use Rattle.digit_pieces.proofs.Blanks.{led_passing, led_other, get_rest, start_if}

-- the last of the bytes that pass at the front passes
last_passes : (p : ℕ → Bool) (xs : List ℕ) (m : ℕ) → length (take_while p xs) ≡ suc m
    → holds_of p (slice_get xs m) ≡ true
last_passes p [] m h = absurd (omega arith)
last_passes p (x ∷ xs) zero h = elim (cases_Bool (p x)) [
  | inl is ↦ is
  | inr is ↦ absurd (omega (arith, led_other p x xs is))
]
last_passes p (x ∷ xs) (suc m) h = elim (cases_Bool (p x)) [
  | inl is ↦ last_passes p xs m (omega (arith, led_passing p x xs is))
  | inr is ↦ absurd (omega (arith, led_other p x xs is))
]

-- and so does the first
first_passes : (p : ℕ → Bool) (xs : List ℕ) → 0 < length (take_while p xs)
    → holds_of p (slice_get xs 0) ≡ true
first_passes p [] h = absurd (omega arith)
first_passes p (x ∷ xs) h = elim (cases_Bool (p x)) [
  | inl is ↦ is
  | inr is ↦ absurd (omega (arith, h, led_other p x xs is))
]

-- where blanks are passed one is
pub blank_here : (gap : Gap) (text : List ℕ) (at : ℕ) → at < past_blanks gap text at
    → holds_of (is_blank gap) (slice_get text at) ≡ true
unfolding past_blanks
blank_here gap text at h =
    let some : 0 < length (take_while (is_blank gap) (drop at text)) = omega (arith, h) in
    let none : at + 0 ≡ at = omega arith in
    rw none at (rw (get_rest text at 0) at (first_passes (is_blank gap) (drop at text) some))

module _ (has : ℕ → Bool) (gap : Gap) (apart : IsApart has gap) where
  spared : (byte : ℕ) → accepts gap.separators byte || accepts gap.blanks byte ≡ true
      → has byte ≡ false
  spared byte is = elim (cases_Bool (has byte)) [
    | inl h ↦ absurd (grind (arith, apart byte h, is))
    | inr h ↦ h
  ]

  blank_spared : (o : Option ℕ) → holds_of (is_blank gap) o ≡ true → holds_of has o ≡ false
  blank_spared None h = refl
  blank_spared (Some byte) h = spared byte (grind (arith, h))

  separator_spared : (o : Option ℕ) → holds_of (accepts gap.separators) o ≡ true
      → holds_of has o ≡ false
  separator_spared None h = refl
  separator_spared (Some byte) h = spared byte (grind (arith, h))

  module _ (text : List ℕ) where
    -- after blanks
    past_some : (at n : ℕ) → length (take_while (is_blank gap) (drop at text)) ≡ suc n
        → IsFresh has text (at + suc n)
    past_some at n e =
        let next : at + suc n ≡ suc (at + n) = omega arith in
        rw (next, ← get_rest text at n)
        (blank_spared (slice_get (drop at text) n) (last_passes (is_blank gap) (drop at text) n e))

    pub past_fresh : (at : ℕ) → IsFresh has text at → IsFresh has text (past_blanks gap text at)
    unfolding past_blanks
    past_fresh at fresh = by (length (take_while (is_blank gap) (drop at text))) refl
      where
        by : (n : ℕ) → length (take_while (is_blank gap) (drop at text)) ≡ n
            → IsFresh has text (at + n)
        by zero e = let none : at + 0 ≡ at = omega arith in rw none fresh
        by (suc n) e = past_some at n e

    past_more : (at : ℕ) → at < past_blanks gap text at
        → IsFresh has text (past_blanks gap text at)
    unfolding past_blanks
    past_more at some = by (length (take_while (is_blank gap) (drop at text))) refl
      where
        by : (n : ℕ) → length (take_while (is_blank gap) (drop at text)) ≡ n
            → IsFresh has text (at + n)
        by zero e = absurd (omega (arith, some, e))
        by (suc n) e = past_some at n e

    -- after what is between two numbers
    next_fresh : (end : ℕ) → IfOk (next_after gap text end) (IsFresh has text)
    next_fresh end =
        by (has_separator gap text at) gap.blanks_separate (nat_lt end at) refl refl
      where
        at : ℕ
        at = past_blanks gap text end

        by : (separator blanks more : Bool) → has_separator gap text at ≡ separator
            → nat_lt end at ≡ more
            → IfOk (if separator then Ok (at + 1) else if blanks && more then Ok at else Err at)
            (IsFresh has text)
        by true blanks more is some = rw (add-one at) (separator_spared (slice_get text at) is)
        by false true true is some = past_more end (grind (arith, nat_tests, some))
        by false true false is some = tt
        by false false more is some = tt

    -- after one blank
    one_fresh : (end : ℕ) → end < past_blanks gap text end → IsFresh has text (end + 1)
    one_fresh end some =
        rw (add-one end) (blank_spared (slice_get text end) (blank_here gap text end some))

    pub start_fresh : (end : ℕ) → IfOk (next_start gap text end) (IsFresh has text)
    start_fresh end =
        start_if gap (IsFresh has text) text end (λ some. one_fresh end some) (next_fresh end)
