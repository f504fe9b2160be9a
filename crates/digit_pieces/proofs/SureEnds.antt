-- Up to where a text is sure: the position after the last byte that ends every number.
use Rattle.std.proofs.Common.{◌≡◌, ℕ, zero, suc, ◌-◌, ◌<◌, ◌≤◌, Bool, true, false, List, [], ◌∷◌, ◌++◌, length, take_while, get_or, arith, inl, inr, length-append}
use Rattle.std.specs.Prelude.{reverse, slice_get, slice_index}
use Rattle.std.proofs.lemmas.Bool.{cases_Bool, cases_lt}
use Rattle.std.proofs.lemmas.List.{length-reverse, get_or-reverse, take-append-le}
use Rattle.lexical_digits.specs.Cursor.{holds_of}
use Rattle.lexical_digits.specs.Laws.Terms.{gets}
use Rattle.digit_languages.specs.Follows.{AreSameBefore}
use Rattle.digit_pieces.specs.Cuts.{sure_end}
use Rattle.digit_pieces.proofs.Blanks.{led_within, led_passing, led_other, get_front}

-- the first byte that doesn't pass
first_other : (p : ℕ → Bool) (xs : List ℕ) → length (take_while p xs) < length xs
    → p (get_or xs (length (take_while p xs)) 0) ≡ false
first_other p [] h = absurd (omega arith)
first_other p (x ∷ xs) h = elim (cases_Bool (p x)) [
  | inl is ↦
      let n = led_passing p x xs is in
      rw n (first_other p xs (omega (arith, n)))
  | inr is ↦ rw (led_other p x xs is) is
]

-- those before it pass
passing_before : (p : ℕ → Bool) (xs : List ℕ) (i : ℕ) → i < length (take_while p xs)
    → p (get_or xs i 0) ≡ true
passing_before p [] i h = absurd (omega arith)
passing_before p (x ∷ xs) zero h = elim (cases_Bool (p x)) [
  | inl is ↦ is
  | inr is ↦ absurd (omega (arith, led_other p x xs is))
]
passing_before p (x ∷ xs) (suc i) h = elim (cases_Bool (p x)) [
  | inl is ↦ passing_before p xs i (omega (arith, led_passing p x xs is))
  | inr is ↦ absurd (omega (arith, led_other p x xs is))
]

module _ (p : ℕ → Bool) (text : List ℕ) where
  pub sure_within : sure_end p text ≤ length text
  unfolding sure_end
  sure_within = omega arith

  -- the byte before it doesn't pass
  pub sure_ends : (at : ℕ) → suc at ≡ sure_end p text → p (slice_index text at) ≡ false
  unfolding sure_end
  sure_ends at is =
      let n : ℕ = length (take_while p (reverse text)) in
      let same = length-reverse text in
      let few : n < length text = omega arith in
      let e : at ≡ length text - 1 - n = omega arith in
      rw (e, ← get_or-reverse text n 0 few) (first_other p (reverse text) (omega (arith, same)))

  -- and those from there on pass
  pub sure_last : (at : ℕ) → sure_end p text ≤ at → at < length text
      → p (slice_index text at) ≡ true
  unfolding sure_end
  sure_last at from within =
      let k : ℕ = length text - 1 - at in
      let same = length-reverse text in
      let here : length text - 1 - k ≡ at = omega arith in
      let few : k < length text = omega arith in
      rw (← here, ← get_or-reverse text k 0 few)
      (passing_before p (reverse text) k
      (omega (arith, led_within p (reverse text), same)))

  -- a text that goes on is the same before it
  pub sure_same : (more : List ℕ) (at : ℕ) → suc at ≡ sure_end p text
      → AreSameBefore p (text ++ more) text at
  sure_same more at is =
      let within : at < length text = omega (arith, sure_within) in
      let byte : holds_of p (slice_get text at) ≡ false = grind (arith, gets, sure_ends at is) in
      record {
        same = take-append-le at text more (omega arith);
        one_within = omega (arith, length-append text more);
        other_within = omega arith;
        one_ends = rw (get_front text more at within) byte;
        other_ends = byte;
      }

  -- it is the only position with these two
  pub sure_is : (at : ℕ) → at ≤ length text
      → ((i : ℕ) → at ≤ i → i < length text → p (slice_index text i) ≡ true)
      → ((i : ℕ) → suc i ≡ at → p (slice_index text i) ≡ false) → at ≡ sure_end p text
  sure_is at low passes ends = elim (cases_lt at (sure_end p text)) [
    | inl l ↦
        let last : ℕ = sure_end p text - 1 in
        let no = sure_ends last (omega arith) in
        let yes = passes last (omega arith) (omega (arith, sure_within)) in
        cc
    | inr l ↦ elim (cases_lt (sure_end p text) at) [
      | inl m ↦
          let last : ℕ = at - 1 in
          let no = ends last (omega arith) in
          let yes = sure_last last (omega arith) (omega arith) in
          cc
      | inr m ↦ omega arith
    ]
  ]

  -- before it what follows makes no difference
  pub sure_stays : {R : Type 0} (one : List ℕ → ℕ → R)
      → ((text other : List ℕ) (at start : ℕ) → AreSameBefore p text other at → start ≤ at
      → one text start ≡ one other start)
      → (more : List ℕ) (start : ℕ) → start < sure_end p text
      → one (text ++ more) start ≡ one text start
  sure_stays one follows more start l =
      let last : ℕ = sure_end p text - 1 in
      follows (text ++ more) text last start (sure_same more last (omega arith)) (omega arith)
