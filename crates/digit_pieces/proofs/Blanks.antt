-- What is between two numbers, in a text that goes on, and in one whose first bytes are gone.
use Rattle.std.proofs.Common.{◌≡◌, ℕ, zero, suc, ◌+◌, ◌-◌, ◌<◌, ◌≤◌, Bool, true, false, List, [], ◌∷◌, ◌++◌, length, drop, take_while, refl, ap, arith, length-drop, inl, inr}
use Rattle.std.specs.Prelude.{Result, Ok, IfOk, ◌&&◌, ◌||◌, nat_lt, if◌then◌else◌, slice_get}
use Rattle.std.proofs.lemmas.Bool.{cases_Bool, cases_lt}
use Rattle.std.proofs.lemmas.Bool.Decides.{nat_tests}
use Rattle.std.proofs.lemmas.List.{drop-append-le, drop-drop}
use Rattle.std.proofs.lemmas.List.Sums.{take_while-cons}
use Rattle.lexical_digits.specs.ByteSet.{accepts}
use Rattle.lexical_digits.specs.Cursor.{holds_of}
use Rattle.digit_literals.specs.declared.list.Gap.{Gap}
use Rattle.digit_literals.specs.Lists.{is_blank, has_blank, has_separator, past_blanks, next_after}
use Rattle.digit_pieces.specs.Pieces.{is_of_blanks, is_parted, next_start}

-- ---- how many pass at the front of a list

module _ (p : ℕ → Bool) where
  abbrev led : List ℕ → ℕ
  led xs = length (take_while p xs)

  pub led_passing : (x : ℕ) (xs : List ℕ) → p x ≡ true → led (x ∷ xs) ≡ suc (led xs)
  led_passing x xs is = rw (take_while-cons p x xs, is) refl

  pub led_other : (x : ℕ) (xs : List ℕ) → p x ≡ false → led (x ∷ xs) ≡ 0
  led_other x xs is = rw (take_while-cons p x xs, is) refl

  pub led_within : (xs : List ℕ) → led xs ≤ length xs
  led_within [] = omega arith
  led_within (x ∷ xs) = elim (cases_Bool (p x)) [
    | inl is ↦ omega (arith, led_passing x xs is, led_within xs)
    | inr is ↦ omega (arith, led_other x xs is)
  ]

  -- if not all, then what follows makes no difference
  pub led_same : (xs ys : List ℕ) → led xs < length xs → led (xs ++ ys) ≡ led xs
  led_same [] ys h = absurd (omega arith)
  led_same (x ∷ xs) ys h = elim (cases_Bool (p x)) [
    | inl is ↦
        let more : led xs < length xs = omega (arith, led_passing x xs is) in
        omega (arith, led_passing x xs is, led_passing x (xs ++ ys) is, led_same xs ys more)
    | inr is ↦ omega (arith, led_other x xs is, led_other x (xs ++ ys) is)
  ]

  -- with what follows they are these, and those after them
  pub led_more : (xs ys : List ℕ)
      → led (xs ++ ys) ≡ led xs + led (drop (led xs) (xs ++ ys))
  led_more [] ys = omega arith
  led_more (x ∷ xs) ys = elim (cases_Bool (p x)) [
    | inl is ↦
        rw (led_passing x (xs ++ ys) is, led_passing x xs is)
        (omega (arith, led_more xs ys))
    | inr is ↦ rw (led_other x (xs ++ ys) is, led_other x xs is)
        (omega (arith, led_other x (xs ++ ys) is))
  ]

  -- none from a byte on that doesn't pass
  pub led_stops : (xs : List ℕ) (i : ℕ) → i < length xs
      → holds_of p (slice_get xs i) ≡ false → led xs ≤ i
  led_stops [] i within fails = absurd (omega arith)
  led_stops (x ∷ xs) zero within fails = omega (arith, led_other x xs fails)
  led_stops (x ∷ xs) (suc i) within fails = elim (cases_Bool (p x)) [
    | inl is ↦ omega (arith, led_passing x xs is, led_stops xs i (omega arith) fails)
    | inr is ↦ omega (arith, led_other x xs is)
  ]

-- ---- bytes of a text

-- those of its front
pub get_front : (xs ys : List ℕ) (i : ℕ) → i < length xs → slice_get (xs ++ ys) i ≡ slice_get xs i
get_front [] ys i h = absurd (omega arith)
get_front (x ∷ xs) ys zero h = refl
get_front (x ∷ xs) ys (suc i) h = get_front xs ys i (omega arith)

-- those of its rest
pub get_rest : (xs : List ℕ) (n i : ℕ) → slice_get (drop n xs) i ≡ slice_get xs (n + i)
get_rest xs zero i = let e : 0 + i ≡ i = omega arith in rw e refl
get_rest [] (suc n) i = refl
get_rest (x ∷ xs) (suc n) i =
    let e : suc n + i ≡ suc (n + i) = omega arith in rw e (get_rest xs n i)

-- ---- after a number

module _ (gap : Gap) where
  pub blanks_within : (text : List ℕ) (at : ℕ) → at ≤ length text
      → past_blanks gap text at ≤ length text
  unfolding past_blanks
  blanks_within text at h =
      omega (arith, led_within (is_blank gap) (drop at text), length-drop at text)

  pub blanks_onward : (text : List ℕ) (at : ℕ) → at ≤ past_blanks gap text at
  unfolding past_blanks
  blanks_onward text at = omega arith

  -- blanks end before a byte that is none
  pub blanks_stop : (text : List ℕ) (at last : ℕ) → at ≤ last → last < length text
      → has_blank gap text last ≡ false → past_blanks gap text at ≤ last
  unfolding past_blanks
  blanks_stop text at last from within fails =
      let i : ℕ = last - at in
      let e : at + i ≡ last = omega arith in
      let there : holds_of (is_blank gap) (slice_get (drop at text) i) ≡ false =
      rw (get_rest text at i, e) fails in
      omega (
        arith,
        led_stops (is_blank gap) (drop at text) i
            (omega (arith, length-drop at text)) there,
      )

  -- a fact of where the next number may be
  pub start_if : (P : ℕ → Type 0) (text : List ℕ) (end : ℕ)
      → (end < past_blanks gap text end → P (end + 1)) → IfOk (next_after gap text end) P
      → IfOk (next_start gap text end) P
  start_if P text end one next = by (is_of_blanks gap) (nat_lt end (past_blanks gap text end)) refl
    where
      by : (is more : Bool) → nat_lt end (past_blanks gap text end) ≡ more
          → IfOk (if is && more then Ok (end + 1) else next_after gap text end) P
      by true true e = one (grind (arith, nat_tests, e))
      by true false e = next
      by false more e = next

  -- a number that is parted ends before a byte
  pub parted_within : (text : List ℕ) (end : ℕ) → is_parted gap text false end ≡ true
      → end < length text
  parted_within text end =
      by (is_of_blanks gap) (nat_lt end (length text))
      (nat_lt (past_blanks gap text end) (length text)) refl refl
    where
      by : (is one past : Bool) → nat_lt end (length text) ≡ one
          → nat_lt (past_blanks gap text end) (length text) ≡ past → is && one || past ≡ true
          → end < length text
      by is true past e l h = grind (arith, nat_tests, e)
      by is false true e l h =
          let low : past_blanks gap text end < length text = grind (arith, nat_tests, l) in
          omega (arith, low, blanks_onward text end)
      by true false false e l h = absurd cc
      by false false false e l h = absurd cc

  -- ---- in a text that goes on

  module _ (piece more : List ℕ) where
    -- where a byte of the piece is no blank
    pub blanks_same : (at : ℕ) → past_blanks gap piece at < length piece
        → past_blanks gap (piece ++ more) at ≡ past_blanks gap piece at
    unfolding past_blanks
    blanks_same at h =
        let from : at ≤ length piece = omega arith in
        let few : length (take_while (is_blank gap) (drop at piece)) < length (drop at piece) =
        omega (arith, length-drop at piece) in
        rw (drop-append-le at piece more from)
        (ap (λ n. at + n) (led_same (is_blank gap) (drop at piece) more few))

    -- from there on are the blanks that are left
    pub blanks_go_on : (at : ℕ) → at ≤ length piece
        → past_blanks gap (piece ++ more) at
        ≡ past_blanks gap (piece ++ more) (past_blanks gap piece at)
    unfolding past_blanks
    blanks_go_on at h =
        let n : ℕ = length (take_while (is_blank gap) (drop at piece)) in
        let there : drop n (drop at piece ++ more) ≡ drop (at + n) (piece ++ more) =
        rw (← drop-append-le at piece more h) (drop-drop n at (piece ++ more)) in
        let all = led_more (is_blank gap) (drop at piece) more in
        rw (← there, drop-append-le at piece more h) (omega (arith, all))

    pub next_same : (end : ℕ) → past_blanks gap piece end < length piece
        → next_after gap (piece ++ more) end ≡ next_after gap piece end
    next_same end h =
        rw (blanks_same end h, get_front piece more (past_blanks gap piece end) h) refl

    -- one blank, and others that follow
    one_blank : (end : ℕ) (next other : Result ℕ ℕ) (is there here : Bool) → is ≡ true
        → there ≡ true → here ≡ true
        → (if is && there then Ok (end + 1) else next)
        ≡ (if is && here then Ok (end + 1) else other)
    one_blank end next other true true true e h k = refl
    one_blank end next other true true false e h k = absurd cc
    one_blank end next other true false here e h k = absurd cc
    one_blank end next other false there here e h k = absurd cc

    both_same : (end : ℕ) (next other : Result ℕ ℕ) (is there here : Bool) → there ≡ here
        → next ≡ other
        → (if is && there then Ok (end + 1) else next)
        ≡ (if is && here then Ok (end + 1) else other)
    both_same end next other true true true e h = refl
    both_same end next other true false false e h = h
    both_same end next other true true false e h = absurd cc
    both_same end next other true false true e h = absurd cc
    both_same end next other false there here e h = h

    alone : (is one past : Bool) → is && one || past ≡ true → past ≡ false → is ≡ true
    alone true one past h e = refl
    alone false one true h e = absurd cc
    alone false one false h e = absurd cc

    -- after a number that is parted
    pub start_same : (end : ℕ) → is_parted gap piece false end ≡ true
        → next_start gap (piece ++ more) end ≡ next_start gap piece end
    start_same end h = elim (cases_lt (past_blanks gap piece end) (length piece)) [
      | inl l ↦
          both_same end _ _ (is_of_blanks gap) _ _
          (ap (nat_lt end) (blanks_same end l)) (next_same end l)
      | inr l ↦
          let low : end < length piece = parted_within piece end h in
          let here : end < past_blanks gap piece end = omega arith in
          let there : end < past_blanks gap (piece ++ more) end = omega (
            arith,
            here,
            blanks_go_on end (omega arith),
            blanks_onward (piece ++ more) (past_blanks gap piece end),
          ) in
          one_blank end _ _ (is_of_blanks gap) _ _
          (alone (is_of_blanks gap) _ _ h (grind (arith, nat_tests)))
          (grind (arith, nat_tests, there)) (grind (arith, nat_tests, here))
    ]

  -- ---- in a text whose first bytes are gone

  module _ (text : List ℕ) (from : ℕ) where
    pub blanks_moved : (at : ℕ)
        → past_blanks gap text (from + at) ≡ from + past_blanks gap (drop from text) at
    unfolding past_blanks
    blanks_moved at = rw (drop-drop at from text) (omega arith)

    pub separator_moved : (at : ℕ)
        → has_separator gap text (from + at) ≡ has_separator gap (drop from text) at
    separator_moved at = rw (get_rest text from at) refl

-- a separator is a byte of the text
pub separator_within : (gap : Gap) (text : List ℕ) (at : ℕ) → has_separator gap text at ≡ true
    → at < length text
separator_within gap text at = by text at
  where
    by : (text : List ℕ) (at : ℕ) → holds_of (accepts gap.separators) (slice_get text at) ≡ true
        → at < length text
    by [] at h = absurd (grind (arith, h))
    by (x ∷ xs) zero h = omega arith
    by (x ∷ xs) (suc at) h = let l = by xs at h in omega arith
