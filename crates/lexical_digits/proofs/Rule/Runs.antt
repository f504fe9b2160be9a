-- Why a look nearby finds the place.
use Rattle.std.proofs.Common.{◌≡◌, ℕ, zero, suc, ◌+◌, ◌-◌, ◌<◌, ◌≤◌, true, false, not, Some, List, ◌∷◌, length, drop, take, reverse, sym, ap, ◌∙◌, arith, length-drop, slice_get, find, get_or-drop}
use Rattle.lexical_digits.specs.Laws.Terms.{cases_lt, not-false, nat_tests, drop_more, take_more, reverse-append, gets, Rule, is_digit, holds_separator, is_dropped, is_kept, place, class, is_separator_class, is_separator, neighbour, right_side, IsSupported}
use Rattle.lexical_digits.specs.Laws.Kept.{separator_within, separator_byte, dropped_holds_separator, place_kept, place_dropped, place_end, seen_none}

-- what stays over each step stays over all of them
pub along : {A : Type 0} (f : ℕ → A) (d s e : ℕ) → s + d ≡ e
    → ((k : ℕ) → s ≤ k → k < e → f k ≡ f (k + 1)) → f s ≡ f e
along f zero s e sum step = let same : s ≡ e = omega arith in ap f same
along f (suc d) s e sum step =
    step s (omega arith) (omega arith)
    ∙ along f d (s + 1) e (omega arith) (λ k l m. step k (omega arith) m)

module _ (rule : Rule) (buffer : List ℕ) where
  abbrev pub Separators : ℕ → ℕ → Type 0
  Separators s e = (k : ℕ) → s ≤ k → k < e → holds_separator rule buffer k ≡ true

  -- ---- in a supported rule no byte is both digit and separator
  pub separator_no_digit : IsSupported rule → (byte : ℕ) → is_separator rule.separator byte ≡ true
      → is_digit rule byte ≡ false
  unfolding is_separator
  separator_no_digit supported byte h = grind (arith, nat_tests, supported.apart)

  pub separator_class : IsSupported rule → (byte : ℕ)
      → is_separator_class (class rule (Some byte)) ≡ is_separator rule.separator byte
  separator_class supported byte = grind (arith, separator_no_digit supported)

  -- ---- a position that is kept, and one that is dropped

  pub dropped_is_separator : (s c : ℕ) → is_kept rule buffer s c s ≡ false
      → holds_separator rule buffer s ≡ true
  unfolding is_kept
  dropped_is_separator s c h = dropped_holds_separator rule buffer _ s (not-false _ h)

  pub place_after_run : (e c : ℕ) → holds_separator rule buffer e ≡ false → e ≤ length buffer
      → place rule buffer e c ≡ e
  unfolding is_kept is_dropped
  place_after_run e c stop l =
      grind (arith, cases_lt e (length buffer), place_kept rule buffer e c, place_end)

  -- ---- without the consecutive flag

  pub right_single : rule.consecutive ≡ false → (q : ℕ)
      → right_side rule buffer q ≡ class rule (slice_get buffer (q + 1))
  unfolding neighbour
  right_single single q = grind (arith, single, gets, length-drop, get_or-drop)

  -- one drop reaches the place
  pub place_next : rule.consecutive ≡ false → (s c : ℕ) → s < length buffer
      → is_kept rule buffer s c s ≡ false → place rule buffer s c ≡ s + 1
  unfolding is_kept is_dropped holds_separator
  place_next single s c l h =
      let past = place_after_run (s + 1) c in
      grind (arith, right_single single s, place_dropped rule buffer s c l h)

  -- ---- with the consecutive flag

  pub neighbour_many : rule.consecutive ≡ true → (xs : List ℕ)
      → neighbour rule xs ≡ find (λ byte. not (is_separator rule.separator byte)) xs
  unfolding neighbour
  neighbour_many many xs = cc

  pub neighbour_single : rule.consecutive ≡ false → (xs : List ℕ)
      → neighbour rule xs ≡ slice_get xs 0
  unfolding neighbour
  neighbour_single single xs = cc

  pub neighbour_skips : rule.consecutive ≡ true → (x : ℕ) (xs : List ℕ)
      → is_separator rule.separator x ≡ true → neighbour rule (x ∷ xs) ≡ neighbour rule xs
  neighbour_skips many x xs h = cc (neighbour_many many (x ∷ xs), neighbour_many many xs)

  -- two that stand beside each other in a run have equal sides
  pub right_in_run : rule.consecutive ≡ true → (q : ℕ) → holds_separator rule buffer q ≡ true
      → neighbour rule (drop q buffer) ≡ neighbour rule (drop (q + 1) buffer)
  right_in_run many q h =
      grind (arith, drop_more buffer q 0, neighbour_skips many, separator_within, separator_byte)

  pub left_in_run : rule.consecutive ≡ true → (q : ℕ) → holds_separator rule buffer q ≡ true
      → neighbour rule (reverse (take (q + 1) buffer)) ≡ neighbour rule (reverse (take q buffer))
  left_in_run many q h =
      rw (take_more buffer q 0 (separator_within rule buffer q h), reverse-append)
      (neighbour_skips many _ _ (separator_byte rule buffer q h))

  -- so they are dropped or kept together
  kept_in_run : rule.consecutive ≡ true → (s c : ℕ) → holds_separator rule buffer s ≡ true
      → holds_separator rule buffer (s + 1) ≡ true
      → is_kept rule buffer (s + 1) c (s + 1) ≡ is_kept rule buffer s c s
  unfolding is_kept is_dropped
  kept_in_run many s c h k = grind (arith, gets, seen_none, left_in_run, right_in_run)

  -- the run from s to e goes as its first separator goes
  pub place_run : rule.consecutive ≡ true → (d s e c : ℕ) → s + d ≡ e → Separators s e
      → holds_separator rule buffer e ≡ false → e ≤ length buffer
      → is_kept rule buffer s c s ≡ false → place rule buffer s c ≡ e
  place_run many d s e c sum all stop l h =
      along (λ k. place rule buffer k c) d s e sum
      (λ k m n. place_dropped rule buffer k c (omega arith) (dropped k m n))
      ∙ place_after_run e c stop l
    where
      dropped : (k : ℕ) → s ≤ k → k < e → is_kept rule buffer k c k ≡ false
      dropped k m n = sym (along (λ k. is_kept rule buffer k c k) (k - s) s k (omega arith)
          (λ i o p. sym (kept_in_run many i c (all i o (omega arith))
          (all (i + 1) (omega arith) (omega arith))))) ∙ h

  -- a place beyond a dropped separator is none
  pub place_past_run : rule.consecutive ≡ true → (d s c : ℕ) → s + d ≡ length buffer
      → is_kept rule buffer s c s ≡ false
      → holds_separator rule buffer (place rule buffer s c) ≡ false
  place_past_run many zero s c sum h =
      absurd (omega (arith, separator_within rule buffer s (dropped_is_separator s c h)))
  place_past_run many (suc d) s c sum h =
      let here = dropped_is_separator s c h in
      let within = separator_within rule buffer s here in
      let next = place_dropped rule buffer s c within h in
      grind (
        arith,
        next,
        kept_in_run many s c here,
        place_after_run (s + 1) c,
        place_past_run many d (s + 1) c,
      )
