-- What is kept after a position, by whether that position is kept.
use Rattle.std.proofs.Common.{◌≡◌, ℕ, zero, ◌+◌, ◌-◌, ◌<◌, ◌≤◌, Bool, true, false, cond, not, ltb, Option, Some, List, [], ◌∷◌, length, get_or, refl, ap, arith, add-zero, ◌⊎◌, inl, inr}
use Rattle.lexical_digits.specs.Laws.Terms.{gets, and_parts, nat_tests, Rule, is_digit, holds_separator, is_dropped, digits_seen, is_kept, kept_positions, place, class, is_separator_class, is_separator, count_after}
use Rattle.lexical_digits.specs.Laws.Ranges.{filter_same_from, range_first, range_none, count_first}

module _ (rule : Rule) (buffer : List ℕ) where
  -- a separator is no digit; a position that is dropped holds one
  pub separator_is : (o : Option ℕ) → is_separator_class (class rule o) ≡ true → (byte : ℕ)
      × (o ≡ Some byte) × (is_digit rule byte ≡ false) × (is_separator rule.separator byte ≡ true)
  separator_is o h = grind arith

  pub separator_within : (q : ℕ) → holds_separator rule buffer q ≡ true → q < length buffer
  unfolding holds_separator
  separator_within q h = grind (arith, gets)

  pub no_digit_at_separator : (q : ℕ) → holds_separator rule buffer q ≡ true
      → is_digit rule (get_or buffer q 0) ≡ false
  unfolding holds_separator
  no_digit_at_separator q h = grind (arith, gets)

  pub separator_byte : (q : ℕ) → holds_separator rule buffer q ≡ true
      → is_separator rule.separator (get_or buffer q 0) ≡ true
  unfolding holds_separator
  separator_byte q h = grind (arith, gets)

  pub dropped_holds_separator : (digit_seen : Bool) (q : ℕ)
      → is_dropped rule buffer digit_seen q ≡ true → holds_separator rule buffer q ≡ true
  unfolding is_dropped
  dropped_holds_separator digit_seen q h = (and_parts _ _ h).0

  pub seen_first : (s c k : ℕ) → s < length buffer → s < k
      → digits_seen rule buffer s c k
      ≡ c + cond (is_digit rule (get_or buffer s 0)) 1 0 + digits_seen rule buffer (s + 1) 0 k
  unfolding digits_seen
  seen_first s c k l m = omega (arith, count_first (is_digit rule) buffer s k l m)

  pub seen_count : (s c k : ℕ) → digits_seen rule buffer s c k ≡ c + digits_seen rule buffer s 0 k
  unfolding digits_seen
  seen_count s c k = omega arith

  pub seen_none : (s c : ℕ) → digits_seen rule buffer s c s ≡ c
  unfolding digits_seen
  seen_none s c = let e : s - s ≡ zero = omega arith in rw e (add-zero c)

  -- what is kept after s, from s + 1 with another count
  pub kept_same : (s c d k : ℕ) → s < length buffer → s < k
      → ltb 0 (c + cond (is_digit rule (get_or buffer s 0)) 1 0) ≡ ltb 0 d
      → is_kept rule buffer s c k ≡ is_kept rule buffer (s + 1) d k
  unfolding is_kept
  kept_same s c d k l m e =
      grind (arith, nat_tests, seen_first s c k l m, seen_count (s + 1) d k)

  -- ---- a step over one position, kept or dropped

  -- s is dropped, so it holds no digit: what is kept after it is the same from s + 1
  pub kept_behind_dropped : (s c k : ℕ) → is_kept rule buffer s c s ≡ false → s < length buffer
      → s < k → is_kept rule buffer s c k ≡ is_kept rule buffer (s + 1) c k
  unfolding is_kept
  kept_behind_dropped s c k h l m =
      kept_same s c c k l m (grind (arith, no_digit_at_separator, dropped_holds_separator))

  -- a count that saturates stays above zero
  pub count_after_positive : (c byte : ℕ)
      → ltb 0 (c + cond (is_digit rule byte) 1 0) ≡ ltb 0 (count_after rule true byte c)
  count_after_positive c byte = grind (arith, nat_tests)

  -- whether a digit was seen makes no difference
  abbrev pub IgnoresSeen : Type 0
  IgnoresSeen = (t u : Bool) (q : ℕ) → is_dropped rule buffer t q ≡ is_dropped rule buffer u q

  -- the reads count digits, or the count makes no difference
  abbrev pub CountsOrIgnores : Bool → Type 0
  CountsOrIgnores counts = (counts ≡ true) ⊎ IgnoresSeen

  pub kept_behind_kept : (counts : Bool) → CountsOrIgnores counts → (s c k : ℕ)
      → s < length buffer → s < k → is_kept rule buffer s c k
      ≡ is_kept rule buffer (s + 1) (count_after rule counts (get_or buffer s 0) c) k
  unfolding is_kept
  kept_behind_kept counts (inl e) s c k l m =
      rw e (kept_same s c _ k l m (count_after_positive c (get_or buffer s 0)))
  kept_behind_kept counts (inr ignores) s c k l m = ap not (ignores _ _ k)

  pub positions_kept : (counts : Bool) → CountsOrIgnores counts → (s c : ℕ) → s < length buffer
      → is_kept rule buffer s c s ≡ true
      → kept_positions rule buffer s c
      ≡ s ∷ kept_positions rule buffer (s + 1) (count_after rule counts (get_or buffer s 0) c)
  unfolding kept_positions
  positions_kept counts w s c l h =
      grind (arith, gets, range_first, filter_same_from, kept_behind_kept)

  pub positions_dropped : (s c : ℕ) → s < length buffer → is_kept rule buffer s c s ≡ false
      → kept_positions rule buffer s c ≡ kept_positions rule buffer (s + 1) c
  unfolding kept_positions
  positions_dropped s c l h =
      grind (arith, gets, range_first, filter_same_from, kept_behind_dropped)

  pub positions_end : (s c : ℕ) → length buffer ≤ s → kept_positions rule buffer s c ≡ []
  unfolding kept_positions
  positions_end s c l = rw (range_none s (length buffer) l)

  pub place_kept : (s c : ℕ) → s < length buffer → is_kept rule buffer s c s ≡ true
      → place rule buffer s c ≡ s
  unfolding place
  place_kept s c l h = rw (positions_kept true (inl refl) s c l h) refl

  pub place_dropped : (s c : ℕ) → s < length buffer → is_kept rule buffer s c s ≡ false
      → place rule buffer s c ≡ place rule buffer (s + 1) c
  unfolding place
  place_dropped s c l h = ap (λ ks. get_or ks 0 (length buffer)) (positions_dropped s c l h)

  pub place_end : (s c : ℕ) → length buffer ≤ s → place rule buffer s c ≡ length buffer
  unfolding place
  place_end s c l = ap (λ ks. get_or ks 0 (length buffer)) (positions_end s c l)
