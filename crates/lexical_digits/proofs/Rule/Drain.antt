-- What one read does to a drain.
use Rattle.std.proofs.Common.{◌≡◌, ℕ, ◌+◌, ◌-◌, ◌<◌, ◌≤◌, ◌^◌, min, Bool, true, false, cond, eqb, List, [], ◌∷◌, length, get_or, drop, refl, arith, one-add, inl, count_by, slice_get}
use Rattle.lexical_digits.specs.Laws.Terms.{gets, nat_tests, drop_all, sum_by-drop_more, Rule, is_digit, kept_positions, drain, place, zeros, past_zeros, IsSupported, count_after, one_more, digit_value, holds_of}
use Rattle.lexical_digits.specs.Laws.Kept.{CountsOrIgnores, positions_kept, positions_dropped, positions_end, place_kept, place_dropped, place_end, no_digit_at_separator}
use Rattle.lexical_digits.specs.Laws.Place.{by_steps, place_high}
use Rattle.lexical_digits.proofs.Rule.Runs.{dropped_is_separator}

-- one element more on the left
count_more : (p : ℕ → Bool) (xs : List ℕ) (s : ℕ) → s < length xs
    → count_by p (drop s xs) ≡ cond (p (get_or xs s 0)) 1 0 + count_by p (drop (s + 1) xs)
count_more p xs s l = sum_by-drop_more (λ x. cond (p x) 1 0) xs s 0 l

-- a dropped position is passed, and holds no digit
pub ruleset passed = (place_dropped, no_digit_at_separator, dropped_is_separator)

module _ (rule : Rule) (buffer : List ℕ) where
  abbrev at : ℕ → ℕ → ℕ
  at s c = place rule buffer s c

  -- the count behind the place
  abbrev past : Bool → ℕ → ℕ → ℕ
  past counts s c = count_after rule counts (get_or buffer (at s c) 0) c

  -- the place is kept, from the same start and from itself
  pub positions_at_place : (counts : Bool) → CountsOrIgnores rule buffer counts → (s c : ℕ)
      → at s c < length buffer → kept_positions rule buffer s c
      ≡ at s c ∷ kept_positions rule buffer (at s c + 1) (past counts s c)
  positions_at_place counts w =
      by_steps rule buffer _
      (grind (arith, place_end)) (grind (arith, place_kept, positions_kept rule buffer counts w))
      (grind (arith, place_dropped, positions_dropped))

  pub positions_at_end : (s c : ℕ) → at s c ≡ length buffer → kept_positions rule buffer s c ≡ []
  positions_at_end =
      by_steps rule buffer _
      (grind (arith, positions_end)) (grind (arith, place_kept))
      (grind (arith, place_dropped, positions_dropped))

  -- what is skipped holds no digit
  pub digits_from_place : (s c : ℕ) → s ≤ length buffer
      → count_by (is_digit rule) (drop s buffer)
      ≡ count_by (is_digit rule) (drop (at s c) buffer)
  digits_from_place =
      by_steps rule buffer _
      (grind (arith, place_end)) (grind (arith, place_kept))
      (grind (arith, passed, count_more))

  -- ---- the count in the end

  -- with so many digits more, it stops at the greatest number
  abbrev pub counted : ℕ → List ℕ → ℕ
  counted count bytes = min (count + count_by (is_digit rule) bytes) (2 ^ 64 - 1)

  pub counted_at_place : (s c : ℕ) → s ≤ length buffer → at s c < length buffer →
      counted c (drop s buffer) ≡ counted (past true s c) (drop (at s c + 1) buffer)
  counted_at_place s c l m =
      grind (arith, digits_from_place s c l, count_more (is_digit rule) buffer _ m)

  pub counted_at_end : (s c : ℕ) → s ≤ length buffer → c < 2 ^ 64
      → at s c ≡ length buffer → counted c (drop s buffer) ≡ c
  counted_at_end s c l small e =
      grind (arith, digits_from_place s c l, drop_all (length buffer) buffer)

  pub zeros_at_place : (counts : Bool) → CountsOrIgnores rule buffer counts → (s c : ℕ)
      → at s c < length buffer → eqb (get_or buffer (at s c) 0) 48 ≡ true
      → zeros rule buffer s c ≡ 1 + zeros rule buffer (at s c + 1) (past counts s c)
  unfolding zeros drain
  zeros_at_place counts w s c l e = rw (positions_at_place counts w s c l, e)

  pub zeros_none : (s c : ℕ) → holds_of (λ b. eqb b 48) (slice_get buffer (at s c)) ≡ false
      → zeros rule buffer s c ≡ 0
  unfolding zeros drain
  zeros_none s c e =
      grind (arith, gets, place_high, positions_at_place true (inl refl), positions_at_end)

  pub past_at_place : (counts : Bool) → CountsOrIgnores rule buffer counts → (s c : ℕ)
      → at s c < length buffer → eqb (get_or buffer (at s c) 0) 48 ≡ true
      → past_zeros rule buffer s c ≡ past_zeros rule buffer (at s c + 1) (past counts s c)
  unfolding past_zeros
  past_at_place counts w s c l e =
      rw (zeros_at_place counts w s c l e, one-add, positions_at_place counts w s c l) refl

  pub past_none : (s c : ℕ) → zeros rule buffer s c ≡ 0
      → past_zeros rule buffer s c ≡ at s c
  unfolding past_zeros place
  past_none s c e = rw e refl

  -- `0` is a digit of each radix above zero
  pub zero_counts : IsSupported rule → (counts : Bool) (byte c : ℕ) → eqb byte 48 ≡ true
      → count_after rule counts byte c ≡ cond counts (one_more c) c
  unfolding is_digit digit_value
  zero_counts supported counts byte c e = grind (arith, nat_tests, supported.low)
