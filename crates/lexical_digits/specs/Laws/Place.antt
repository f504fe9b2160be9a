-- Where the place is.
use Rattle.std.proofs.Common.{◌≡◌, ℕ, zero, suc, ◌+◌, ◌<◌, ◌≤◌, true, false, List, [], ◌∷◌, length, drop, refl, arith, inl, inr}
use Rattle.lexical_digits.specs.Laws.Terms.{list_any, cases_lt, cases_Bool, Rule, Role, grants, is_dropped, is_kept, kept_positions, drain, place, GrantsNone}
use Rattle.lexical_digits.specs.Laws.Ranges.{filter_all, reads_positions}
use Rattle.lexical_digits.specs.Laws.Kept.{place_kept, place_dropped, place_end}

-- By steps over one position: a claim of start and count holds from any start.
module _ (rule : Rule) (buffer : List ℕ) where
  module _ (P : ℕ → ℕ → Type 0) (at_end : (s c : ℕ) → length buffer ≤ s → P s c)
      (at_kept : (s c : ℕ) → s < length buffer → is_kept rule buffer s c s ≡ true → P s c)
      (at_dropped : (s c : ℕ) → s < length buffer → is_kept rule buffer s c s ≡ false
      → P (s + 1) c → P s c) where
    by_more : (d s c : ℕ) → length buffer ≤ s + d → P s c
    by_more zero s c l = at_end s c (omega arith)
    by_more (suc d) s c l = elim (cases_lt s (length buffer)) [
      | inl m ↦ elim (cases_Bool (is_kept rule buffer s c s)) [
        | inl e ↦ at_kept s c m e
        | inr e ↦ at_dropped s c m e (by_more d (s + 1) c (omega arith))
      ]
      | inr m ↦ at_end s c m
    ]

    pub by_steps : (s c : ℕ) → P s c
    by_steps s c = by_more (length buffer) s c (omega arith)

  pub place_low : (s c : ℕ) → s ≤ length buffer → s ≤ place rule buffer s c
  place_low =
      by_steps _ (grind (arith, place_end)) (grind (arith, place_kept))
      (grind (arith, place_dropped))

  pub place_high : (s c : ℕ) → place rule buffer s c ≤ length buffer
  place_high =
      by_steps _ (grind (arith, place_end)) (grind (arith, place_kept))
      (grind (arith, place_dropped))

  pub place_settled : (s c : ℕ)
      → place rule buffer (place rule buffer s c) c ≡ place rule buffer s c
  place_settled =
      by_steps _ (grind (arith, place_end)) (grind (arith, place_kept))
      (grind (arith, place_dropped))

-- ---- where nothing is granted

module _ (rule : Rule) where
  pub grants_no_list : GrantsNone rule → (rs : List Role) → list_any (grants rule) rs ≡ false
  grants_no_list none [] = refl
  grants_no_list none (r ∷ rs) = grind (arith, none, grants_no_list none rs)

  module _ (buffer : List ℕ) where
    pub kept_if_none : GrantsNone rule → (s c k : ℕ) → is_kept rule buffer s c k ≡ true
    unfolding is_kept is_dropped
    kept_if_none none s c k = grind (arith, grants_no_list none)

    -- the drain is then the whole rest of the buffer
    pub drain_if_none : GrantsNone rule → (s c : ℕ) → drain rule buffer s c ≡ drop s buffer
    unfolding drain kept_positions
    drain_if_none none s c =
        rw (filter_all (is_kept rule buffer s c) (kept_if_none none s c)) (reads_positions buffer s)
