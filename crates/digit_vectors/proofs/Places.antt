-- A filter over positions, by its first one.
use Rattle.std.proofs.Common.{◌≡◌, ℕ, ◌+◌, ◌-◌, ◌<◌, ◌≤◌, true, false, List, [], ◌∷◌, length, get_or, refl, sym, ap, ◌∙◌}
use Rattle.std.specs.List.{filter, range_with_len}
use Rattle.lexical_digits.specs.declared.skip.rule.Rule.{Rule}
use Rattle.lexical_digits.specs.Separators.{is_kept, kept_positions, place}
use Rattle.lexical_digits.specs.Laws.Ranges.{range_first, range_none}

module _ (rule : Rule) (buffer : List ℕ) (start count : ℕ) where
  -- those that are kept from position i on
  abbrev pub kept_from : ℕ → List ℕ
  kept_from i = filter (is_kept rule buffer start count) (range_with_len i (length buffer - i))

  pub kept_from_dropped : (i : ℕ) → i < length buffer → is_kept rule buffer start count i ≡ false
      → kept_from i ≡ kept_from (i + 1)
  kept_from_dropped i l h = rw (range_first i (length buffer) l, h) refl

  -- where none before i is kept, i is the place if it is kept
  pub place_first : (i : ℕ) → i < length buffer → is_kept rule buffer start count i ≡ true
      → kept_from i ≡ kept_positions rule buffer start count → i ≡ place rule buffer start count
  unfolding place
  place_first i l h e =
      let first : kept_from i ≡ i ∷ kept_from (i + 1) =
      rw (range_first i (length buffer) l, h) refl in
      ap (λ ks. get_or ks 0 (length buffer)) (sym first ∙ e)

  pub place_none : (i : ℕ) → length buffer ≤ i
      → kept_from i ≡ kept_positions rule buffer start count
      → length buffer ≡ place rule buffer start count
  unfolding place
  place_none i l e =
      ap (λ ks. get_or ks 0 (length buffer))
      (sym (let none : kept_from i
      ≡ [] = ap (filter (is_kept rule buffer start count)) (range_none i (length buffer) l) in
      none) ∙ e)
