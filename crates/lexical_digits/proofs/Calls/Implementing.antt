-- For implementers, from the laws that they prove: the items, how many, and std's chains over them.
use Rattle.std.proofs.Common.{◌≡◌, ℕ, ◌+◌, ◌<◌, ◌≤◌, ◌∷◌, [], Bool, List, length, slice_get, slice_index, Option, Some, None, ap, arith, Bor, option_copied}
use Rattle.lexical_digits.specs.Laws.Terms.{option_map_or, items, DigitLaws}
use Rattle.std.proofs.lemmas.Iterator.{YieldsList}
use Rattle.std.proofs.lemmas.Iterator.Consumers.{YieldsList-from_shown}
use Rattle.lexical_digits.proofs.Calls.Items.{by_items, items_step, items_end, items_unroll}

module _ {M : Type 0} {valid : M → Type 0} {buffer : M → List ℕ} {cursor current_count : M → ℕ}
    {contiguous : M → Bool} {separates : M → ℕ → Bool} {moved : M → ℕ → M} {place : M → ℕ}
    {digit : M → ℕ → Bool} {settled counted taken : M → M}
    (laws : DigitLaws valid buffer cursor current_count contiguous separates moved place digit
    settled counted taken) where
  abbrev length_of : M → ℕ
  length_of m = length (buffer m)

  abbrev byte_of : M → ℕ
  byte_of m = slice_index (buffer m) (place m)

  abbrev items_of : M → List ℕ
  items_of = items buffer cursor place taken

  -- a list that is empty at the end, and else the byte at the place and the list after `next`
  module _ (shown : M → List ℕ)
      (at_end : (m : M) → valid m → place m ≡ length_of m → shown m ≡ [])
      (at_byte : (m : M) → valid m → place m < length_of m →
      shown m ≡ byte_of m ∷ shown (taken m)) where
    -- is the list of the items
    pub items_are : (m : M) → valid m → items_of m ≡ shown m
    items_are = by_items laws (λ m. items_of m ≡ shown m)
        (λ m v h. grind (arith, items_end laws m h, at_end m v, laws.place_to m v))
        (λ m v h rest. grind (arith, items_step laws m v h, at_byte m v h))

  -- no more than bytes are left
  pub items_fit : (n : ℕ) (m : M) → valid m → length_of m ≤ cursor m + n →
      length (items_of m) ≤ n
  items_fit n m v l = omega (arith, room m v)
    where
      room : (m : M) → valid m → length (items_of m) + cursor m ≤ length_of m
      room = by_items laws (λ m. length (items_of m) + cursor m ≤ length_of m)
          (λ m v h. rw (items_end laws m h) (omega (arith, laws.place_from m v, laws.place_to m v)))
          (λ m v h rest.
          rw (items_step laws m v h)
          (omega (arith, ap length (laws.taken_buffer m v), laws.place_from m v)))

  -- whatever `next_gives` is, a chain over the iterator gives its items
  pub YieldsList-from_items : {S : Type 0} (gives : S → Option (Bor ℕ) → S → Type 0)
      (meaning : S → M) → ((s : S) → valid (meaning s)) →
      ((s t : S) (r : Option (Bor ℕ)) → gives s r t →
      option_copied r ≡ slice_get (buffer (meaning s)) (place (meaning s))) →
      ((s t : S) (r : Option (Bor ℕ)) → gives s r t → meaning t ≡ taken (meaning s)) →
      (s : S) → YieldsList gives (λ x. x.now) s (items_of (meaning s))
  YieldsList-from_items {S} gives meaning valid_now next_byte next_takes s =
      YieldsList-from_shown gives (λ x. x.now) (λ t. items_of (meaning t))
      (λ s t h. ap length (by_byte s t None h)) (λ s x t h. by_byte s t (Some x) h) s
    where
      next : List ℕ → Option ℕ → List ℕ
      next more byte = option_map_or (λ b. b ∷ more) byte []

      by_byte : (s t : S) (r : Option (Bor ℕ)) → gives s r t →
          items_of (meaning s) ≡ next (items_of (meaning t)) (option_copied r)
      by_byte s t r h =
          rw (items_unroll laws (meaning s) (valid_now s), ← next_byte s t r h, next_takes s t r h)
