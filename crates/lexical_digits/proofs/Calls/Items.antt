-- For any implementer, what reads come to: the items, the digits that lead, and the zeros.
use Rattle.std.proofs.Common.{◌≡◌, ℕ, ◌<◌, ◌≤◌, ◌∷◌, [], suc, Bool, List, Some, length, slice_get, slice_index, refl, arith, length-drop, nat_lt, if◌then◌else◌, is_some, zero, true, false, ◌+◌, ltb-true, ltb-false, lt-ltb, le-ltb}
use Rattle.lexical_digits.specs.Laws.Terms.{gets, slice_get-get_or, slice_get_past, cases_lt, option_map_or, iterate, take_while-cons, leading, holds_of, at_zero, past_zero, after_zeros, IterLaws, bytes_left, items, after_items, DigitLaws}
use Rattle.lexical_digits.specs.Cursor.{zeros}
use Rattle.lexical_digits.proofs.Calls.Walk.{Falls, by_walk, walk_step, walk_end}

pub iterate_last : {A : Type 0} (f : A → A) (n : ℕ) (x : A)
    → iterate f (suc n) x ≡ f (iterate f n x)
iterate_last f zero x = refl
iterate_last f (suc n) x = iterate_last f n (f x)

module _ {M : Type 0} {valid : M → Type 0} {buffer : M → List ℕ} {cursor current_count : M → ℕ}
    {contiguous : M → Bool} {separates : M → ℕ → Bool} {moved : M → ℕ → M} {place : M → ℕ}
    {digit : M → ℕ → Bool} {settled counted taken : M → M}
    (laws : DigitLaws valid buffer cursor current_count contiguous separates moved place digit
    settled counted taken) where
  falls : Falls valid (bytes_left buffer cursor) (λ n. nat_lt (place n) (length (buffer n))) taken
  falls = record {
    stays = λ m v e. laws.taken_valid m v;
    falls = λ m v e.
        let within : place m < length (buffer m) = ltb-true _ _ e in
        rw (laws.taken_buffer m v, laws.taken_cursor m v within)
        (simp length-drop (omega (arith, laws.place_from m v)));
  }

  -- a claim that holds at the end, and where there is a byte if it holds of what `next` leaves
  pub by_items : (P : M → Type 0) → ((m : M) → valid m → length (buffer m) ≤ place m → P m)
      → ((m : M) → valid m → place m < length (buffer m) → P (taken m) → P m)
      → (m : M) → valid m → P m
  by_items P at_end at_byte = by_walk falls P (λ m v e. at_end m v (ltb-false _ _ e))
      (λ m v e. at_byte m v (ltb-true _ _ e))

  abbrev items_of : M → List ℕ
  items_of = items buffer cursor place taken

  abbrev after_of : M → M
  after_of = after_items buffer cursor place taken

  -- the byte at the place, and then the items of what `next` leaves
  pub items_step : (m : M) → valid m → place m < length (buffer m)
      → items_of m ≡ slice_index (buffer m) (place m) ∷ items_of (taken m)
  unfolding items
  items_step m v h = walk_step falls (λ _. []) (λ n more. slice_index (buffer n) (place n) ∷ more) m
      v (lt-ltb _ _ h)

  pub items_end : (m : M) → length (buffer m) ≤ place m → items_of m ≡ []
  unfolding items
  items_end m h =
      walk_end falls (λ _. []) (λ n more. slice_index (buffer n) (place n) ∷ more) m (le-ltb _ _ h)

  -- both cases in one, by the byte at the place
  pub items_unroll : (m : M) → valid m → items_of m
      ≡ option_map_or (λ byte. byte ∷ items_of (taken m)) (slice_get (buffer m) (place m)) []
  items_unroll m v =
      grind (arith, gets, cases_lt, slice_get-get_or, items_step, slice_get_past, items_end)

  -- what the items leave, by whether there is one
  pub after_items_unroll : (m : M) → valid m → after_of m
      ≡ if is_some (slice_get (buffer m) (place m)) then after_of (taken m) else taken m
  unfolding after_items
  after_items_unroll m v =
      let step = walk_step falls taken (λ _ after. after) m v in
      let stop = walk_end falls taken (λ _ after. after) m in
      grind (arith, gets, cases_lt (place m) (length (buffer m)), lt-ltb, le-ltb)

  module _ (p : ℕ → Bool) where
    -- a digit at the place, and then those that lead what `next` leaves
    pub leading_digit : (m : M) (b : ℕ) → valid m → slice_get (buffer m) (place m) ≡ Some b
        → p b ≡ true → leading buffer cursor place taken p m
        ≡ b ∷ leading buffer cursor place taken p (taken m)
    unfolding leading
    leading_digit m b v e h = rw (items_unroll m v, e, take_while-cons p b _, h) refl

    -- none where no digit stands at the place
    pub leading_none : (m : M) → valid m → holds_of p (slice_get (buffer m) (place m)) ≡ false
        → leading buffer cursor place taken p m ≡ []
    unfolding leading
    leading_none m v h = rw (items_unroll m v) (grind (arith, take_while-cons {X = ℕ}))

  module _ (iter : IterLaws valid buffer cursor contiguous separates moved) where
    abbrev starts : M → Bool
    starts = at_zero buffer cursor place moved settled counted

    abbrev past : M → M
    past = past_zero buffer cursor place moved settled counted

    abbrev zeros_of : M → ℕ
    zeros_of = zeros buffer cursor place moved settled counted

    abbrev after_zeros_of : M → M
    after_zeros_of = after_zeros buffer cursor place moved settled counted

    pub zero_within : (m : M) → starts m ≡ true → place m < length (buffer m)
    zero_within m e = grind (arith, gets)

    -- past a zero there is still a position, the length at most
    past_fits : (m : M) → valid m → starts m ≡ true → place m + 1 ≤ length (buffer (settled m))
    past_fits m v e = rw (laws.settled_buffer m v) (omega (arith, zero_within m e))

    past_valid : (m : M) → valid m → starts m ≡ true → valid (moved (settled m) (place m + 1))
    past_valid m v e = iter.moved_valid _ _ (laws.settled_valid m v) (past_fits m v e)

    pub past_cursor : (m : M) → valid m → starts m ≡ true → cursor (past m) ≡ place m + 1
    past_cursor m v e = grind (arith, gets, past_valid, past_fits)

    pub zeros_fall : Falls valid (bytes_left buffer cursor) starts past
    zeros_fall = record {
      stays = λ m v e. laws.counted_valid _ (past_valid m v e);
      falls = λ m v e.
          let counted = laws.counted_buffer _ (past_valid m v e) in
          let set = iter.moved_buffer (settled m) _ (laws.settled_valid m v) (past_fits m v e) in
          rw (counted, set, laws.settled_buffer m v, past_cursor m v e)
          (simp length-drop (omega (arith, zero_within m e, laws.place_from m v)));
    }

    -- the zeros, by whether the byte at the place is `0`
    pub zeros_by : (b : Bool) (m : M) → starts m ≡ b → valid m
        → zeros_of m ≡ if b then zeros_of (past m) + 1 else 0
    unfolding zeros
    zeros_by true m e v = walk_step zeros_fall (λ _. 0) (λ _ more. more + 1) m v e
    zeros_by false m e v = walk_end zeros_fall (λ _. 0) (λ _ more. more + 1) m e

    -- what they leave, by the same
    pub after_zeros_by : (b : Bool) (m : M) → starts m ≡ b → valid m
        → after_zeros_of m ≡ if b then after_zeros_of (past m) else settled m
    unfolding after_zeros
    after_zeros_by true m e v = walk_step zeros_fall settled (λ _ after. after) m v e
    after_zeros_by false m e v = walk_end zeros_fall settled (λ _ after. after) m e
