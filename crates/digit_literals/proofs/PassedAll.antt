-- What stands after the bytes that are passed as long as a test holds, and what is passed.
use Rattle.std.proofs.Common.{◌≡◌, ℕ, zero, suc, ◌+◌, ◌<◌, ◌≤◌, List, [], ◌∷◌, length, drop, take_while, refl, arith}
use Rattle.std.specs.Prelude.{Bool, true, false, slice_get}
use Rattle.std.proofs.lemmas.List.{drop_all}
use Rattle.std.proofs.lemmas.List.Sums.{take_while-cons}
use Rattle.lexical_digits.specs.ByteSet.{accepts}
use Rattle.lexical_digits.specs.Cursor.{holds_of}
use Rattle.lexical_digits.specs.declared.ops.ByteSet.{ByteSet}
use Rattle.digit_values.specs.Bytes.{is_name_byte, name_end, past_bytes}
use Rattle.digit_literals.specs.declared.list.Gap.{Gap}
use Rattle.digit_literals.specs.Lists.{has_blank, is_blank, past_blanks}

module _ (p : ℕ → Bool) where
  -- how many are passed from a position on
  abbrev passed : List ℕ → ℕ → ℕ
  passed xs at = length (take_while p (drop at xs))

  abbrev passes : List ℕ → ℕ → Bool
  passes xs at = holds_of p (slice_get xs at)

  first_passes : (x : ℕ) (xs : List ℕ) → p x ≡ true
      → length (take_while p (x ∷ xs)) ≡ suc (length (take_while p xs))
  first_passes x xs is = rw (take_while-cons p x xs, is) refl

  first_fails : (x : ℕ) (xs : List ℕ) → p x ≡ false → length (take_while p (x ∷ xs)) ≡ 0
  first_fails x xs is = rw (take_while-cons p x xs, is) refl

  none_follows : (xs : List ℕ) (at : ℕ) → passes xs (at + passed xs at) ≡ false
  none_follows [] at = refl
  none_follows (x ∷ xs) zero = by (none_follows xs 0) (p x) refl
    where
      by : passes xs (0 + length (take_while p xs)) ≡ false → (is : Bool) → p x ≡ is
          → passes (x ∷ xs) (0 + length (take_while p (x ∷ xs))) ≡ false
      by others true is =
          let more : 0 + length (take_while p (x ∷ xs)) ≡ suc (0 + length (take_while p xs)) =
          omega (arith, first_passes x xs is) in
          rw more others
      by others false is =
          let none : 0 + length (take_while p (x ∷ xs)) ≡ 0 =
          omega (arith, first_fails x xs is) in
          rw none is
  none_follows (x ∷ xs) (suc at) =
      let more : suc at + passed xs at ≡ suc (at + passed xs at) = omega arith in
      rw more (none_follows xs at)

  each_passes : (xs : List ℕ) (at i : ℕ) → at ≤ i → i < at + passed xs at → passes xs i ≡ true
  each_passes [] at i from to =
      let none : passed [] at ≡ 0 = rw (drop_all {X = ℕ} at [] (omega arith)) refl in
      absurd (omega (arith, none, from, to))
  each_passes (x ∷ xs) zero i from to =
      by (λ j l. each_passes xs 0 j (omega arith) l) (p x) refl i to
    where
      by : ((j : ℕ) → j < 0 + length (take_while p xs) → passes xs j ≡ true)
          → (is : Bool) → p x ≡ is → (i : ℕ) → i < 0 + length (take_while p (x ∷ xs))
          → passes (x ∷ xs) i ≡ true
      by others false is i to = absurd (omega (arith, first_fails x xs is, to))
      by others true is zero to = is
      by others true is (suc i) to = others i (omega (arith, first_passes x xs is, to))
  each_passes (x ∷ xs) (suc at) zero from to = absurd (omega (arith, from))
  each_passes (x ∷ xs) (suc at) (suc i) from to =
      each_passes xs at i (omega (arith, from)) (omega (arith, to))

module _ (text : List ℕ) (at : ℕ) where
  pub none_past : (set : ByteSet)
      → holds_of (accepts set) (slice_get text (past_bytes text at set)) ≡ false
  unfolding past_bytes
  none_past set = none_follows (accepts set) text at

  pub each_past : (set : ByteSet) (i : ℕ) → at ≤ i → i < past_bytes text at set
      → holds_of (accepts set) (slice_get text i) ≡ true
  unfolding past_bytes
  each_past set i from to = each_passes (accepts set) text at i from to

  pub no_name : holds_of is_name_byte (slice_get text (name_end text at)) ≡ false
  unfolding name_end
  no_name = none_follows is_name_byte text at

  pub each_name : (i : ℕ) → at ≤ i → i < name_end text at
      → holds_of is_name_byte (slice_get text i) ≡ true
  unfolding name_end
  each_name i from to = each_passes is_name_byte text at i from to

  pub no_blank_past : (gap : Gap) → has_blank gap text (past_blanks gap text at) ≡ false
  unfolding past_blanks
  no_blank_past gap = none_follows (is_blank gap) text at

  pub each_blank : (gap : Gap) (i : ℕ) → at ≤ i → i < past_blanks gap text at
      → has_blank gap text i ≡ true
  unfolding past_blanks
  each_blank gap i from to = each_passes (is_blank gap) text at i from to

-- to be named in an attribute
pub ruleset passed_bytes = (none_past, each_past, no_name, each_name, no_blank_past, each_blank)
