-- `skip` for a word with no separator and no flag: no byte is dropped.
use Rattle.std.proofs.Common.{◌≡◌, ℕ, zero, suc, ◌+◌, ◌-◌, ◌*◌, ◌/◌, ◌%◌, ◌^◌, ◌<◌, ◌≤◌, true, false, nat_eq, List, ◌∷◌, length, drop, get_or, refl, sym, ap, ◌∙◌, arith, length-drop, ◌⊎◌, inl, inr}
use Rattle.std.proofs.Math.Nat.{div-div-eq-div-mul}
use Rattle.std.proofs.lemmas.Bool.{cases_lt}
use Rattle.std.proofs.lemmas.List.{get_or_past}
use Rattle.std.proofs.lemmas.List.FromFn.{get_or-range_with_len, length-range_with_len}
use Rattle.std.proofs.lemmas.List.Sums.{prefix_len-le-length}
use Rattle.std.proofs.lemmas.Nat.Bits.{bit_at_cat_low, bit_at-zero}
use Rattle.std.specs.Int.{bit_at}
use Rattle.std.specs.List.{filter, range_with_len, prefix_len}
use Rattle.lexical_format.specs.Word.{separator, separator_flags}
use Rattle.lexical_digits.specs.declared.skip.rule.Rule.{Rule}
use Rattle.lexical_digits.specs.declared.skip.component.Component.{Component}
use Rattle.lexical_digits.specs.declared.skip.component.Component.TheVariants.{Integer, Fraction, Exponent, Special}
use Rattle.lexical_digits.specs.Separators.{is_kept, kept_positions, zeros, past_zeros, GrantsNone}
use Rattle.lexical_digits.specs.State.{is_contiguous, has_no_separator}
use Rattle.lexical_digits.specs.Laws.Ranges.{filter_same_from}
use Rattle.lexical_digits.specs.Laws.Place.{kept_if_none, drain_if_none}

-- ---- the word

-- each of the thirteen bits is zero
no_bit : (word i : ℕ) → separator_flags word ≡ 0 → i < 13 → (word / (2 ^ 32 * 2 ^ i)) % 2 ≡ 0
no_bit word i none below =
    let flags : ℕ = (word / 2 ^ 32) / 2 ^ 13 in
    let whole : word / 2 ^ 32 ≡ flags * 2 ^ 13 + 0 = omega (arith, none) in
    ap (λ (n : ℕ). n % 2) (sym (div-div-eq-div-mul word (2 ^ 32) (2 ^ i)))
    ∙ ap (λ (n : ℕ). bit_at n i) whole
    ∙ bit_at_cat_low flags 13 0 i below
    ∙ bit_at-zero i

-- nothing is granted, and so every component is contiguous
module _ (word : ℕ) (none : separator_flags word ≡ 0) where
  no_flag : (i : ℕ) → i < 13 → nat_eq ((word / (2 ^ 32 * 2 ^ i)) % 2) 1 ≡ false
  no_flag i below = ap (λ (n : ℕ). nat_eq n 1) (no_bit word i none below)

  pub contiguous : (k : Component) → is_contiguous k word ≡ true
  contiguous Integer =
      rw (
        no_flag 0 (omega arith),
        no_flag 3 (omega arith),
        no_flag 6 (omega arith),
        no_flag 9 (omega arith),
      ) refl
  contiguous Fraction =
      rw (
        no_flag 1 (omega arith),
        no_flag 4 (omega arith),
        no_flag 7 (omega arith),
        no_flag 10 (omega arith),
      ) refl
  contiguous Exponent =
      rw (
        no_flag 2 (omega arith),
        no_flag 5 (omega arith),
        no_flag 8 (omega arith),
        no_flag 11 (omega arith),
      ) refl
  contiguous Special = rw (no_flag 12 (omega arith)) refl

pub no_separator : (word : ℕ) → separator word ≡ 0 → has_no_separator word ≡ true
no_separator word none = ap (λ (n : ℕ). nat_eq n 0) none

-- ---- what is kept

module _ (rule : Rule) (none : GrantsNone rule) (buffer : List ℕ) where
  filter_true : (s n : ℕ) → filter (λ (_ : ℕ). true) (range_with_len s n) ≡ range_with_len s n
  filter_true s zero = refl
  filter_true s (suc n) = ap (λ ks. s ∷ ks) (filter_true (s + 1) n)

  positions_all : (s c : ℕ)
      → kept_positions rule buffer s c ≡ range_with_len s (length buffer - s)
  unfolding kept_positions
  positions_all s c =
      filter_same_from (is_kept rule buffer s c) (λ _. true) s (length buffer - s)
      (λ k l. kept_if_none rule buffer none s c k)
      ∙ filter_true s (length buffer - s)

  position_at : (s n z : ℕ) → length buffer ≡ s + n → z ≤ n
      → get_or (range_with_len s n) z (length buffer) ≡ s + z
  position_at s n z l h = here (cases_lt z n)
    where
      here : (z < n) ⊎ (n ≤ z) → get_or (range_with_len s n) z (length buffer) ≡ s + z
      here (inl m) = get_or-range_with_len s n z (length buffer) m
      here (inr m) =
          get_or_past (range_with_len s n) z (length buffer)
          (omega (arith, length-range_with_len s n))
          ∙ omega arith

  -- ---- the zeros

  abbrev zeros_left : ℕ → ℕ
  zeros_left s = prefix_len (λ byte. nat_eq byte 48) (drop s buffer)

  pub zeros_all : (s c : ℕ) → zeros rule buffer s c ≡ zeros_left s
  unfolding zeros
  zeros_all s c = ap (prefix_len (λ byte. nat_eq byte 48)) (drain_if_none rule buffer none s c)

  pub past_zeros_all : (s c : ℕ) → s ≤ length buffer
      → past_zeros rule buffer s c ≡ s + zeros_left s
  unfolding past_zeros
  past_zeros_all s c l =
      let fits : zeros_left s ≤ length (drop s buffer) =
      prefix_len-le-length (λ byte. nat_eq byte 48) (drop s buffer) in
      let left : zeros_left s ≤ length buffer - s = omega (arith, fits, length-drop s buffer) in
      ap (λ (n : ℕ). get_or (kept_positions rule buffer s c) n (length buffer)) (zeros_all s c)
      ∙ ap (λ ks. get_or ks (zeros_left s) (length buffer)) (positions_all s c)
      ∙ position_at s (length buffer - s) (zeros_left s) (omega arith) left
