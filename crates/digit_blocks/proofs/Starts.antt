-- Where a block begins: after the first byte with which one may end.
use Rattle.std.proofs.Common.{◌≡◌, ℕ, zero, suc, ◌+◌, ◌<◌, ◌≤◌, true, false, List, length, arith, inl, inr, add-one}
use Rattle.std.specs.Prelude.{slice_index}
use Rattle.std.proofs.lemmas.Bool.{cases_lt}
use Rattle.lexical_digits.specs.ByteSet.{accepts}
use Rattle.lexical_digits.specs.Laws.Terms.{gets}
use Rattle.digit_literals.specs.declared.list.Gap.{Gap}
use Rattle.digit_blocks.specs.Blocks.{IsStart, ends_of, may_end}

module _ (gap : Gap) (text : List ℕ) where
  -- such a byte is there
  pub ends_here : (at : ℕ) → at < length text → accepts (ends_of gap) (slice_index text at) ≡ true
      → may_end gap text at ≡ true
  ends_here at within is = grind (arith, gets, within, is)

  ends_not : (at : ℕ) → at < length text → accepts (ends_of gap) (slice_index text at) ≡ false
      → may_end gap text at ≡ false
  ends_not at within is = grind (arith, gets, within, is)

  -- one position more without such a byte
  pub none_more : (from upto : ℕ) → upto < length text
      → ((k : ℕ) → from ≤ k → k < upto → may_end gap text k ≡ false)
      → accepts (ends_of gap) (slice_index text upto) ≡ false
      → (k : ℕ) → from ≤ k → k < upto + 1 → may_end gap text k ≡ false
  none_more from upto within none is k low high = elim (cases_lt k upto) [
    | inl l ↦ none k low l
    | inr l ↦ let e : k ≡ upto = omega (arith, l, high) in rw e (ends_not upto within is)
  ]

  -- such a byte is before it
  pub start_after : (last : ℕ) → may_end gap text last ≡ true → IsStart gap text (last + 1)
  start_after last is = rw (add-one last) (inr is)

  -- if none is at the positions from one on, no block begins after them
  pub no_start : (from upto other : ℕ)
      → ((k : ℕ) → from ≤ k → k < upto → may_end gap text k ≡ false)
      → from < other → other ≤ upto → IsStart gap text other → ⊥
  no_start from upto zero none low high start = omega arith
  no_start from upto (suc k) none low high (inl is) = omega (arith, is)
  no_start from upto (suc k) none low high (inr is) =
      let other = none k (omega arith) (omega arith) in absurd (cc)
