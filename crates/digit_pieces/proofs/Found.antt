-- A separator that was found backward, with blanks alone before it so far.
use Rattle.std.proofs.Common.{◌≡◌, ℕ, suc, ◌<◌, ◌≤◌, Bool, true, false, List, length, slice_index, arith, inl, inr}
use Rattle.std.specs.Prelude.{slice_get, Option, Some, None, IfSome, is_some}
use Rattle.std.proofs.lemmas.Bool.{cases_lt}
use Rattle.lexical_digits.specs.ByteSet.{accepts}
use Rattle.lexical_digits.specs.Cursor.{holds_of}
use Rattle.lexical_digits.specs.Laws.Terms.{gets}
use Rattle.digit_literals.specs.declared.list.Gap.{Gap}
use Rattle.digit_literals.specs.Lists.{has_blank, has_separator}
use Rattle.digit_pieces.specs.Cuts.{PartsNumbers}

pub record IsFound (has : ℕ → Bool) (gap : Gap) (text : List ℕ) (from at : ℕ) : Type 0 where
  pub upto : from ≤ at
  pub separator : has_separator gap text at ≡ true
  pub other : holds_of has (slice_get text at) ≡ false
  pub blanks : (i : ℕ) → from ≤ i → i < at → has_blank gap text i ≡ true

module _ (has : ℕ → Bool) (gap : Gap) (text : List ℕ) where
  -- a blank before it
  pub found_on : (from : ℕ) (found : Option ℕ) → IfSome found (IsFound has gap text (suc from))
      → from < length text → accepts gap.separators (slice_index text from) ≡ false
      → accepts gap.blanks (slice_index text from) ≡ true
      → IfSome found (IsFound has gap text from)
  found_on from None is within none blank = tt
  found_on from (Some p) is within none blank = record {
    upto = omega (arith, is.upto);
    separator = is.separator;
    other = is.other;
    blanks = λ i low l. elim (cases_lt from i) [
      | inl more ↦ is.blanks i (omega (arith, more)) l
      | inr same ↦
          let e : i ≡ from = omega (arith, low, same) in
          let here : has_blank gap text from ≡ true = grind (arith, gets, none, blank) in
          rw e here
    ];
  }

  -- none before it
  pub found_none : (from : ℕ) (found : Option ℕ) → is_some found ≡ false
      → IfSome found (IsFound has gap text from)
  found_none from None is = tt
  found_none from (Some p) is = absurd cc

  -- a byte that is neither
  pub found_all : (start from : ℕ) (found : Option ℕ)
      → IfSome found (IsFound has gap text (suc from)) → start ≤ from → from < length text
      → accepts gap.separators (slice_index text from) ≡ false
      → accepts gap.blanks (slice_index text from) ≡ false
      → IfSome found (PartsNumbers has gap text start)
  found_all start from None is low within none blank = tt
  found_all start from (Some p) is low within none blank = record {
    separator = is.separator;
    other = is.other;
    last = from;
    onward = low;
    before = omega (arith, is.upto);
    no_separator = grind (arith, gets, none);
    no_blank = grind (arith, gets, none, blank);
    blanks = λ i more l. is.blanks i (omega (arith, more)) l;
  }
