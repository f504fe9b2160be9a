-- What a `peek` finds, from the laws of an iterator.
use Rattle.std.proofs.Common.{◌≡◌, ℕ, ◌<◌, Bool, true, List, slice_get, slice_index, length, refl, ap, sym, ◌∙◌, arith}
use Rattle.std.proofs.lemmas.Option.{gets, slice_get-get_or}
use Rattle.lexical_digits.specs.Cursor.{holds_of, DigitLaws}
use Rattle.lexical_digits.specs.Stop.{after_leading}
use Rattle.lexical_digits.proofs.Calls.Items.{leading_digit, leading_none}
use Rattle.digit_values.specs.Peeks.{Peeks}

module _ {M : Type 0} {valid : M → Type 0} {buffer : M → List ℕ} {cursor current_count : M → ℕ}
    {contiguous : M → Bool} {separates : M → ℕ → Bool} {moved : M → ℕ → M} {place : M → ℕ}
    {digit : M → ℕ → Bool} {settled counted taken : M → M}
    (laws : DigitLaws valid buffer cursor current_count contiguous separates moved place digit
    settled counted taken) (m : M) (v : valid m) (p : ℕ → Bool) where
  pub peeks : (t : M) (found : Bool) → t ≡ settled m
      → found ≡ holds_of p (slice_get (buffer m) (place m))
      → Peeks buffer cursor place taken settled p m t found
  unfolding after_leading
  peeks t found settles e =
      let stands : cursor t ≡ place m = ap cursor settles ∙ laws.settled_cursor m v in
      record {
        settles = settles;
        takes = ap taken settles ∙ laws.settled_taken m v;
        stands = stands;
        onward = omega (arith, stands, laws.place_from m v);
        some = λ f.
            let l : place m < length (buffer m) = grind (arith, gets) in
            let is : p (slice_index (buffer m) (place m)) ≡ true = grind (arith, gets) in
            let there = slice_get-get_or (buffer m) (place m) 0 l in
            let digits = leading_digit laws p m _ v there is in
            record { digits = digits; after = rw digits refl; on = laws.taken_cursor m v l };
        none = λ f.
            let none = leading_none laws p m v (sym e ∙ f) in
            record { digits = none; after = rw none refl };
      }
