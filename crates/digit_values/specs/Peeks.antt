-- What a `peek` finds at the place, by any test of digits.
use Rattle.std.specs.Prelude.{◌≡◌, ℕ, ◌+◌, ◌≤◌, Bool, true, false, List, [], ◌∷◌, slice_index}
use Rattle.lexical_digits.specs.Stop.{leading, after_leading}

module _ {M : Type 0} (buffer : M → List ℕ) (cursor place : M → ℕ) (taken settled : M → M)
    (p : ℕ → Bool) (m : M) where
  -- a digit is there: it leads, then those that lead what `next` leaves, and the same is left
  pub record Leads : Type 0 where
    pub digits : leading buffer cursor place taken p m
        ≡ slice_index (buffer m) (place m) ∷ leading buffer cursor place taken p (taken m)
    pub after : after_leading buffer cursor place taken settled p m
        ≡ after_leading buffer cursor place taken settled p (taken m)
    pub on : cursor (taken m) ≡ place m + 1

  -- none is there
  pub record LeadsNone : Type 0 where
    pub digits : leading buffer cursor place taken p m ≡ []
    pub after : after_leading buffer cursor place taken settled p m ≡ settled m

  -- what a `peek` leaves, and what it finds, where it is told whether a digit is there
  pub record Peeks (t : M) (found : Bool) : Type 0 where
    pub settles : t ≡ settled m
    pub takes : taken t ≡ taken m
    pub stands : cursor t ≡ place m
    pub onward : cursor m ≤ cursor t
    pub some : found ≡ true → Leads
    pub none : found ≡ false → LeadsNone
