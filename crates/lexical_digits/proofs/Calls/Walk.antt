-- Walks whose steps lower a number: any bound that is not below it gives the same.
use Rattle.std.proofs.Common.{◌≡◌, ℕ, zero, suc, ◌<◌, ◌≤◌, Bool, true, false, refl, arith, inl, inr}
use Rattle.lexical_digits.specs.Laws.Terms.{cases_Bool, walk}

-- each step from a meaning that is valid leaves a valid one, with less left
pub record Falls {M : Type 0} (valid : M → Type 0) (left : M → ℕ) (goes : M → Bool)
    (next : M → M) : Type 0 where
  pub stays : (m : M) → valid m → goes m ≡ true → valid (next m)
  pub falls : (m : M) → valid m → goes m ≡ true → left (next m) < left m

module _ {M : Type 0} {valid : M → Type 0} {left : M → ℕ} {goes : M → Bool} {next : M → M}
    (steps : Falls valid left goes next) where
  -- a claim that holds where the walk ends, and holds before a step if it holds after it
  by_left : (P : M → Type 0) → ((m : M) → valid m → goes m ≡ false → P m)
      → ((m : M) → valid m → goes m ≡ true → P (next m) → P m)
      → (n : ℕ) (m : M) → valid m → left m < n → P m
  by_left P at_end at_step zero m v l = absurd (omega arith)
  by_left P at_end at_step (suc n) m v l = elim (cases_Bool (goes m)) [
    | inl e ↦ at_step m v e (by_left P at_end at_step n (next m) (steps.stays m v e)
        (omega (arith, steps.falls m v e)))
    | inr e ↦ at_end m v e
  ]

  pub by_walk : (P : M → Type 0) → ((m : M) → valid m → goes m ≡ false → P m)
      → ((m : M) → valid m → goes m ≡ true → P (next m) → P m) → (m : M) → valid m → P m
  by_walk P at_end at_step m v = by_left P at_end at_step (suc (left m)) m v (omega arith)

  module _ {R : Type 0} (at_end : M → R) (at_step : M → R → R) where
    walk_same : (j k : ℕ) (m : M) → valid m → left m ≤ j → left m ≤ k
        → walk goes next at_end at_step j m ≡ walk goes next at_end at_step k m
    unfolding walk
    walk_same zero zero m v h i = refl
    walk_same zero (suc k) m v h i = grind (arith, steps.falls m v)
    walk_same (suc j) zero m v h i = grind (arith, steps.falls m v)
    walk_same (suc j) (suc k) m v h i =
        grind (arith, steps.falls m v, steps.stays m v, walk_same j k (next m))

    -- one step, and then the others
    pub walk_step : (m : M) → valid m → goes m ≡ true
        → walk goes next at_end at_step (left m) m
        ≡ at_step m (walk goes next at_end at_step (left (next m)) (next m))
    unfolding walk
    walk_step m v e = grind (arith, walk_same)

    pub walk_end : (m : M) → goes m ≡ false → walk goes next at_end at_step (left m) m ≡ at_end m
    unfolding walk
    walk_end m e = grind arith
