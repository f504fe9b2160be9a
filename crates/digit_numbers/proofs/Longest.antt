-- Of some names, the one that ends last, by one name more.
use Rattle.std.proofs.Common.{◌≡◌, ℕ, ◌+◌, ◌-◌, ◌<◌, ◌≤◌, Bool, true, false, Option, Some, None}
use Rattle.std.proofs.Common.{List, length, drop, get_or, refl, ◌∙◌, ◌∷◌, arith}
use Rattle.std.specs.Prelude.{filter, nat_lt, if◌then◌else◌, IfSome, MatchOption}
use Rattle.std.proofs.lemmas.List.{drop_more}
use Rattle.digit_numbers.specs.declared.form.Special.{Special}
use Rattle.digit_numbers.specs.Specials.{last_of}

module _ (end : Special → ℕ) (p : Special → Bool) (low high : ℕ) where
  -- what was found is the last, if any is
  abbrev Finds : Option Special → Option (Special × ℕ) → Type 0
  Finds last found = MatchOption found (last ≡ None)
      (λ r. (last ≡ Some r.0) × (r.1 ≡ end r.0) × (low < r.1) × (r.1 ≤ high))

  module _ (names : List Special) (i : ℕ) (d : Special) (e : ℕ) (result : Special × ℕ)
      (some : 0 < i) (within : i ≤ length names) (is : p (get_or names (i - 1) d) ≡ true)
      (ends : e ≡ end (get_or names (i - 1) d)) (after : (low < e) × (e ≤ high)) where
    abbrev name : Special
    name = get_or names (i - 1) d

    first : drop (i - 1) names ≡ name ∷ drop i names
    first =
        let same : i - 1 + 1 ≡ i = omega (arith, some) in
        drop_more names (i - 1) d (omega (arith, some, within)) ∙ rw same refl

    pub finds : (found : Option (Special × ℕ))
        → Finds (last_of end (filter p (drop i names))) found
        → (found ≡ None → result ≡ (name, e))
        → IfSome found (λ other. result ≡ (if nat_lt e other.1 then other else (name, e)))
        → Finds (last_of end (filter p (drop (i - 1) names))) (Some result)
    finds None last none more =
        rw (none refl, first, is, last) (refl, ends, after.0, after.1)
    finds (Some other) last none more = by (nat_lt e other.1) refl more
      where
        by : (b : Bool) → nat_lt e other.1 ≡ b
            → result ≡ (if b then other else (name, e))
            → Finds (last_of end (filter p (drop (i - 1) names))) (Some result)
        by true l r =
            let later : nat_lt (end name) (end other.0) ≡ true = rw (← ends, ← last.1) l in
            rw (r, first, is, last.0, later) (refl, last.1, last.2, last.3)
        by false l r =
            let later : nat_lt (end name) (end other.0) ≡ false = rw (← ends, ← last.1) l in
            rw (r, first, is, last.0, later) (refl, ends, after.0, after.1)
