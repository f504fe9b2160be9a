-- The digits between two positions.
use Rattle.std.proofs.Common.{◌≡◌, ℕ, zero, suc, ◌+◌, ◌-◌, ◌<◌, ◌≤◌, Bool, false, cond, List, [], ◌∷◌, ◌++◌, length, take, drop, arith, append-nil, length-append}
use Rattle.std.specs.Prelude.{slice_index}
use Rattle.std.specs.List.{filter}
use Rattle.std.proofs.lemmas.List.{take-take, length-drop, get_or-drop}
use Rattle.std.proofs.lemmas.List.Elements.{filter_more}
use Rattle.lexical_digits.specs.declared.skip.rule.Rule.{Rule}
use Rattle.lexical_digits.specs.Separators.{is_digit}
use Rattle.digit_values.specs.After.{digits_between}

module _ (rule : Rule) (text : List ℕ) (start : ℕ) where
  abbrev upto : ℕ → List ℕ
  upto at = digits_between rule text start at

  -- none
  pub none_between : upto start ≡ []
  none_between = grind arith

  -- one byte more at the end
  module _ (at : ℕ) (low : start ≤ at) (l : at < length text) where
    pub more_between : upto (at + 1) ≡ upto at ++ filter (is_digit rule) (slice_index text at ∷ [])
    more_between =
        let next : at + 1 - start ≡ at - start + 1 = omega (arith, low) in
        let more = filter_more (is_digit rule) (drop start text) (at - start) 0 in
        grind (arith, get_or-drop, length-drop)

    pub one_more : length (upto (at + 1))
        ≡ length (upto at) + cond (is_digit rule (slice_index text at)) 1 0
    one_more = grind (arith, more_between, length-append {A = ℕ})

    pub no_more : is_digit rule (slice_index text at) ≡ false → upto (at + 1) ≡ upto at
    no_more e = grind (arith, more_between, append-nil {A = ℕ})

-- no fewer among more elements
pub fewer : (p : ℕ → Bool) (n : ℕ) (xs : List ℕ)
    → length (filter p (take n xs)) ≤ length (filter p xs)
fewer p zero xs = omega arith
fewer p (suc n) [] = omega arith
fewer p (suc n) (x ∷ xs) = grind (arith, fewer p n xs)

-- no fewer up to a later position
pub fewer_between : (rule : Rule) (text : List ℕ) (start at end : ℕ) → at ≤ end
    → length (digits_between rule text start at) ≤ length (digits_between rule text start end)
fewer_between rule text start at end l =
    grind (
      arith,
      take-take (at - start) (end - start) (drop start text),
      fewer (is_digit rule) (at - start) (take (end - start) (drop start text)),
    )
