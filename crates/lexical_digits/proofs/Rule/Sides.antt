-- What the scans to both sides find.
use Rattle.std.proofs.Common.{◌≡◌, ℕ, zero, suc, ◌+◌, ◌-◌, ◌<◌, ◌≤◌, Bool, true, false, not, ltb, List, [], ◌∷◌, length, get_or, drop, take, reverse, refl, sym, ap, ◌∙◌, arith, inl, inr, slice_get}
use Rattle.lexical_digits.specs.Laws.Terms.{list_any, cases_lt, drop_more, drop_all, take_more, reverse-append, gets, Rule, is_digit, is_separator, class, neighbour, right_side, left_side, roles, grants, holds_separator, is_dropped, is_kept, IsSupported, slice_before}
use Rattle.lexical_digits.specs.declared.skip.rule.Class.TheVariants.{Digit}
use Rattle.lexical_digits.specs.Laws.Kept.{seen_none}
use Rattle.lexical_digits.proofs.Rule.Runs.{separator_class, neighbour_many, neighbour_single, along, Separators, right_in_run, left_in_run, right_single}

module _ (rule : Rule) (buffer : List ℕ) (supported : IsSupported rule) where
  no_separator_byte : (k : ℕ) → k < length buffer → holds_separator rule buffer k ≡ false
      → is_separator rule.separator (get_or buffer k 0) ≡ false
  unfolding holds_separator
  no_separator_byte k l h = grind (arith, gets, separator_class rule buffer supported)

  -- the end of a run is what stands to its right
  pub right_at : rule.consecutive ≡ true → (e : ℕ) → holds_separator rule buffer e ≡ false
      → neighbour rule (drop e buffer) ≡ slice_get buffer e
  right_at many e stop = elim (cases_lt e (length buffer)) [
    | inl l ↦ rw (drop_more buffer e 0 l)
        (grind (arith, gets, neighbour_many rule buffer many, no_separator_byte e l stop))
    | inr l ↦ rw (drop_all e buffer l) (grind (arith, gets, neighbour_many rule buffer many))
  ]

  before_more : (q : ℕ) → q < length buffer
      → reverse (take (suc q) buffer) ≡ get_or buffer q 0 ∷ reverse (take q buffer)
  before_more q l =
      let next : suc q ≡ q + 1 = omega arith in
      rw (next, take_more buffer q 0 l, reverse-append) refl

  -- after a digit the left side is a digit
  pub left_after_digit : (q : ℕ) → q < length buffer → is_digit rule (get_or buffer q 0) ≡ true
      → class rule (neighbour rule (reverse (take (q + 1) buffer))) ≡ Digit
  unfolding neighbour
  left_after_digit q l h =
      let next : q + 1 ≡ suc q = omega arith in
      rw (next, before_more q l) (grind (arith, separator_class rule buffer supported))

  -- the byte before a run's start is what stands to its left
  left_at : rule.consecutive ≡ true → (s : ℕ)
      → ((k : ℕ) → k + 1 ≡ s → holds_separator rule buffer k ≡ false) → s ≤ length buffer
      → neighbour rule (reverse (take s buffer)) ≡ slice_before buffer s
  left_at many zero stop l = neighbour_many rule buffer many []
  left_at many (suc f) stop l = rw (before_more f l)
      (let other = no_separator_byte f l (stop f (omega arith)) in
      grind (arith, gets, neighbour_many rule buffer many))

  -- what becomes of a separator, by its sides
  pub kept_by_sides : (q c : ℕ) (t : Bool) → t ≡ ltb 0 c → holds_separator rule buffer q ≡ true
      → is_kept rule buffer q c q
      ≡ not (list_any (grants rule) (roles (left_side rule buffer t q) (right_side rule buffer q)))
  unfolding is_kept is_dropped
  kept_by_sides q c t e h = grind (arith, seen_none rule buffer q c)

  pub right_many : rule.consecutive ≡ true → (q e : ℕ) → holds_separator rule buffer q ≡ true
      → q ≤ e → Separators rule buffer q e → holds_separator rule buffer e ≡ false
      → e ≤ length buffer → class rule (slice_get buffer e) ≡ right_side rule buffer q
  right_many many q e h low all stop l =
      let past : q < e = grind arith in
      ap (class rule) (sym (along (λ k. neighbour rule (drop k buffer)) (e - (q + 1)) (q + 1) e
      (omega arith) (λ k m n. right_in_run rule buffer many k (all k (omega arith) n))
      ∙ right_at many e stop))

  pub left_many : rule.consecutive ≡ true → (q s : ℕ) → s ≤ q → Separators rule buffer s q
      → ((k : ℕ) → k + 1 ≡ s → holds_separator rule buffer k ≡ false) → q ≤ length buffer
      → class rule (slice_before buffer s) ≡ left_side rule buffer false q
  left_many many q s low all stop l =
      ap (class rule) (sym (left_at many s stop (omega arith))
      ∙ along (λ k. neighbour rule (reverse (take k buffer))) (q - s) s q (omega arith)
      (λ k m n. sym (left_in_run rule buffer many k (all k m n))))

  pub left_one : rule.consecutive ≡ false → (q : ℕ) → q ≤ length buffer
      → class rule (slice_before buffer q) ≡ left_side rule buffer false q
  left_one single zero l = rw (neighbour_single rule buffer single) refl
  left_one single (suc f) l =
      rw (neighbour_single rule buffer single, before_more f l)
      (grind (arith, gets))

  pub right_one : rule.consecutive ≡ false → (q : ℕ)
      → class rule (slice_get buffer (q + 1)) ≡ right_side rule buffer q
  right_one single q = sym (right_single rule buffer single q)
