-- How a name is found at a position.
use Rattle.std.proofs.Common.{◌≡◌, ℕ, ◌+◌, ◌<◌, ◌≤◌, Bool, true, false, List, [], ◌∷◌, length}
use Rattle.std.proofs.Common.{drop, refl, ◌∙◌, arith, inl, inr, ◌⊎◌, IsTrue, get_or}
use Rattle.std.proofs.Common.{Option}
use Rattle.std.specs.Prelude.{◌&&◌, ◌==◌, nat_lt}
use Rattle.std.specs.List.{starts_with}
use Rattle.std.proofs.lemmas.Bool.{cases_lt}
use Rattle.std.proofs.lemmas.Bool.Decides.{nat_tests}
use Rattle.std.proofs.lemmas.List.{drop_more, drop_all}
use Rattle.std.proofs.lemmas.List.Sums.{take_while-cons}
use Rattle.std.proofs.lemmas.Option.{gets}
use Rattle.lexical_format.specs.Word.{bit, is_supported}
use Rattle.lexical_digits.specs.declared.skip.rule.Rule.{Rule}
use Rattle.lexical_digits.specs.declared.skip.component.Component.TheVariants.{Special}
use Rattle.lexical_digits.specs.Separators.{place, kept_positions, drain, is_kept, is_separator}
use Rattle.lexical_digits.specs.Separators.{holds_separator, GrantsAll, GrantsNone}
use Rattle.lexical_digits.specs.State.{rule_of}
use Rattle.lexical_digits.specs.Laws.Kept.{place_kept, place_dropped, place_end}
use Rattle.lexical_digits.specs.Laws.Kept.{positions_dropped, positions_end}
use Rattle.lexical_digits.specs.Laws.Place.{by_steps, kept_if_none, place_low, place_high}
use Rattle.lexical_digits.specs.Laws.Place.{place_settled}
use Rattle.digit_numbers.specs.declared.form.Specials.{Specials}
use Rattle.digit_numbers.specs.Specials.{bytes_of, same_by}
use Rattle.lexical_digits.proofs.Rule.Supported.{supported_rule}
use Rattle.lexical_digits.proofs.Rule.Runs.{place_after_run, separator_class}
use Rattle.lexical_digits.proofs.Rule.Grants.{dropped_if_all, ignores_seen}
use Rattle.lexical_digits.proofs.Rule.Drain.{positions_at_place}

-- ---- the special component

pub even : (word : ℕ) → GrantsNone (rule_of word Special) ⊎ GrantsAll (rule_of word Special)
even word = by (bit word 44) refl
  where
    by : (b : Bool) → bit word 44 ≡ b
        → GrantsNone (rule_of word Special) ⊎ GrantsAll (rule_of word Special)
    by true h = inr (h, h, h, h)
    by false h = inl (h, h, h)

module _ (word : ℕ) (text : List ℕ) where
  abbrev rule : Rule
  rule = rule_of word Special

  abbrev is_passed : ℕ → Bool
  is_passed i = rule.internal && is_separator rule.separator (get_or text i 0)

  holds_is : IsTrue (is_supported word) → (i : ℕ) → i < length text
      → holds_separator rule text i ≡ is_separator rule.separator (get_or text i 0)
  unfolding holds_separator
  holds_is supported i l =
      grind (arith, gets, separator_class rule text (supported_rule word Special supported))

  pub place_here : IsTrue (is_supported word) → (i : ℕ) → i < length text
      → is_passed i ≡ false → place rule text i 0 ≡ i
  place_here supported i l h = by (even word)
    where
      by : GrantsNone rule ⊎ GrantsAll rule → place rule text i 0 ≡ i
      by (inl n) = place_kept rule text i 0 l (kept_if_none rule text n i 0 i)
      by (inr a) =
          place_after_run rule text i 0
          (holds_is supported i l ∙ (let e = a.0 in grind arith)) (omega arith)

  pub place_past : IsTrue (is_supported word) → (i : ℕ) → i < length text → is_passed i ≡ true
      → place rule text i 0 ≡ place rule text (i + 1) 0
  unfolding is_kept
  place_past supported i l h = by (even word)
    where
      by : GrantsNone rule ⊎ GrantsAll rule → place rule text i 0 ≡ place rule text (i + 1) 0
      by (inl n) = let e = n.0 in grind arith
      by (inr a) =
          place_dropped rule text i 0 l
          (grind (arith, dropped_if_all rule text a, holds_is supported i l))

  pub place_at_end : (i : ℕ) → length text ≤ i → place rule text i 0 ≡ length text
  place_at_end i l = place_end rule text i 0 l

  -- ---- the kept positions from a place on

  after_place : (s c : ℕ)
      → kept_positions rule text (place rule text s c) c ≡ kept_positions rule text s c
  after_place =
      by_steps rule text _
      (grind (arith, place_end, positions_end)) (grind (arith, place_kept))
      (grind (arith, place_dropped, positions_dropped))

  pub first_kept : (q : ℕ) → place rule text q 0 ≡ q → q < length text
      → kept_positions rule text q 0 ≡ q ∷ kept_positions rule text (place rule text (q + 1) 0) 0
  first_kept q settled l =
      let at = positions_at_place rule text false (inr (ignores_seen rule text (even word))) q 0
      (rw settled l) in
      at ∙ rw (settled, after_place (q + 1) 0) refl

  pub none_kept : (q : ℕ) → length text ≤ q → kept_positions rule text q 0 ≡ []
  none_kept q l = positions_end rule text q 0 l

  pub place_again : (q : ℕ)
      → place rule text (place rule text q 0) 0 ≡ place rule text q 0
  place_again q = place_settled rule text q 0

  pub place_low_here : (q : ℕ) → q ≤ length text → q ≤ place rule text q 0
  place_low_here q l = place_low rule text q 0 l

  pub place_high_here : (q : ℕ) → place rule text q 0 ≤ length text
  place_high_here q = place_high rule text q 0

  -- ---- what is left of a name, from a place on

  module _ (specials : Option Specials) (name : List ℕ) where
    abbrev pub starts : ℕ → ℕ → Bool
    starts q n =
        starts_with (same_by specials) (drain rule text q 0) (bytes_of (drop n name))

    abbrev pub ends : ℕ → ℕ → ℕ
    ends q n = get_or (kept_positions rule text q 0) (length (bytes_of (drop n name))) (length text)

    pub starts_first : (at : ℕ) → starts at 0 ≡ starts (place rule text at 0) 0
    unfolding drain
    starts_first at = rw (after_place at 0) refl

    pub ends_first : (at : ℕ) → ends at 0 ≡ ends (place rule text at 0) 0
    ends_first at = rw (after_place at 0) refl

    bytes_more : (n : ℕ) → n < length name → (get_or name n 0 ≡ 0 → ⊥)
        → bytes_of (drop n name) ≡ get_or name n 0 ∷ bytes_of (drop (n + 1) name)
    bytes_more n l h =
        let e : get_or name n 0 == 0 ≡ false = grind (arith, nat_tests) in
        rw (drop_more name n 0 l, take_while-cons, e) refl

    pub bytes_none : (n : ℕ) → n < length name → get_or name n 0 ≡ 0
        → bytes_of (drop n name) ≡ []
    bytes_none n l h = rw (drop_more name n 0 l, take_while-cons, h) refl

    module _ (q n : ℕ) (l : n < length name) (more : get_or name n 0 ≡ 0 → ⊥) where
      pub ends_more : place rule text q 0 ≡ q → q < length text
          → ends q n ≡ ends (place rule text (q + 1) 0) (n + 1)
      ends_more settled k = rw (bytes_more n l more, first_kept q settled k) refl

      pub starts_more : place rule text q 0 ≡ q → q < length text
          → starts q n
          ≡ same_by specials (get_or name n 0) (get_or text q 0)
          && starts (place rule text (q + 1) 0) (n + 1)
      unfolding drain
      starts_more settled k = rw (bytes_more n l more, first_kept q settled k) refl

      starts_past : length text ≤ q → starts q n ≡ false
      unfolding drain
      starts_past k = rw (bytes_more n l more, none_kept q k) refl

      -- whether the byte there is that of the name
      abbrev pub has_same : Bool
      has_same =
          nat_lt q (length text) && same_by specials (get_or name n 0) (get_or text q 0)

      pub starts_not : place rule text q 0 ≡ q → has_same ≡ false → starts q n ≡ false
      starts_not settled h = elim (cases_lt q (length text)) [
        | inl k ↦
            let e : same_by specials (get_or name n 0) (get_or text q 0) ≡ false
            = grind (arith, nat_tests) in
            starts_more settled k ∙ rw e refl
        | inr k ↦ starts_past k
      ]

      pub starts_same : place rule text q 0 ≡ q → has_same ≡ true
          → starts q n ≡ starts (place rule text (q + 1) 0) (n + 1)
      starts_same settled h =
          let k : q < length text = grind (arith, nat_tests) in
          let e : same_by specials (get_or name n 0) (get_or text q 0) ≡ true
          = grind (arith, nat_tests) in
          starts_more settled k ∙ rw e refl

      pub ends_same : place rule text q 0 ≡ q → has_same ≡ true
          → ends q n ≡ ends (place rule text (q + 1) 0) (n + 1)
      ends_same settled h =
          let k : q < length text = grind (arith, nat_tests) in
          ends_more settled k

    pub bytes_past : (n : ℕ) → length name ≤ n → bytes_of (drop n name) ≡ []
    bytes_past n l = rw (drop_all n name l) refl

    pub ends_done : (q n : ℕ) → bytes_of (drop n name) ≡ [] → place rule text q 0 ≡ q
        → ends q n ≡ q
    unfolding place
    ends_done q n h settled = rw h settled

pub ruleset places = (place_here, place_past, place_at_end)
