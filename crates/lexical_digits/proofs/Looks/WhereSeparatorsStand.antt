-- Where a separator stands, by its byte alone.
use Rattle.std.proofs.Common.{◌≡◌, ℕ, ◌<◌, ◌≤◌, false, Option, Some, None, List, length, get_or, refl, ◌∙◌, slice_get}
use Rattle.lexical_digits.specs.Laws.Terms.{option_map_or, Rule, class, is_separator, is_separator_class, holds_separator, place, IsSupported, separator_at, slice_get-get_or, slice_get_past}
use Rattle.lexical_digits.proofs.Rule.Runs.{separator_class, place_after_run}

module _ (separator : ℕ) (buffer : List ℕ) where
  -- where a byte stands, one test tells
  pub separator_byte_at : (k : ℕ) → k < length buffer
      → separator_at separator buffer k ≡ is_separator separator (get_or buffer k 0)
  unfolding separator_at
  separator_byte_at k l = rw (slice_get-get_or buffer k 0 l) refl

  pub separator_at_past : (k : ℕ) → length buffer ≤ k → separator_at separator buffer k ≡ false
  unfolding separator_at
  separator_at_past k l = rw (slice_get_past buffer k l) refl

module _ (rule : Rule) (buffer : List ℕ) (supported : IsSupported rule) where
  -- the class of a position tells the same
  pub holds_separator_at : (k : ℕ)
      → holds_separator rule buffer k ≡ separator_at rule.separator buffer k
  unfolding holds_separator separator_at
  holds_separator_at k = here (slice_get buffer k)
    where
      here : (o : Option ℕ)
          → is_separator_class (class rule o) ≡ option_map_or (is_separator rule.separator) o false
      here None = refl
      here (Some byte) = separator_class rule buffer supported byte

  -- what is no separator is kept
  pub place_at_other : (q count : ℕ) → separator_at rule.separator buffer q ≡ false
      → q ≤ length buffer → place rule buffer q count ≡ q
  place_at_other q count other l =
      place_after_run rule buffer q count (holds_separator_at q ∙ other) l

pub ruleset separators = (separator_byte_at, separator_at_past)

pub ruleset separators_and_others = (separators, place_at_other)
