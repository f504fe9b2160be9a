-- What flags do to a drain.
use Rattle.std.proofs.Common.{◌≡◌, ℕ, Bool, true, false, not, Option, List, [], ◌∷◌, get_or, drop, map, refl, sym, ap, ◌∙◌, arith, ◌⊎◌, inl, inr, slice_get, find, filter}
use Rattle.lexical_digits.specs.Laws.Terms.{get_or_past, gets, nat_tests, Rule, is_digit_of_radix, is_digit, is_separator, class, is_separator_class, neighbour, holds_separator, is_dropped, digits_seen, is_kept, kept_positions, drain, GrantsNone, GrantsAll, GrantsAtLeast, IsSupported}
use Rattle.lexical_digits.specs.Laws.Ranges.{reads_positions}
use Rattle.lexical_digits.specs.Laws.Place.{grants_no_list}
use Rattle.lexical_digits.specs.Laws.Kept.{no_digit_at_separator, dropped_holds_separator, IgnoresSeen}
use Rattle.lexical_digits.proofs.Rule.Supported.{supported_rule}
use Rattle.lexical_digits.proofs.Rule.Runs.{neighbour_many, separator_class}

module _ (rule : Rule) where
  -- with the consecutive flag no side is a separator
  neighbour_class : rule.consecutive ≡ true → (xs : List ℕ)
      → is_separator_class (class rule (neighbour rule xs)) ≡ false
  neighbour_class many [] = rw (neighbour_many rule [] many []) refl
  neighbour_class many (x ∷ xs) =
      grind (arith, neighbour_many rule [] many, neighbour_class many xs)

  module _ (buffer : List ℕ) where
    -- where all is granted, each separator is dropped
    pub dropped_if_all : GrantsAll rule → (t : Bool) (q : ℕ)
        → is_dropped rule buffer t q ≡ holds_separator rule buffer q
    unfolding is_dropped
    dropped_if_all all t q = grind (arith, all, neighbour_class all.3)

    pub ignores_seen : GrantsNone rule ⊎ GrantsAll rule → IgnoresSeen rule buffer
    unfolding is_dropped
    ignores_seen (inl none) t u q = grind (arith, grants_no_list rule none)
    ignores_seen (inr all) t u q = dropped_if_all all t q ∙ sym (dropped_if_all all u q)

    pub kept_at_digit : (s c k : ℕ) → is_digit rule (get_or buffer k 0) ≡ true
        → is_kept rule buffer s c k ≡ true
    unfolding is_kept
    kept_at_digit s c k digit = grind (arith, no_digit_at_separator, dropped_holds_separator)

-- a filter that keeps what another passes
filter_of_filter : (p q : ℕ → Bool) (f : ℕ → ℕ) (all : (k : ℕ) → q (f k) ≡ true → p k ≡ true)
    (ks : List ℕ) → filter q (map f (filter p ks)) ≡ filter q (map f ks)
filter_of_filter p q f all [] = refl
filter_of_filter p q f all (k ∷ ks) = grind (arith, filter_of_filter p q f all ks, all k)

pub digits_of_drain : (rule : Rule) (buffer : List ℕ) (s c : ℕ)
    → filter (is_digit rule) (drain rule buffer s c) ≡ filter (is_digit rule) (drop s buffer)
unfolding drain kept_positions
digits_of_drain rule buffer s c =
    grind (arith, gets, filter_of_filter, kept_at_digit, reads_positions)

pub digit_same : (one other : Rule) → one.radix ≡ other.radix → is_digit one ≡ is_digit other
unfolding is_digit
digit_same one other e = ap {B = ℕ → Bool} (λ r byte. is_digit_of_radix r byte) e

-- ---- more grants

module _ (lesser greater : Rule) (more : GrantsAtLeast lesser greater)
    (supported : IsSupported lesser) where
  class_same : (o : Option ℕ) → class lesser o ≡ class greater o
  unfolding is_digit
  class_same o = grind (arith, more)

  seen_same : (buffer : List ℕ) (s c k : ℕ)
      → digits_seen lesser buffer s c k ≡ digits_seen greater buffer s c k
  unfolding digits_seen
  seen_same buffer s c k = grind (arith, digit_same lesser greater more.radix)

  -- a first byte that is no separator is the first of these
  first_found : (xs : List ℕ) → is_separator_class (class lesser (slice_get xs 0)) ≡ false
      → slice_get xs 0 ≡ find (λ byte. not (is_separator lesser.separator byte)) xs
  first_found [] h = refl
  first_found (x ∷ xs) h = grind (arith, separator_class lesser [] supported x)

  -- a side that is no separator is the same side under the greater rule
  side_same : (xs : List ℕ) → is_separator_class (class lesser (neighbour lesser xs)) ≡ false
      → class lesser (neighbour lesser xs) ≡ class greater (neighbour greater xs)
  unfolding neighbour
  side_same xs h = grind (arith, class_same, first_found xs, more)

  dropped_by_greater : (buffer : List ℕ) (t : Bool) (q : ℕ) → is_dropped lesser buffer t q ≡ true
      → is_dropped greater buffer t q ≡ true
  unfolding is_dropped holds_separator
  dropped_by_greater buffer t q h = grind (arith, class_same, side_same, more)

  pub kept_by_greater : (buffer : List ℕ) (s c q : ℕ) → is_kept lesser buffer s c q ≡ false
      → is_kept greater buffer s c q ≡ false
  unfolding is_kept
  kept_by_greater buffer s c q h =
      grind (arith, seen_same buffer s c q, dropped_by_greater buffer)

-- a filter of positions by what stands there
filter_reads : (p q : ℕ → Bool) (f : ℕ → ℕ) (ks : List ℕ) → ((k : ℕ) → p k ≡ q (f k))
    → map f (filter p ks) ≡ filter q (map f ks)
filter_reads p q f [] same = refl
filter_reads p q f (k ∷ ks) same = grind (arith, filter_reads p q f ks same, same k)

module _ (rule : Rule) (buffer : List ℕ) where
  holds_by_byte : IsSupported rule → (k : ℕ)
      → holds_separator rule buffer k ≡ is_separator rule.separator (get_or buffer k 0)
  unfolding holds_separator is_separator
  holds_by_byte supported k =
      grind (arith, nat_tests, gets, get_or_past, separator_class rule buffer supported)

  pub drain_if_all : IsSupported rule → GrantsAll rule → (s c : ℕ) → drain rule buffer s c
      ≡ filter (λ byte. not (is_separator rule.separator byte)) (drop s buffer)
  unfolding drain kept_positions is_kept
  drain_if_all supported all s c =
      filter_reads _ (λ byte. not (is_separator rule.separator byte)) (λ k. get_or buffer k 0) _
      (λ k. ap not (dropped_if_all rule buffer all _ k ∙ holds_by_byte supported k))
      ∙ ap (filter (λ byte. not (is_separator rule.separator byte))) (reads_positions buffer s)

-- a word that grants more drops more
pub ruleset drops_more = (kept_by_greater, supported_rule)
