-- A rule that grants more reads on past the stop of the lesser one.
use Rattle.std.proofs.Common.{◌≡◌, ℕ, zero, suc, ◌+◌, ◌-◌, ◌<◌, ◌≤◌, Bool, true, false, not, List, [], ◌∷◌, length, drop, take, map, refl, arith, slice_index, slice_range, take_while, unwrap_or, find, filter, inl, inr}
use Rattle.lexical_digits.specs.Laws.Terms.{cases_lt, gets, range_with_len, take_while-cons, Rule, is_digit, is_kept, kept_positions, drain, stop, leading_digits, separator_at, GrantsAtLeast, IsSupported}
use Rattle.lexical_digits.specs.Laws.Kept.{dropped_holds_separator, separator_byte, separator_within, positions_end}
use Rattle.lexical_digits.proofs.Rule.Grants.{kept_by_greater, kept_at_digit, digit_same}
use Rattle.lexical_digits.proofs.Calls.FirstOther.{stop_is_first}
use Rattle.lexical_digits.proofs.Calls.Stops.{filter_first, filter_none}

-- a start behind the buffer has its stop at the length
stop_behind : (rule : Rule) (buffer : List ℕ) (s c : ℕ) → length buffer < s
    → stop rule buffer s c ≡ length buffer
unfolding stop
stop_behind rule buffer s c l = rw (positions_end rule buffer s c (omega arith)) refl

-- a byte that is no separator is kept
kept_other : (rule : Rule) (buffer : List ℕ) (s c q : ℕ)
    → separator_at rule.separator buffer q ≡ false → is_kept rule buffer s c q ≡ true
unfolding is_kept separator_at
kept_other rule buffer s c q h =
    grind (
      arith,
      gets,
      dropped_holds_separator rule buffer,
      separator_byte rule buffer q,
      separator_within rule buffer q,
    )

module _ (lesser greater : Rule) (buffer : List ℕ) (s c : ℕ) (fits : IsSupported lesser)
    (more : GrantsAtLeast lesser greater) where
  abbrev l_stop : ℕ
  l_stop = stop lesser buffer s c

  abbrev g_stop : ℕ
  g_stop = stop greater buffer s c

  same_digit : (b : ℕ) → is_digit lesser b ≡ is_digit greater b
  same_digit b = rw (digit_same lesser greater more.radix)

  from_within : s ≤ length buffer → l_stop ≤ g_stop
  from_within w =
      grind (
        arith,
        stop_is_first lesser buffer s c w,
        stop_is_first greater buffer s c w,
        kept_by_greater lesser greater more fits buffer s c,
        same_digit,
      )

  pub no_earlier : l_stop ≤ g_stop
  no_earlier = elim (cases_lt (length buffer) s) [
    | inl m ↦ grind (arith, stop_behind)
    | inr m ↦ from_within (omega arith)
  ]

  pub same_stop : separator_at lesser.separator buffer l_stop ≡ false → g_stop ≡ l_stop
  same_stop other = elim (cases_lt (length buffer) s) [
    | inl m ↦ grind (arith, stop_behind)
    | inr m ↦ grind (
      arith,
      stop_is_first lesser buffer s c (omega arith),
      stop_is_first greater buffer s c (omega arith),
      from_within,
      kept_other greater buffer s c l_stop,
      more.separator,
      same_digit,
    )
  ]

-- ---- the digits before the stop

-- what is before the first kept byte that is no digit
module _ (rule : Rule) (buffer : List ℕ) (s c : ℕ) where
  abbrev keeps : ℕ → Bool
  keeps q = is_kept rule buffer s c q

  abbrev other : ℕ → Bool
  other q = not (is_digit rule (slice_index buffer q))

  abbrev found : List ℕ → ℕ
  found qs = unwrap_or (find other (filter keeps qs)) (length buffer)

  abbrev led : List ℕ → List ℕ
  led qs = take_while (is_digit rule) (map (slice_index buffer) (filter keeps qs))

  record Between (at : ℕ) (qs : List ℕ) : Type 0 where
    pub from : at ≤ found qs
    pub are : led qs ≡ filter (is_digit rule) (slice_range buffer at (found qs))

  one_first : (at : ℕ) (qs : List ℕ) → at < length buffer → Between (at + 1) qs
      → Between at (at ∷ qs)
  one_first at qs l rest =
      grind (
        arith,
        kept_at_digit rule buffer s c at,
        filter_first (is_digit rule) buffer at (found qs) l,
        filter_none (is_digit rule) buffer at at,
        take_while-cons {X = ℕ},
      )

  between : (d at : ℕ) → at + d ≡ length buffer → Between at (range_with_len at d)
  between zero at e =
      let none = filter_none (is_digit rule) buffer at at (omega arith) in grind arith
  between (suc d) at e =
      one_first at (range_with_len (at + 1) d) (omega arith) (between d (at + 1) (omega arith))

  -- the digits that lead are those of the buffer up to the stop
  pub led_to_stop : leading_digits rule buffer s c
      ≡ filter (is_digit rule) (slice_range buffer s (stop rule buffer s c))
  unfolding leading_digits drain stop kept_positions
  led_to_stop = elim (cases_lt (length buffer) s) [
    | inl m ↦
        let none = filter_none (is_digit rule) buffer s (length buffer) (omega arith) in
        grind (arith, positions_end rule buffer s c (omega arith))
    | inr m ↦ (between (length buffer - s) s (omega arith)).are
  ]

-- a filter of fewer elements is the beginning of a filter of more
filter_begins : (p : ℕ → Bool) (m n : ℕ) (xs : List ℕ) → m ≤ n
    → take (length (filter p (take m xs))) (filter p (take n xs)) ≡ filter p (take m xs)
filter_begins p zero n xs l = refl
filter_begins p (suc m) zero xs l = grind (arith, l)
filter_begins p (suc m) (suc n) [] l = refl
filter_begins p (suc m) (suc n) (x ∷ xs) l = grind (arith, filter_begins p m n xs)

module _ (lesser greater : Rule) (buffer : List ℕ) (s c : ℕ) (fits : IsSupported lesser)
    (more : GrantsAtLeast lesser greater) where
  pub begins : take (length (leading_digits lesser buffer s c)) (leading_digits greater buffer s c)
      ≡ leading_digits lesser buffer s c
  begins =
      rw (
        led_to_stop lesser buffer s c,
        led_to_stop greater buffer s c,
        digit_same lesser greater more.radix,
      )
      (filter_begins (is_digit greater) _ _ (drop s buffer)
      (omega (arith, no_earlier lesser greater buffer s c fits more)))

  pub same_digits : separator_at lesser.separator buffer (stop lesser buffer s c) ≡ false
      → leading_digits greater buffer s c ≡ leading_digits lesser buffer s c
  same_digits other =
      rw (
        led_to_stop lesser buffer s c,
        led_to_stop greater buffer s c,
        digit_same lesser greater more.radix,
        same_stop lesser greater buffer s c fits more other,
      ) refl

-- what `more_flags_read_on` promises
pub ruleset more_flags = (no_earlier, begins, same_stop, same_digits)
