-- A lone separator between a counted digit and a digit, which is passed over in place.
use Rattle.std.proofs.Common.{◌||◌, not, ltb, ◌≡◌, ℕ, ◌+◌, ◌<◌, ◌≤◌, Bool, true, false, Some, List, length, refl, sym, ap, ◌∙◌, arith, slice_get, Bor}
use Rattle.lexical_digits.specs.Laws.Terms.{separator, Component, Rule, Inside, Tally, class, is_digit, is_separator, right_side, place, is_kept, holds_separator, IsSupported, State, with_cursor, rule, rule_of, own, counts, saturating, place_of, separator_at, Held, SettlesOf, NextsOf, passed_by, state_of, is_direct, IsInner, IsInnerAt, IsInnerDigit, FollowsDigit, false≢true, and_right, or_from, not_from_true, lt-ltb, nat_tests, slice_get_within}
use Rattle.lexical_digits.proofs.Rule.Supported.{supported_rule}
use Rattle.lexical_digits.proofs.Fields.DirectBytes.{rule_by, counts_by, direct_by}
use Rattle.lexical_digits.proofs.Fields.CarriedByCursor.{counted_since}
use Rattle.lexical_digits.proofs.Looks.Owed.{separator_of, costs_unscanned}
use Rattle.lexical_digits.proofs.Looks.WhereSeparatorsStand.{holds_separator_at}
use Rattle.lexical_digits.proofs.Rule.Sides.{right_one, right_many, kept_by_sides}
use Rattle.lexical_digits.proofs.Rule.Runs.{place_next, place_run}
use Rattle.lexical_digits.proofs.Fields.AtTheCursor.{digit_apart, direct_counts, stepped}
use Rattle.lexical_digits.proofs.Calls.NextTakesFirst.{takes_some}

separator_at_byte : (separator : ℕ) (buffer : List ℕ) (q byte : ℕ) → Some byte ≡ slice_get buffer q
    → separator_at separator buffer q ≡ is_separator separator byte
unfolding separator_at
separator_at_byte separator buffer q byte e = rw (sym e) refl

-- a lone separator after counted digits and before a digit is dropped
place_inner : (rule : Rule) (buffer : List ℕ) (q digit count : ℕ) → IsSupported rule
    → separator_at rule.separator buffer q ≡ true
    → separator_at rule.separator buffer (q + 1) ≡ false
    → slice_get buffer (q + 1) ≡ Some digit → is_digit rule digit ≡ true
    → rule.internal ≡ true → 0 < count → place rule buffer q count ≡ q + 1
place_inner rule buffer q digit count supported stands apart next is_next internal some =
    here rule.consecutive refl
  where
    within : q + 1 ≤ length buffer
    within = let l = slice_get_within buffer (q + 1) digit next in omega (arith, l)

    holds : holds_separator rule buffer q ≡ true
    holds = holds_separator_at rule buffer supported q ∙ stands

    stops : holds_separator rule buffer (q + 1) ≡ false
    stops = holds_separator_at rule buffer supported (q + 1) ∙ apart

    all : (i : ℕ) → q ≤ i → i < q + 1 → holds_separator rule buffer i ≡ true
    all i low high = let same : i ≡ q = omega arith in rw same holds

    not_kept : class rule (slice_get buffer (q + 1)) ≡ right_side rule buffer q
        → is_kept rule buffer q count q ≡ false
    not_kept right =
        kept_by_sides rule buffer supported q count true (sym (lt-ltb 0 count some)) holds
        ∙ rw (sym right, next, is_next, internal) refl

    here : (b : Bool) → rule.consecutive ≡ b → place rule buffer q count ≡ q + 1
    here true e = place_run rule buffer e 1 q (q + 1) count refl all stops within
        (not_kept (right_many rule buffer supported e q (q + 1) holds (omega arith) all stops
        within))
    here false e = place_next rule buffer e q count (omega (arith, within))
        (not_kept (right_one rule buffer supported e q))

-- ---- while a component reads

-- the separator at the cursor is passed over, and the digit after it is direct
pub record PassesOver (k : Component) (s : State) (digit : ℕ) : Type 0 where
  pub place : place_of k s ≡ s.cursor + 1
  pub follows : FollowsDigit k s
  pub next : slice_get s.buffer (s.cursor + 1) ≡ Some digit
  pub direct : is_direct (rule k s) digit ≡ true
  pub free : (separator_at (separator s.word) s.buffer (s.cursor + 1) || not (ltb 0 (own k s)))
      ≡ false

module _ (b : Inside) (k : Component) (reader : b.tally.reader ≡ k) (byte : ℕ)
    (fits : byte < 256) (at : Some byte ≡ slice_get b.slc.now b.tally.index) where
  inner_by : IsInnerAt b.tally b.shortcuts byte
      → IsInner (rule_of b.format k) b.tally.is_counting byte
  inner_by is = rw (is.inner, rule_by b k reader) at
      (b.reading.inner (omega (arith, is.inner, fits)))

  pub follows_by : IsInnerAt b.tally b.shortcuts byte
      → FollowsDigit k (state_of b.slc.now b.format b.tally)
  follows_by is = record {
    here = rw (sym (separator_of k b.format))
        (separator_at_byte (rule_of b.format k).separator b.slc.now b.tally.index byte at
        ∙ (inner_by is).separates);
    counted = counted_since b.slc.now b.format b.tally k reader (counts_by b k reader)
        (inner_by is).counting is.since;
  }

  pub over_by : (digit : ℕ) → IsInnerDigit b.slc.now b.tally b.shortcuts byte digit
      → PassesOver k (state_of b.slc.now b.format b.tally) digit
  unfolding place_of
  over_by digit is =
      let r = rule_of b.format k in
      let follows = follows_by is.here in
      let direct = direct_by b k reader digit true is.fits is.direct in
      let is_next = rw (inner_by is.here).internal at direct in
      let supported = supported_rule b.format k b.holds.word in
      let apart = separator_at_byte r.separator b.slc.now (b.tally.index + 1) digit (sym is.next)
      ∙ digit_apart r digit supported is_next in
      let own_count = own k (state_of b.slc.now b.format b.tally) in
      record {
        place = place_inner r b.slc.now b.tally.index digit own_count supported
            (rw separator_of follows.here) apart is.next is_next (inner_by is.here).internal
            follows.counted;
        follows = follows;
        next = is.next;
        direct = direct;
        free = or_from _ _ (rw (sym (separator_of k b.format)) apart)
            (not_from_true _ (lt-ltb 0 own_count follows.counted));
      }

pub settles_over : (k : Component) (a b : Held) (digit : ℕ) → PassesOver k a.state digit
    → b.state ≡ with_cursor a.state (a.state.cursor + 1) → b.run ≡ a.run
    → b.looks ≡ saturating a.looks 2 → SettlesOf k a b
settles_over k a b digit over state run looks = record {
  settles = rw over.place state;
  costs = λ c same_state same_run more.
      let at = ap (λ (s : State). s.cursor) (same_state ∙ state) in
      costs_unscanned k a c (same_run ∙ run) (omega (arith, at))
      (grind (arith, nat_tests, more.at_least, looks))
      (grind (arith, nat_tests, more.at_most, looks))
      (λ e. absurd (false≢true (sym e ∙ over.follows.here))) (and_right _ _ over.free);
}

-- the separator is passed, which leaves m and the tally r; and then the digit
pub yields_over : (k : Component) (a b : Held) (m : State) (r : Tally) (item : Bor ℕ)
    → PassesOver k a.state item.now
    → m ≡ with_cursor a.state (a.state.cursor + 1) → r.index ≡ a.state.cursor + 1
    → r.reader ≡ k → r.is_counting ≡ counts k a.state.word
    → b.state ≡ with_cursor (passed_by r m) (r.index + 1) → b.run ≡ a.run
    → b.looks ≡ saturating (saturating a.looks 2) 2 → NextsOf k a b (Some item)
yields_over k a b m r item over moved index reader counting left run looks = record {
  takes = takes_some k a.state n b.state item a.holds (rw over.place (sym over.next))
      (rw over.place refl)
      (left ∙ rw (moved, index, reader, counting) refl
      ∙ stepped k n item.now (n.cursor + 1) (counts k n.word)
      (direct_counts k n item.now over.direct));
  costs = let at = ap (λ (s : State). s.cursor) left in
      costs_unscanned k a b run (omega (arith, at, index)) (grind (arith, nat_tests))
      (omega (arith, looks)) (λ e. absurd (false≢true (sym e ∙ over.follows.here)))
      (and_right _ _ over.free);
}
  where
    n : State
    n = with_cursor a.state (a.state.cursor + 1)
