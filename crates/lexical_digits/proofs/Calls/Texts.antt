-- Where reading a text stops, in words of its bytes.
use Rattle.std.proofs.Common.{◌≡◌, ℕ, zero, suc, ◌+◌, ◌-◌, ◌<◌, ◌≤◌, Bool, true, false, not, ◌&&◌, ◌||◌, ltb, List, length, drop, take, reverse, arith, slice_index}
use Rattle.lexical_digits.specs.Laws.Terms.{cases_Bool, cases_lt, nat_tests, drop_more, drop_all, gets, Rule, is_digit, class, neighbour, holds_separator, is_dropped, digits_seen, is_kept, GrantsAll, IsSupported, stop, IsInternalAlone, IsInternalInRuns, is_digit_or_between, is_digit_or_in_run, is_digit_or_separator, IsFirstFault, IsFirstFaultFrom, holds_digit, digit_before, leads_to_digit, IsFromDigitToDigit}
use Rattle.lexical_digits.specs.declared.skip.rule.Class.TheVariants.{Digit}
use Rattle.lexical_digits.specs.declared.skip.rule.Class.{Class}
use Rattle.lexical_digits.specs.Laws.Kept.{dropped_holds_separator, seen_none}
use Rattle.lexical_digits.proofs.Rule.Supported.{supported_rule}
use Rattle.lexical_digits.proofs.Rule.Grants.{dropped_if_all}
use Rattle.lexical_digits.proofs.Rule.Runs.{separator_class, right_single, left_in_run, neighbour_many}
use Rattle.lexical_digits.proofs.Rule.Sides.{left_one, left_after_digit}
use Rattle.lexical_digits.proofs.Calls.FirstOther.{IsFirst, stop_is_first}

module _ (rule : Rule) (text : List ℕ) where
  -- ---- what is dropped where no digit was counted, by the bytes on both sides

  drops_between : IsSupported rule → IsInternalAlone rule → (q : ℕ) → q < length text
      → is_dropped rule text false q
      ≡ (holds_separator rule text q && digit_before rule text q && holds_digit rule text (q + 1))
  unfolding is_dropped
  drops_between fits only q l =
      let left = left_one rule text fits only.consecutive q in
      grind (arith, only, right_single rule text only.consecutive q)

  drops_in_run : IsInternalInRuns rule → (q : ℕ) → is_dropped rule text false q
      ≡ (holds_separator rule text q && leads_to_digit rule (reverse (take q text))
      && leads_to_digit rule (drop (q + 1) text))
  unfolding is_dropped
  drops_in_run only q = grind (arith, only, neighbour_many rule text only.consecutive)

  -- ---- from a start on

  module _ (start : ℕ) (within : start ≤ length text) where
    -- where reading stops
    abbrev end_from : ℕ
    end_from = stop rule text start 0

    found : IsFirst (is_kept rule text start 0) (λ q. not (is_digit rule (slice_index text q)))
        start (length text) end_from
    found = stop_is_first rule text start 0 within

    -- what is dropped, by the digits counted from the start on
    abbrev drops : ℕ → Bool
    drops q = is_dropped rule text (ltb 0 (digits_seen rule text start 0 q)) q

    -- where a test passes the digits and what is dropped, reading stops at its first fault
    fault_if_same : (passes : ℕ → Bool) → ((q : ℕ) → start ≤ q → q ≤ end_from → q < length text
        → passes q ≡ (holds_digit rule text q || drops q))
        → IsFirstFaultFrom start passes (length text) end_from
    unfolding is_kept
    fault_if_same passes same = record {
      onward = found.onward;
      within = found.within;
      before = λ q s m.
          let l : q < length text = omega (arith, m, found.within) in
          grind (arith, gets, found.before q s m, same q);
      at = λ l. grind (arith, gets, found.at l, same end_from found.onward);
    }

    module _ (fits : IsSupported rule) (leading : rule.leading ≡ false)
        (trailing : rule.trailing ≡ false) where
      -- what stands left of a position, also beyond the start
      abbrev left : ℕ → Class
      left q = class rule (neighbour rule (reverse (take q text)))

      -- a separator just behind one that is dropped has the same left side
      left_behind : (seen : Bool) (p : ℕ) → is_dropped rule text seen p ≡ true
          → holds_separator rule text (p + 1) ≡ true → left (p + 1) ≡ left p
      unfolding is_dropped holds_separator
      left_behind seen p h k =
          grind (
            arith,
            leading,
            trailing,
            cases_Bool rule.consecutive,
            left_in_run rule text,
            right_single rule text,
          )

      -- up to the end a digit stands left of each separator that is dropped
      left_digit : (d q : ℕ) → start + d ≡ q → q ≤ end_from → drops q ≡ true → left q ≡ Digit
      unfolding is_kept is_dropped
      left_digit zero q e m h =
          let same : q ≡ start = omega (arith, e) in
          grind (arith, nat_tests, same, leading, trailing, seen_none rule text start 0)
      left_digit (suc d) q e m h =
          let p : ℕ = q - 1 in
          grind (
            arith,
            gets,
            found.before p,
            found.within,
            left_after_digit rule text fits p,
            left_digit d p,
            left_behind,
            dropped_holds_separator rule text _ q h,
          )

      -- so the digits counted make no difference
      drops_by_bytes : (q : ℕ) → start ≤ q → q ≤ end_from
          → drops q ≡ is_dropped rule text false q
      unfolding is_dropped
      drops_by_bytes q s m =
          grind (arith, leading, trailing, left_digit (q - start) q (omega arith) m)

    pub fault_between_from : IsSupported rule → IsInternalAlone rule
        → IsFirstFaultFrom start (is_digit_or_between rule text) (length text) end_from
    fault_between_from fits only =
        let same = drops_by_bytes fits only.leading only.trailing in
        fault_if_same _ (λ q s m l. grind (arith, same q, drops_between fits only q))

    pub fault_in_runs_from : IsSupported rule → IsInternalInRuns rule
        → IsFirstFaultFrom start (is_digit_or_in_run rule text) (length text) end_from
    fault_in_runs_from fits only =
        let same = drops_by_bytes fits only.leading only.trailing in
        fault_if_same _ (λ q s m l. grind (arith, same q, drops_in_run only q))

    pub fault_every_from : GrantsAll rule
        → IsFirstFaultFrom start (is_digit_or_separator rule text) (length text) end_from
    fault_every_from grants =
        fault_if_same _ (λ q s m l. grind (arith, dropped_if_all rule text grants))

  -- ---- from the first byte on

  -- where reading stops
  abbrev end : ℕ
  end = stop rule text 0 0

  -- a first fault at the end is none
  pub all_if_end : (passes : ℕ → Bool) → IsFirstFault passes (length text) end → end ≡ length text
      → (q : ℕ) → q < length text → passes q ≡ true
  all_if_end passes fault e q l = fault.before q (omega (arith, e, l))

  pub end_if_all : (passes : ℕ → Bool) → IsFirstFault passes (length text) end
      → ((q : ℕ) → q < length text → passes q ≡ true) → end ≡ length text
  end_if_all passes fault all = grind (arith, cases_lt end (length text), fault, all end)

  pub whole : (passes : ℕ → Bool)
      → ((start : ℕ) → start ≤ length text
      → IsFirstFaultFrom start passes (length text) (stop rule text start 0))
      → IsFirstFault passes (length text) end
  whole passes fault =
      let from = fault 0 (omega arith) in
      record { within = from.within; before = λ q. from.before q (omega arith); at = from.at }

  -- ---- the internal and the consecutive flag

  pub fault_in_runs : IsSupported rule → IsInternalInRuns rule
      → IsFirstFault (is_digit_or_in_run rule text) (length text) end
  fault_in_runs fits only = whole _ (λ start within. fault_in_runs_from start within fits only)

  -- at the ends of a text no side is a digit
  pub ends_if_read : IsSupported rule → IsInternalInRuns rule → end ≡ length text
      → IsFromDigitToDigit rule text
  ends_if_read fits only e =
      let all = all_if_end _ (fault_in_runs fits only) e in
      record {
        all = λ q l. grind (arith, all q l);
        first = λ l. grind (arith, all 0 l);
        last = λ l.
            let last_byte = all (length text - 1) (omega (arith, l)) in
            grind (arith, gets, drop_all (length text) text);
      }

  -- from each position on, the first byte that is no separator is a digit
  digit_on : IsSupported rule → IsFromDigitToDigit rule text → (d q : ℕ) → q + d ≡ length text
      → q < length text → leads_to_digit rule (drop q text) ≡ true
  unfolding holds_separator
  digit_on fits ends zero q e l = absurd (omega (arith, e, l))
  digit_on fits ends (suc d) q e l =
      let on = digit_on fits ends d (q + 1) in
      rw (drop_more text q 0 l)
      (grind (arith, gets, on, ends.all q, ends.last, separator_class rule text fits))

  pub read_if_ends : IsSupported rule → IsInternalInRuns rule → IsFromDigitToDigit rule text
      → end ≡ length text
  read_if_ends fits only ends =
      let fault = fault_in_runs fits only in
      let p : ℕ = end - 1 in
      grind (
        arith,
        gets,
        cases_lt end (length text),
        fault,
        fault.before p,
        ends,
        digit_on fits ends (length text - (end + 1)) (end + 1),
        neighbour_many rule text only.consecutive,
        left_after_digit rule text fits p,
        left_in_run rule text only.consecutive p,
      )

pub ruleset between = (whole, fault_between_from, all_if_end, end_if_all, supported_rule)

pub ruleset every = (whole, fault_every_from, all_if_end, end_if_all, supported_rule)

pub ruleset in_runs = (
  fault_in_runs,
  fault_in_runs_from,
  ends_if_read,
  read_if_ends,
  supported_rule,
)
