-- After a digit with which the value is too large the digits from there on are left.
use Rattle.std.proofs.Common.{◌≡◌, ℕ, zero, suc, ◌+◌, ◌<◌, ◌≤◌, length, drop, arith, append-nil, length-append}
use Rattle.std.proofs.lemmas.List.{take-append-drop, length-take, length-drop}
use Rattle.lexical_digits.specs.declared.skip.component.Component.{Component}
use Rattle.lexical_digits.specs.Laws.Terms.{iterate, State, IsState, rule, own, place_of, settled, taken, stop_of, leading_digits_of, past_digits_of, IsNthDigit}
use Rattle.lexical_digits.specs.Laws.Table.{digit_laws}
use Rattle.lexical_digits.proofs.Rule.Supported.{supported_rule}
use Rattle.lexical_digits.proofs.Calls.FirstOther.{stop_is_first}
use Rattle.lexical_digits.proofs.Calls.DigitAtPlace.{Digit, digit_there, none_there}
use Rattle.lexical_digits.proofs.Calls.Stops.{past_more, leading_between, nth_digit, nth_leaves}
use Rattle.lexical_digits.proofs.Calls.Rest.{leading_settled, stop_settled}
use Rattle.digit_values.specs.Rest.{LeavesRest}
use Rattle.digit_values.specs.After.{digits_to, past_digits_to, ExceedsAt}
use Rattle.digit_values.proofs.Between.{more_between, fewer_between}
use Rattle.digit_values.proofs.Significant.{value_grows}

-- what is left after n digits and a `peek`
left_after : (n : ℕ) (k : Component) (s : State) → IsState s → n ≤ length (leading_digits_of k s)
    → let t : State = settled k (iterate (taken k) n s) in
    (leading_digits_of k t ≡ drop n (leading_digits_of k s)) × (stop_of k t ≡ stop_of k s)
    × (past_digits_of k t ≡ past_digits_of k s)
left_after zero k s v l = grind (arith, leading_settled k s v, stop_settled k s v)
left_after (suc n) k s v l =
    let d : Digit k s = grind (arith, digit_there k s, none_there k s) in
    grind (arith, left_after n k (taken k s) ((digit_laws k).taken_valid s v), past_more k s d)

module _ (k : Component) (s : State) (before most at : ℕ) (v : IsState s)
    (h : ExceedsAt (rule k s) s.buffer s.cursor (own k s) before most at) where
  abbrev n : ℕ
  n = length (digits_to k s at)

  within : at < length s.buffer
  within = let end = stop_is_first (rule k s) s.buffer s.cursor (own k s) v.within in
      omega (arith, h.before_stop, end.within)

  -- one digit more is before the next position
  length_more : length (digits_to k s (at + 1)) ≡ n + 1
  length_more = grind (arith, within, more_between, append-nil {A = ℕ}, length-append {A = ℕ})

  leads : n < length (leading_digits_of k s)
  leads = grind (arith, length_more, leading_between k s v, fewer_between)

  place_is : place_of k (iterate (taken k) n s) ≡ at
  place_is = grind
      (arith, length_more, leads, nth_digit n k s v leads, length-take {A = ℕ}, fewer_between)

  pub nth : IsNthDigit k s n at
  nth = rw place_is at (nth_digit n k s v leads)

  pub leaves_rest : LeavesRest k s before most at
  leaves_rest =
      let same : settled k (iterate (taken k) n s) ≡ past_digits_to k s at =
      cc (nth_leaves n k s v leads, place_is) in
      let left = rw same at (left_after n k s v (omega (arith, leads))) in
      let one = (supported_rule s.word k v.word).low in
      grind (arith, nth, leads, take-append-drop {A = ℕ} n, length-drop {A = ℕ}, value_grows)
