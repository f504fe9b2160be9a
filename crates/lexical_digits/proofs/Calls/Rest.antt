-- What is left of the drain after its zeros, and after the digits that lead.
use Rattle.std.proofs.Common.{◌≡◌, ℕ, ◌+◌, ◌<◌, ◌≤◌, Bool, true, false, not, eqb, List, [], ◌∷◌, length, get_or, drop, refl, ap, arith, slice_index, one-add, map, take_while, find, unwrap_or}
use Rattle.lexical_digits.specs.Laws.Terms.{gets, cases_lt, Component, Rule, State, IsState, rule, is_special, count_after, drain, place, place_of, settled, drain_of, zeros_of, past_zeros_of, leading_digits, leading_digits_of, stop, stop_of, past_digits_of, take_while-cons, is_digit, digit_value, nat_tests}
use Rattle.lexical_digits.specs.Laws.Kept.{CountsOrIgnores}
use Rattle.lexical_digits.specs.Laws.Table.{iter_laws, digit_laws, place_from, place_to, own_fits, place_again}
use Rattle.lexical_digits.proofs.Rule.Drain as places
use Rattle.lexical_digits.proofs.Rule.Supported.{supported_rule}
use Rattle.lexical_digits.proofs.Calls.NextTakesFirst.{positions_of, positions_some, positions_none, drain_some, with_own_same}
use Rattle.lexical_digits.proofs.Calls.Walk.{by_walk}
use Rattle.lexical_digits.proofs.Calls.Items.{zeros_fall}
use Rattle.lexical_digits.proofs.Calls.DigitAtPlace.{at_digit, none_there, by_digits}
use Rattle.lexical_digits.proofs.Calls.Stops.{past_more}
use Rattle.lexical_digits.proofs.Calls.ItemsOfComponents.{at_zero_in, past_zero_in, counts_zeros, zero_there, zeros_none, past_none}

-- ---- after a `peek`

positions_settled : (k : Component) (s : State) → IsState s
    → positions_of k (settled k s) ≡ positions_of k s
positions_settled k s v =
    let settled = (digit_laws k).settled_taken s v in
    grind (arith, cases_lt, place_to k s, place_again k s, positions_some k, positions_none k)

pub drain_settled : (k : Component) (s : State) → IsState s
    → drain_of k (settled k s) ≡ drain_of k s
unfolding drain
drain_settled k s v = ap (map (slice_index s.buffer)) (positions_settled k s v)

pub leading_settled : (k : Component) (s : State) → IsState s
    → leading_digits_of k (settled k s) ≡ leading_digits_of k s
unfolding leading_digits
leading_settled k s v = ap (take_while (is_digit (rule k s))) (drain_settled k s v)

pub stop_settled : (k : Component) (s : State) → IsState s
    → stop_of k (settled k s) ≡ stop_of k s
unfolding stop
stop_settled k s v = ap (λ qs. unwrap_or (find (λ q. not (is_digit (rule k s)
    (slice_index s.buffer q))) qs) (length s.buffer)) (positions_settled k s v)

-- ---- after the zeros

drain_at_place : (r : Rule) (buffer : List ℕ) (counts : Bool) → CountsOrIgnores r buffer counts
    → (s c : ℕ) → place r buffer s c < length buffer
    → drain r buffer s c ≡ get_or buffer (place r buffer s c) 0
    ∷ drain r buffer (place r buffer s c + 1)
    (count_after r counts (get_or buffer (place r buffer s c) 0) c)
unfolding drain
drain_at_place r buffer counts w s c l = rw (places.positions_at_place r buffer counts w s c l) refl

first_zero : (k : Component) (s : State) → IsState s → at_zero_in k s ≡ true
    → drain_of k s ≡ get_or s.buffer (place_of k s) 0 ∷ drain_of k (past_zero_in k s)
unfolding place_of
first_zero k s v e =
    let within : place_of k s < length s.buffer = grind (arith, gets) in
    let count = places.zero_counts (rule k s) s.buffer (supported_rule s.word k v.word)
    (not (is_special k)) in
    grind (arith, gets, drain_at_place (rule k s) s.buffer (not (is_special k)) (counts_zeros k s))

pub rest_after_zeros : (k : Component) (s : State) → IsState s
    → drain_of k (past_zeros_of k s) ≡ drop (zeros_of k s) (drain_of k s)
rest_after_zeros k =
    by_walk (zeros_fall (digit_laws k) (iter_laws k))
    (λ s. drain_of k (past_zeros_of k s) ≡ drop (zeros_of k s) (drain_of k s))
    (λ s v e. grind (arith, past_none k s v e, zeros_none k s e, drain_settled k s v))
    (λ s v e rest. grind (arith, zero_there k s v e, first_zero k s v e, one-add))

-- the digits that lead, after a zero that is one of them
first_digit : (k : Component) (s : State) → IsState s → at_zero_in k s ≡ true
    → leading_digits_of k s
    ≡ get_or s.buffer (place_of k s) 0 ∷ leading_digits_of k (past_zero_in k s)
unfolding leading_digits is_digit digit_value
first_digit k s v e =
    let supported = supported_rule s.word k v.word in
    let zero : eqb (get_or s.buffer (place_of k s) 0) 48 ≡ true = grind (arith, gets) in
    let digit : is_digit (rule k s) (get_or s.buffer (place_of k s) 0) ≡ true =
    grind (arith, nat_tests, supported.low) in
    let same : rule k (past_zero_in k s) ≡ rule k s = grind arith in
    rw (first_zero k s v e, take_while-cons (is_digit (rule k s)), digit, same) refl

pub digits_after_zeros : (k : Component) (s : State) → IsState s
    → leading_digits_of k (past_zeros_of k s) ≡ drop (zeros_of k s) (leading_digits_of k s)
digits_after_zeros k =
    by_walk (zeros_fall (digit_laws k) (iter_laws k))
    (λ s. leading_digits_of k (past_zeros_of k s) ≡ drop (zeros_of k s) (leading_digits_of k s))
    (λ s v e. grind (arith, past_none k s v e, zeros_none k s e, leading_settled k s v))
    (λ s v e rest. grind (arith, zero_there k s v e, first_digit k s v e, one-add))

pub zeros_within : (k : Component) (s : State) → IsState s
    → zeros_of k s ≤ length (leading_digits_of k s)
zeros_within k =
    by_walk (zeros_fall (digit_laws k) (iter_laws k))
    (λ s. zeros_of k s ≤ length (leading_digits_of k s))
    (λ s v e. omega (arith, zeros_none k s e))
    (λ s v e rest. grind (arith, zero_there k s v e, first_digit k s v e))

-- where digits end, past one of them
stop_at_place : (r : Rule) (buffer : List ℕ) (counts : Bool) → CountsOrIgnores r buffer counts
    → (s c : ℕ) → place r buffer s c < length buffer
    → is_digit r (get_or buffer (place r buffer s c) 0) ≡ true
    → stop r buffer s c ≡ stop r buffer (place r buffer s c + 1)
    (count_after r counts (get_or buffer (place r buffer s c) 0) c)
unfolding stop
stop_at_place r buffer counts w s c l d =
    rw (places.positions_at_place r buffer counts w s c l, d) refl

first_stop : (k : Component) (s : State) → IsState s → at_zero_in k s ≡ true
    → stop_of k s ≡ stop_of k (past_zero_in k s)
unfolding place_of is_digit digit_value
first_stop k s v e =
    let supported = supported_rule s.word k v.word in
    let within : place_of k s < length s.buffer = grind (arith, gets) in
    let zero : eqb (get_or s.buffer (place_of k s) 0) 48 ≡ true = grind (arith, gets) in
    let digit : is_digit (rule k s) (get_or s.buffer (place_of k s) 0) ≡ true =
    grind (arith, nat_tests, supported.low) in
    let count = places.zero_counts (rule k s) s.buffer supported (not (is_special k)) in
    grind (arith, gets, stop_at_place (rule k s) s.buffer (not (is_special k)) (counts_zeros k s))

pub stop_after_zeros : (k : Component) (s : State) → IsState s
    → stop_of k (past_zeros_of k s) ≡ stop_of k s
stop_after_zeros k =
    by_walk (zeros_fall (digit_laws k) (iter_laws k))
    (λ s. stop_of k (past_zeros_of k s) ≡ stop_of k s)
    (λ s v e. grind (arith, past_none k s v e, stop_settled k s v))
    (λ s v e rest. grind (arith, zero_there k s v e, first_stop k s v e))

-- each of them is a byte that was passed
pub zeros_onward : (k : Component) (s : State) → IsState s
    → s.cursor + zeros_of k s ≤ (past_zeros_of k s).cursor
zeros_onward k =
    by_walk (zeros_fall (digit_laws k) (iter_laws k))
    (λ s. s.cursor + zeros_of k s ≤ (past_zeros_of k s).cursor)
    (λ s v e. grind (arith, past_none k s v e, zeros_none k s e, place_from k s))
    (λ s v e rest. grind (arith, zero_there k s v e, place_from k s))

-- the cursor is at the place after them
pub stays_after_zeros : (k : Component) (s : State) → IsState s
    → settled k (past_zeros_of k s) ≡ past_zeros_of k s
stays_after_zeros k =
    by_walk (zeros_fall (digit_laws k) (iter_laws k))
    (λ s. settled k (past_zeros_of k s) ≡ past_zeros_of k s)
    (λ s v e. grind (arith, past_none k s v e, (digit_laws k).settled_twice s v))
    (λ s v e rest. grind (arith, zero_there k s v e))

-- ---- after the digits that lead

past_settled : (k : Component) (s : State) → IsState s → at_digit k s ≡ false
    → past_digits_of k s ≡ settled k s
past_settled k s v e =
    grind (arith, none_there k s e, own_fits k s v, with_own_same k s (place_of k s))

pub rest_after_digits : (k : Component) (s : State) → IsState s
    → drain_of k (past_digits_of k s) ≡ drop (length (leading_digits_of k s)) (drain_of k s)
rest_after_digits k =
    by_digits k
    (λ s. drain_of k (past_digits_of k s) ≡ drop (length (leading_digits_of k s)) (drain_of k s))
    (λ s v e. grind (arith, past_settled k s v e, none_there k s e, drain_settled k s v))
    (λ s v d rest. grind (arith, d, past_more k s d, drain_some k s d.within))

pub stays_after_digits : (k : Component) (s : State) → IsState s
    → settled k (past_digits_of k s) ≡ past_digits_of k s
stays_after_digits k =
    by_digits k (λ s. settled k (past_digits_of k s) ≡ past_digits_of k s)
    (λ s v e. grind (arith, past_settled k s v e, (digit_laws k).settled_twice s v))
    (λ s v d rest. grind (arith, past_more k s d))

pub none_after_digits : (k : Component) (s : State) → IsState s
    → leading_digits_of k (past_digits_of k s) ≡ []
none_after_digits k =
    by_digits k (λ s. leading_digits_of k (past_digits_of k s) ≡ [])
    (λ s v e. grind (arith, past_settled k s v e, leading_settled k s v, none_there k s e))
    (λ s v d rest. grind (arith, past_more k s d))

pub stop_after_digits : (k : Component) (s : State) → IsState s
    → stop_of k (past_digits_of k s) ≡ stop_of k s
stop_after_digits k =
    by_digits k (λ s. stop_of k (past_digits_of k s) ≡ stop_of k s)
    (λ s v e. grind (arith, past_settled k s v e, stop_settled k s v))
    (λ s v d rest. grind (arith, past_more k s d, d))

-- what `rest_is_left` states
pub ruleset rests = (
  rest_after_zeros,
  digits_after_zeros,
  zeros_within,
  stays_after_zeros,
  rest_after_digits,
  stays_after_digits,
  stop_after_zeros,
  none_after_digits,
  stop_after_digits,
  drain_settled,
  leading_settled,
  stop_settled,
)
