-- On the iterator of a component the items are the drain, and the zeros are its zeros.
use Rattle.std.proofs.Common.{◌≡◌, ℕ, ◌+◌, ◌<◌, ◌^◌, Bool, true, false, cond, not, eqb, List, length, get_or, drop, filter, count_by, refl, sym, ◌∙◌, arith, inl}
use Rattle.lexical_digits.specs.Laws.Terms.{gets, slice_get-get_or, slice_get_past, length-filter, separator, bit, is_digit, is_separator, drain, Component, Special, State, IsState, with_cursor, rule, radix_of, rule_of, own, with_own, counts, is_special, one_more, saturating, place_of, settled, counted, drain_of, after_drain, zeros_of, past_zeros_of, items_in, after_items_in, zeros_in, after_zeros_in, at_zero, past_zero}
use Rattle.lexical_digits.specs.Laws.Kept.{CountsOrIgnores}
use Rattle.lexical_digits.specs.Laws.Table.{iter_laws, digit_laws, place_to, own_fits}
use Rattle.lexical_digits.proofs.Rule.Drain as places
use Rattle.lexical_digits.proofs.Rule.Supported.{supported_rule}
use Rattle.lexical_digits.proofs.Rule.Grants.{digits_of_drain, digit_same, drain_if_all}
use Rattle.lexical_digits.proofs.Calls.NextTakesFirst.{each_counts, drain_some, drain_none, drained_some, drained_end, with_own_same}
use Rattle.lexical_digits.proofs.Calls.Walk.{by_walk}
use Rattle.lexical_digits.proofs.Calls.Items.{by_items, after_items_unroll, zeros_fall, zeros_by, after_zeros_by}
use Rattle.lexical_digits.proofs.Calls.Implementing as each

pub items_are_drain : (k : Component) (s : State) → IsState s → items_in k s ≡ drain_of k s
items_are_drain k = each.items_are (digit_laws k) (drain_of k) (λ s v e. drain_none k s e)
    (λ s v l. drain_some k s l)

-- how many there are
pub items_fit : (k : Component) (s : State) → IsState s → length (items_in k s) < 2 ^ 64
items_fit k s v =
    omega (arith, each.items_fit (digit_laws k) (length s.buffer) s v (omega arith), v.buffer)

pub after_items_are : (k : Component) (s : State) → IsState s → after_items_in k s ≡ after_drain k s
after_items_are k =
    by_items (digit_laws k) (λ s. after_items_in k s ≡ after_drain k s)
    (λ s v h. rw (after_items_unroll (digit_laws k) s v, slice_get_past s.buffer (place_of k s) h)
    (drained_end k s v.within (own_fits k s v) (omega (arith, place_to k s))))
    (λ s v h rest.
    rw (after_items_unroll (digit_laws k) s v, slice_get-get_or s.buffer (place_of k s) 0 h)
    (rest ∙ drained_some k s v.within h))

-- ---- the zeros

abbrev pub at_zero_in : Component → State → Bool
at_zero_in k = at_zero (λ (m : State). m.buffer) (λ m. m.cursor) (place_of k) with_cursor
    (settled k) (counted k)

abbrev pub past_zero_in : Component → State → State
past_zero_in k = past_zero (λ (m : State). m.buffer) (λ m. m.cursor) (place_of k) with_cursor
    (settled k) (counted k)

-- the own count past a zero: special counts none
abbrev pub count_past : Component → State → ℕ
count_past k s = cond (not (is_special k)) (one_more (own k s)) (own k s)

-- zeros count as digits do, and special ignores what was seen
pub counts_zeros : (k : Component) (s : State)
    → CountsOrIgnores (rule k s) s.buffer (not (is_special k))
counts_zeros Special s = each_counts Special s
counts_zeros k s = inl refl

-- a zero counted first, or with the others
counted_first : (k : Component) (s : State) (z i : ℕ)
    → with_cursor (with_own k (past_zero_in k s) (saturating (count_past k s) z)) i
    ≡ with_cursor (with_own k s (saturating (own k s) (1 + z))) i
counted_first k s z i = grind arith

-- what the zeros are, and what they leave, where one stands at the place
pub record Zero (k : Component) (s : State) : Type 0 where
  pub zeros : zeros_of k s ≡ 1 + zeros_of k (past_zero_in k s)
  pub past : past_zeros_of k (past_zero_in k s) ≡ past_zeros_of k s

pub zero_there : (k : Component) (s : State) → IsState s → at_zero_in k s ≡ true → Zero k s
unfolding place_of
zero_there k s v e =
    let within : place_of k s < length s.buffer = grind (arith, gets) in
    let zero : eqb (get_or s.buffer (place_of k s) 0) 48 ≡ true = grind (arith, gets) in
    let count = places.zero_counts (rule k s) s.buffer (supported_rule s.word k v.word)
    (not (is_special k)) _ (own k s) zero in
    let more = places.zeros_at_place (rule k s) s.buffer (not (is_special k)) (counts_zeros k s)
    s.cursor (own k s) within zero in
    let past = places.past_at_place (rule k s) s.buffer (not (is_special k)) (counts_zeros k s)
    s.cursor (own k s) within zero in
    grind (arith, counted_first k s)

pub zeros_none : (k : Component) (s : State) → at_zero_in k s ≡ false → zeros_of k s ≡ 0
unfolding place_of
zeros_none k s e = places.zeros_none (rule k s) s.buffer s.cursor (own k s) e

pub past_none : (k : Component) (s : State) → IsState s → at_zero_in k s ≡ false
    → settled k s ≡ past_zeros_of k s
unfolding place_of
past_none k s v e =
    let none = zeros_none k s e in
    let end = places.past_none (rule k s) s.buffer s.cursor (own k s) none in
    grind (arith, own_fits k s v, with_own_same k s (place_of k s))

pub zeros_are : (k : Component) (s : State) → IsState s → zeros_in k s ≡ zeros_of k s
zeros_are k =
    let by = λ (b : Bool). zeros_by (digit_laws k) (iter_laws k) b in
    by_walk (zeros_fall (digit_laws k) (iter_laws k)) (λ s. zeros_in k s ≡ zeros_of k s)
    (λ s v e. by false s e v ∙ sym (zeros_none k s e))
    (λ s v e rest. omega (arith, by true s e v, (zero_there k s v e).zeros))

pub after_zeros_are : (k : Component) (s : State) → IsState s
    → after_zeros_in k s ≡ past_zeros_of k s
after_zeros_are k =
    let by = λ (b : Bool). after_zeros_by (digit_laws k) (iter_laws k) b in
    by_walk (zeros_fall (digit_laws k) (iter_laws k))
    (λ s. after_zeros_in k s ≡ past_zeros_of k s)
    (λ s v e. by false s e v ∙ past_none k s v e)
    (λ s v e rest. by true s e v ∙ rest ∙ (zero_there k s v e).past)

pub digits_same : (k : Component) (one other : ℕ) (buffer : List ℕ) (start count : ℕ)
    → radix_of one k ≡ radix_of other k
    → filter (is_digit (rule_of one k)) (drain (rule_of one k) buffer start count)
    ≡ filter (is_digit (rule_of one k)) (drain (rule_of other k) buffer start count)
digits_same k one other buffer start count e =
    let same : (rule_of one k).radix ≡ (rule_of other k).radix = grind arith in
    grind (arith, digits_of_drain, digit_same (rule_of one k) (rule_of other k) same)

pub special_drains : (s : State) → IsState s → bit s.word 44 ≡ true
    → drain_of Special s ≡ filter (λ b. not (is_separator (separator s.word) b))
    (drop s.cursor s.buffer)
special_drains s v e =
    drain_if_all (rule Special s) s.buffer (supported_rule s.word Special v.word) (e, e, e, e)
    s.cursor s.integer

pub drain_is_counted : (k : Component) (s : State) → counts k s.word ≡ true
    → own k (after_drain k s) ≡ saturating (own k s) (count_by (is_digit (rule k s)) (drain_of k s))
unfolding after_drain
drain_is_counted k s e =
    let digits = digits_of_drain (rule k s) s.buffer s.cursor (own k s) in
    grind (arith, length-filter {X = ℕ})

-- what `items_are_drain` states
pub ruleset are_drain = (items_are_drain, after_items_are, zeros_are, after_zeros_are)
