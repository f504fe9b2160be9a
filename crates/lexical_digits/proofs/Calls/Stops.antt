-- On the iterator of a component the leading digits are those from the cursor to the stop.
use Rattle.std.proofs.Common.{◌≡◌, ℕ, zero, suc, ◌+◌, ◌-◌, ◌<◌, ◌≤◌, Bool, cond, List, [], ◌∷◌, length, get_or, take, ap, ◌∙◌, arith, slice_range, filter, if◌then◌else◌}
use Rattle.lexical_digits.specs.Laws.Terms.{iterate, drop_more, Rule, Component, is_digit, place, State, IsState, with_cursor, rule, own, with_own, counts, saturating, place_of, settled, taken, leading, after_leading, leading_digits, stop_of, leading_digits_of, past_digits_of, IsNthDigit}
use Rattle.lexical_digits.specs.Laws.Kept.{place_kept, place_end}
use Rattle.lexical_digits.specs.Laws.Place.{by_steps, place_low}
use Rattle.lexical_digits.specs.Laws.Table.{digit_laws, place_from, own_fits, taken_buffer, taken_word}
use Rattle.lexical_digits.proofs.Rule.Drain.{passed}
use Rattle.lexical_digits.proofs.Calls.NextTakesFirst.{of_taken, with_own_taken, with_own_same}
use Rattle.lexical_digits.proofs.Calls.DigitAtPlace.{Digit, digit_there, none_there, by_digits}
use Rattle.lexical_digits.proofs.Calls.ItemsOfComponents.{items_are_drain}

pub leading_are : (k : Component) (s : State) → IsState s
    → leading (λ (m : State). m.buffer) (λ m. m.cursor) (place_of k) (taken k) (is_digit (rule k s))
    s ≡ leading_digits_of k s
unfolding leading leading_digits
leading_are k s v = rw (items_are_drain k s v)

-- the cursor at a position, and n more on the own count, if any count
abbrev pub counted_to : Component → State → ℕ → ℕ → State
counted_to k s n i =
    with_cursor (with_own k s (if counts k s.word then saturating (own k s) n else own k s)) i

pub none_counted : (k : Component) (s : State) → IsState s → (i : ℕ)
    → with_cursor s i ≡ counted_to k s 0 i
none_counted k s v i = grind (arith, own_fits k s v, with_own_same k s i)

-- a digit that `next` took is counted with the others
pub one_counted : (k : Component) (s : State) → Digit k s → (n i : ℕ)
    → counted_to k (taken k s) n i ≡ counted_to k s (suc n) i
one_counted k s d n i =
    let own_taken = of_taken (λ r b i c. c) k s d.within in
    let same = λ (c : ℕ). with_own_taken k s c i d.within in
    grind (arith, d, taken_word k s)

pub past_more : (k : Component) (s : State) → Digit k s
    → past_digits_of k (taken k s) ≡ past_digits_of k s
past_more k s d = rw (d.leading, d.stop) (one_counted k s d _ _)

all_left : (k : Component) (s : State) → IsState s
    → settled k (iterate (taken k) (length (leading_digits_of k s)) s) ≡ past_digits_of k s
all_left k =
    by_digits k
    (λ s. settled k (iterate (taken k) (length (leading_digits_of k s)) s) ≡ past_digits_of k s)
    (λ s v e. grind (arith, none_there k s e, none_counted k s v (place_of k s)))
    (λ s v d rest. ap (λ (ds : List ℕ). settled k (iterate (taken k) (length ds) s)) d.leading
    ∙ rest ∙ past_more k s d)

pub after_leading_are : (k : Component) (s : State) → IsState s
    → after_leading (λ (m : State). m.buffer) (λ m. m.cursor) (place_of k) (taken k) (settled k)
    (is_digit (rule k s)) s ≡ past_digits_of k s
unfolding after_leading
after_leading_are k s v = rw (leading_are k s v) (all_left k s v)

-- ---- the digits from the cursor to the stop

pub filter_first : (p : ℕ → Bool) (xs : List ℕ) (s e : ℕ) → s < length xs → s < e
    → filter p (slice_range xs s e)
    ≡ cond (p (get_or xs s 0)) (get_or xs s 0 ∷ filter p (slice_range xs (s + 1) e))
    (filter p (slice_range xs (s + 1) e))
filter_first p xs s e l m =
    let more : e - s ≡ suc (e - (s + 1)) = omega arith in rw (more, drop_more xs s 0 l)

pub filter_none : (p : ℕ → Bool) (xs : List ℕ) (s e : ℕ) → e ≤ s
    → filter p (slice_range xs s e) ≡ []
filter_none p xs s e l = grind arith

-- what is passed over holds no digit
skipped : (rule : Rule) (buffer : List ℕ) (e s c : ℕ) → s ≤ length buffer
    → place rule buffer s c ≤ e
    → filter (is_digit rule) (slice_range buffer s e)
    ≡ filter (is_digit rule) (slice_range buffer (place rule buffer s c) e)
skipped rule buffer e =
    by_steps rule buffer _
    (grind (arith, place_end)) (grind (arith, place_kept))
    (grind (arith, place_low, passed, filter_first))

-- the digits from the cursor up to a position
abbrev digits_to : Component → State → ℕ → List ℕ
digits_to k s e = filter (is_digit (rule k s)) (slice_range s.buffer s.cursor e)

pub none_before : (k : Component) (s : State) → IsState s → digits_to k s (place_of k s) ≡ []
unfolding place_of
none_before k s v =
    skipped (rule k s) s.buffer (place_of k s) s.cursor (own k s) v.within (omega arith)
    ∙ filter_none (is_digit (rule k s)) s.buffer (place_of k s) (place_of k s) (omega arith)

-- the digits up to a position behind the first of them
pub digits_upto : (k : Component) (s : State) → IsState s → Digit k s → (e : ℕ)
    → place_of k s < e
    → digits_to k s e ≡ get_or s.buffer (place_of k s) 0 ∷ digits_to k (taken k s) e
unfolding place_of
digits_upto k s v d e past =
    skipped (rule k s) s.buffer e s.cursor (own k s) v.within (omega arith)
    ∙ filter_first (is_digit (rule k s)) s.buffer (place_of k s) e d.within past
    ∙ rw (d.is, taken_word k s, taken_buffer k s, d.on)

record Between (k : Component) (s : State) : Type 0 where
  pub onward : s.cursor ≤ stop_of k s
  pub digits : leading_digits_of k s ≡ digits_to k s (stop_of k s)

between : (k : Component) (s : State) → IsState s → Between k s
between k = by_digits k (Between k)
    (λ s v e. grind (arith, none_there k s e, place_from k s, none_before k s v))
    (λ s v d rest. grind (arith, d, rest, place_from k s, digits_upto k s v d))

pub leading_between : (k : Component) (s : State) → IsState s
    → leading_digits_of k s
    ≡ filter (is_digit (rule k s)) (slice_range s.buffer s.cursor (stop_of k s))
leading_between k s v = (between k s v).digits

-- where digits lead, one stands at the place
digit_first : (k : Component) (s : State) → 0 < length (leading_digits_of k s) → Digit k s
digit_first k s l = grind (arith, digit_there k s, none_there k s)

nth_first : (k : Component) (s : State) → IsState s → Digit k s → IsNthDigit k s 0 (place_of k s)
nth_first k s v d =
    let t : State = taken k s in
    let rest = between k t ((digit_laws k).taken_valid s v) in
    let none = filter_none (is_digit (rule k t)) t.buffer t.cursor in
    grind (arith, d, rest, place_from k s, none_before k s v, digits_upto k s v d)

nth_more : (k : Component) (s : State) (n q : ℕ) → IsState s → Digit k s
    → IsNthDigit k (taken k s) n q → IsNthDigit k s (suc n) q
nth_more k s n q v d rest =
    let next : suc n + 1 ≡ suc (n + 1) = omega arith in
    let more : take (suc n + 1) (leading_digits_of k s)
    ≡ get_or s.buffer (place_of k s) 0 ∷ take (n + 1) (leading_digits_of k (taken k s)) =
    rw (d.leading, next) in
    grind (arith, d, rest, place_from k s, digits_upto k s v d)

-- after n digits the next stands at the place
pub nth_digit : (n : ℕ) (k : Component) (s : State) → IsState s → n < length (leading_digits_of k s)
    → IsNthDigit k s n (place_of k (iterate (taken k) n s))
nth_digit zero k s v l = nth_first k s v (digit_first k s l)
nth_digit (suc n) k s v l =
    let d = digit_first k s (omega arith) in
    nth_more k s n (place_of k (iterate (taken k) n (taken k s))) v d
    (nth_digit n k (taken k s) ((digit_laws k).taken_valid s v)
    (omega (arith, l, ap length d.leading)))

-- after n digits `peek` leaves the cursor at the next, and n more on the own count, if any count
pub nth_leaves : (n : ℕ) (k : Component) (s : State) → IsState s
    → n < length (leading_digits_of k s)
    → settled k (iterate (taken k) n s) ≡ counted_to k s n (place_of k (iterate (taken k) n s))
nth_leaves zero k s v l = none_counted k s v (place_of k s)
nth_leaves (suc n) k s v l =
    let d = digit_first k s (omega arith) in
    nth_leaves n k (taken k s) ((digit_laws k).taken_valid s v)
    (omega (arith, l, ap length d.leading)) ∙ one_counted k s d n _

-- where none leads, the place is the stop
pub none_leads : (k : Component) (s : State) → leading_digits_of k s ≡ []
    → stop_of k s ≡ place_of k s
none_leads k s e = grind (arith, digit_there k s, none_there k s)

-- what `digits_end` promises
pub ruleset ends = (leading_are, after_leading_are, leading_between, none_leads, nth_digit)
