-- What holds of the calls on the iterator of every component.
use Rattle.std.proofs.Common.{◌≡◌, ℕ, ◌+◌, ◌<◌, ◌≤◌, ◌^◌, true, false, length, get_or, arith, ◌∙◌, lt-ltb, le-ltb}
use Rattle.lexical_digits.specs.Laws.Terms.{cases_lt, separator, Rule, Component, is_digit, is_separator, place, has_flags, GrantsNone, State, IsState, with_cursor, rule, own, with_own, rule_of, counts, count_after, is_contiguous, has_no_separator, current_count, place_of, settled, counted, taken, IterLaws, DigitLaws}
use Rattle.lexical_digits.specs.Laws.Kept.{place_kept, place_end}
use Rattle.lexical_digits.specs.Laws.Place.{place_low, place_high, place_settled, kept_if_none}

-- ---- a state with another own count

pub own_moved : (k : Component) (s : State) (i : ℕ) → own k (with_cursor s i) ≡ own k s
own_moved k s i = grind arith

pub with_own_buffer : (k : Component) (s : State) (n : ℕ) → (with_own k s n).buffer ≡ s.buffer
with_own_buffer k s n = grind arith

pub with_own_word : (k : Component) (s : State) (n : ℕ) → (with_own k s n).word ≡ s.word
with_own_word k s n = grind arith

pub with_own_cursor : (k : Component) (s : State) (n : ℕ) → (with_own k s n).cursor ≡ s.cursor
with_own_cursor k s n = grind arith

-- ---- states that a `Bytes` may have

cursor_is : (s : State) → IsState s → s.cursor ≤ length s.buffer
cursor_is s v = v.within

moved_is : (s : State) (i : ℕ) → IsState s → i ≤ length s.buffer → IsState (with_cursor s i)
moved_is s i v h = search (v, h)

pub with_own_is : (k : Component) (s : State) (n : ℕ) → IsState s → n < 2 ^ 64
    → IsState (with_own k s n)
with_own_is k s n v l = grind arith

pub own_fits : (k : Component) (s : State) → IsState s → own k s < 2 ^ 64
own_fits k s v = grind arith

pub place_from : (k : Component) (s : State) → s.cursor ≤ length s.buffer → s.cursor ≤ place_of k s
unfolding place_of
place_from k s l = place_low (rule k s) s.buffer s.cursor (own k s) l

pub place_to : (k : Component) (s : State) → place_of k s ≤ length s.buffer
unfolding place_of
place_to k s = place_high (rule k s) s.buffer s.cursor (own k s)

pub place_moved : (k : Component) (s : State) (i : ℕ)
    → place_of k (with_cursor s i) ≡ place (rule k s) s.buffer i (own k s)
unfolding place_of
place_moved k s i = cc (own_moved k s i)

pub place_again : (k : Component) (s : State) → place_of k (settled k s) ≡ place_of k s
unfolding place_of
place_again k s =
    place_moved k s (place_of k s) ∙ place_settled (rule k s) s.buffer s.cursor (own k s)

-- without flags nothing is granted, so nothing is dropped
pub none_without_flags : (r : Rule) → has_flags r ≡ false → GrantsNone r
none_without_flags r h = grind arith

pub contiguous_grants : (k : Component) (word : ℕ) → is_contiguous k word ≡ true
    → GrantsNone (rule_of word k)
contiguous_grants k word e = grind arith

pub place_contiguous : (k : Component) (s : State) → is_contiguous k s.word ≡ true
    → s.cursor ≤ length s.buffer → place_of k s ≡ s.cursor
unfolding place_of
place_contiguous k s e l =
    let kept = kept_if_none (rule k s) s.buffer (contiguous_grants k s.word e) in
    grind (arith, cases_lt s.cursor (length s.buffer), place_kept, place_end)

settled_is : (k : Component) (s : State) → IsState s → IsState (settled k s)
settled_is k s v = moved_is s (place_of k s) v (place_to k s)

settled_count : (k : Component) (s : State) → IsState s
    → current_count k (settled k s) ≡ current_count k s
settled_count k s v = grind (arith, place_contiguous k s, own_moved)

abbrev pub next_count : Component → State → ℕ
next_count k s =
    count_after (rule k s) (counts k s.word) (get_or s.buffer (place_of k s) 0) (own k s)

pub taken_some : (k : Component) (s : State) → place_of k s < length s.buffer
    → taken k s ≡ with_cursor (with_own k s (next_count k s)) (place_of k s + 1)
unfolding taken
taken_some k s l = rw (lt-ltb (place_of k s) (length s.buffer) l)

pub taken_none : (k : Component) (s : State) → length s.buffer ≤ place_of k s
    → taken k s ≡ settled k s
unfolding taken
taken_none k s l = rw (le-ltb (place_of k s) (length s.buffer) l)

taken_again : (k : Component) (s : State) → taken k (settled k s) ≡ taken k s
unfolding taken
taken_again k s = grind (arith, place_again k s, own_moved)

pub taken_buffer : (k : Component) (s : State) → (taken k s).buffer ≡ s.buffer
unfolding taken
taken_buffer k s = grind (arith, with_own_buffer)

pub taken_word : (k : Component) (s : State) → (taken k s).word ≡ s.word
unfolding taken
taken_word k s = grind (arith, with_own_word)

taken_is : (k : Component) (s : State) → IsState s → IsState (taken k s)
unfolding taken
taken_is k s v =
    let fits : next_count k s < 2 ^ 64 = grind (arith, own_fits k s v) in
    let counted = with_own_is k s (next_count k s) v fits in
    grind (arith, moved_is, with_own_buffer, settled_is k s v)

ruleset places = (cursor_is, place_from, place_to, place_again, settled_is, settled_count)

ruleset own_counts = (with_own_is, with_own_cursor, with_own_buffer, with_own_word)

ruleset steps = (taken_again, taken_is, taken_some, taken_none, taken_buffer, taken_word)

pub bytes_laws : IterLaws IsState (λ m. m.buffer) (λ m. m.cursor) (λ m. has_no_separator m.word)
    (λ m b. is_separator (separator m.word) b) with_cursor
bytes_laws = search (moved_is, cursor_is)

pub iter_laws : (k : Component)
    → IterLaws IsState (λ m. m.buffer) (λ m. m.cursor) (λ m. is_contiguous k m.word)
    (λ m b. is_separator (separator m.word) b) with_cursor
iter_laws k = search (moved_is, cursor_is)

pub digit_laws : (k : Component)
    → DigitLaws IsState (λ m. m.buffer) (λ m. m.cursor) (current_count k)
    (λ m. is_contiguous k m.word) (λ m b. is_separator (separator m.word) b) with_cursor
    (place_of k) (λ m b. is_digit (rule k m) b) (settled k) (counted k) (taken k)
digit_laws k = search (arith, places, own_counts, steps)
