-- Draining any component by `next` gives what the filter over the whole buffer keeps.
use Rattle.std.proofs.Common.{◌≡◌, ℕ, ◌+◌, ◌<◌, ◌≤◌, ◌^◌, not, ◌&&◌, cond, Option, Some, None, List, [], ◌∷◌, length, get_or, drop, refl, sym, ◌∙◌, arith, inr, option_copied, Bor}
use Rattle.lexical_digits.specs.Laws.Terms.{gets, slice_get_within, Rule, Component, Special, kept_positions, drain, has_flags, State, IsState, with_cursor, rule, own, with_own, counts, count_after, is_special, place_of, settled, taken, drain_of, own_after, after_drain, byte_at_place, Takes}
use Rattle.lexical_digits.specs.Laws.Kept.{CountsOrIgnores}
use Rattle.lexical_digits.proofs.Rule.Drain.{counted, counted_at_place, counted_at_end, digits_from_place, positions_at_place, positions_at_end}
use Rattle.lexical_digits.proofs.Rule.Grants.{ignores_seen}
use Rattle.lexical_digits.specs.Laws.Table.{none_without_flags, place_from, place_to, place_again, next_count, own_fits, taken_some, taken_none, taken_buffer}

-- ---- where digits are not counted, the count makes no difference

pub each_counts : (k : Component) (s : State)
    → CountsOrIgnores (rule k s) s.buffer (counts k s.word)
each_counts Special s = inr (ignores_seen (rule Special s) s.buffer (grind arith))
each_counts k s = grind (arith, none_without_flags, ignores_seen (rule k s) s.buffer)

-- ---- one call of `next` takes the first of the drain

-- what a function of rule, buffer, cursor and own count is of the state that `next` leaves
pub of_taken : {A : Type 0} (f : Rule → List ℕ → ℕ → ℕ → A) (k : Component) (s : State)
    → place_of k s < length s.buffer
    → f (rule k (taken k s)) (taken k s).buffer (taken k s).cursor (own k (taken k s))
    ≡ f (rule k s) s.buffer (place_of k s + 1) (next_count k s)
of_taken f k s l = rw (taken_some k s l) (grind arith)

-- the kept positions from a state on
abbrev pub positions_of : Component → State → List ℕ
positions_of k s = kept_positions (rule k s) s.buffer s.cursor (own k s)

pub positions_some : (k : Component) (s : State) → place_of k s < length s.buffer →
    positions_of k s ≡ place_of k s ∷ positions_of k (taken k s)
unfolding place_of
positions_some k s l =
    rw (of_taken kept_positions k s l)
    (positions_at_place (rule k s) s.buffer (counts k s.word) (each_counts k s) s.cursor (own k s)
    l)

pub positions_none : (k : Component) (s : State) → place_of k s ≡ length s.buffer →
    positions_of k s ≡ []
unfolding place_of
positions_none k s e = positions_at_end (rule k s) s.buffer s.cursor (own k s) e

pub drain_some : (k : Component) (s : State) → place_of k s < length s.buffer
    → drain_of k s ≡ get_or s.buffer (place_of k s) 0 ∷ drain_of k (taken k s)
unfolding drain
drain_some k s l = rw (positions_some k s l, taken_buffer k s) refl

pub drain_none : (k : Component) (s : State) → place_of k s ≡ length s.buffer → drain_of k s ≡ []
unfolding drain
drain_none k s e = rw (positions_none k s e) refl

-- ---- what the whole drain leaves

pub with_own_twice : (k : Component) (s : State) (a b p n : ℕ)
    → with_cursor (with_own k (with_cursor (with_own k s a) p) b) n ≡ with_cursor (with_own k s b) n
with_own_twice k s a b p n = grind arith

pub with_own_same : (k : Component) (s : State) (n : ℕ)
    → with_cursor (with_own k s (own k s)) n ≡ with_cursor s n
with_own_same k s n = grind arith

pub with_own_taken : (k : Component) (s : State) (n i : ℕ) → place_of k s < length s.buffer
    → with_cursor (with_own k (taken k s) n) i ≡ with_cursor (with_own k s n) i
with_own_taken k s n i l = rw (taken_some k s l) (with_own_twice k s _ n _ i)

pub drained_some : (k : Component) (s : State) → s.cursor ≤ length s.buffer
    → place_of k s < length s.buffer → after_drain k (taken k s) ≡ after_drain k s
unfolding after_drain place_of
drained_some k s l n =
    let counts_on = counted_at_place (rule k s) s.buffer s.cursor (own k s) l n in
    let own_on : own_after k (taken k s) ≡ own_after k s =
    of_taken (λ r buffer i c. cond (not (is_special k) && has_flags r)
    (counted r buffer c (drop i buffer)) c) k s n ∙ grind arith in
    cc (own_on, taken_buffer k s, with_own_taken k s (own_after k s) (length s.buffer) n)

-- no digit is left where no byte is kept
drained_none : (k : Component) (s : State) → s.cursor ≤ length s.buffer
    → place_of k s ≡ length s.buffer → after_drain k (taken k s) ≡ after_drain k s
unfolding after_drain place_of
drained_none k s l e =
    let digits = digits_from_place (rule k s) s.buffer s.cursor (own k s) l in
    rw (taken_none k s (omega arith)) (grind arith)

-- where nothing is left, the state is settled, and so drained
pub drained_end : (k : Component) (s : State) → s.cursor ≤ length s.buffer → own k s < 2 ^ 64
    → place_of k s ≡ length s.buffer → taken k s ≡ after_drain k s
unfolding after_drain place_of
drained_end k s l small e =
    let counted = counted_at_end (rule k s) s.buffer s.cursor (own k s) l small e in
    rw (taken_none k s (omega arith)) (grind arith)

-- ---- a call of `next`, by what it answers

takes : (k : Component) (s : State) (r : Option (Bor ℕ)) → IsState s
    → option_copied r ≡ byte_at_place k s → Takes k s (taken k s) r
takes k s None v e =
    let at_end : place_of k s ≡ length s.buffer = grind (arith, gets, place_to k s) in
    let none = drain_none k (settled k s) (place_again k s ∙ at_end) in
    let left = taken_none k s (omega arith) in
    let end = drained_end k s v.within (own_fits k s v) at_end in
    grind (arith, drain_none k s at_end, drained_none k s v.within at_end)
takes k s (Some item) v e =
    let within : place_of k s < length s.buffer = grind (arith, gets) in
    let first = drain_some k s within in
    let same = drained_some k s v.within within in
    grind (arith, gets, place_from k s v.within, taken_some k s within)

-- the same at both ends of a call: where nothing is found the state is settled, else past the byte
pub takes_none : (k : Component) (s t : State) → IsState s → None ≡ byte_at_place k s
    → t ≡ settled k s → Takes k s t None
takes_none k s t v e left = grind (arith, gets, taken_none k s, takes k s None v e)

pub takes_some : (k : Component) (s m t : State) (item : Bor ℕ) → IsState s
    → Some item.now ≡ byte_at_place k s → m ≡ settled k s
    → t ≡ with_cursor (with_own k m (count_after (rule k m) (counts k m.word) item.now (own k m)))
    (m.cursor + 1) → Takes k s t (Some item)
takes_some k s m t item v e settles passes =
    let within = slice_get_within s.buffer (place_of k s) item.now (sym e) in
    let there : get_or s.buffer (place_of k s) 0 ≡ item.now = grind (arith, gets) in
    let same : t ≡ taken k s = rw (taken_some k s within, passes, settles, there) (grind arith) in
    rw same (takes k s (Some item) v e)
