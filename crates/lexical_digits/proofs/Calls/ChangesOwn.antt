-- The calls on the iterator of a component change only the cursor and the component's own count.
use Rattle.std.proofs.Common.{◌≡◌, ℕ, ◌+◌, ◌*◌, cond, [], ◌∷◌, length, refl, arith, sym, ◌∙◌, inl, inr, is_some, map, ℤ, pos, ◌≤ℤ◌, ◌+ℤ◌}
use Rattle.lexical_digits.specs.Laws.Terms.{cases_lt, slice_get-get_or, slice_get_past, Component, past_zeros, State, IsState, with_cursor, rule, own, one_more, saturating, place_of, byte_at_place, settled, past_place, counted, taken, zeros_of, past_zeros_of, ChangesOwn, run_of, On, Peek, Next, IncrementCount, TryRead, SkipZeros, after_zeros_in}
use Rattle.lexical_digits.specs.Cursor.{zeros}
use Rattle.lexical_digits.specs.Laws.Table.{iter_laws, digit_laws, next_count, taken_some, taken_none}
use Rattle.lexical_digits.proofs.Calls.NextTakesFirst.{with_own_same, with_own_twice}
use Rattle.lexical_digits.proofs.Calls.ItemsOfComponents.{zeros_are, after_zeros_are}

pub changes_then : (k : Component) (s t u : State) → ChangesOwn k s t → ChangesOwn k t u
    → ChangesOwn k s u
changes_then k s t u first second = record {
  count = second.count;
  cursor = second.cursor;
  is = rw (second.is, first.is) (with_own_twice k s _ _ _ _);
}

pub moved_changes : (k : Component) (s : State) (i : ℕ) → ChangesOwn k s (with_cursor s i)
moved_changes k s i = record { count = own k s; cursor = i; is = sym (with_own_same k s i) }

pub taken_changes : (k : Component) (s : State) → ChangesOwn k s (taken k s)
taken_changes k s = grind (arith, cases_lt, next_count, taken_some, taken_none, moved_changes)

pub counted_changes : (k : Component) (s : State) → ChangesOwn k s (counted k s)
counted_changes k s = record { count = one_more (own k s); cursor = s.cursor; is = grind arith }

pub read_changes : (k : Component) (s : State)
    → ChangesOwn k s (cond (is_some (byte_at_place k s)) (past_place k s) (settled k s))
read_changes k s = grind (arith, moved_changes)

pub zeros_change : (k : Component) (s : State) → ChangesOwn k s (past_zeros_of k s)
zeros_change k s = record {
  count = saturating (own k s) (zeros_of k s);
  cursor = past_zeros (rule k s) s.buffer s.cursor (own k s);
  is = refl;
}

-- ---- one call of each, as the traits speak of it, and by the call table

-- what `try_read` leaves
abbrev read : Component → State → State
read k s = cond (is_some (byte_at_place k s)) (past_place k s) (settled k s)

abbrev ran : Component → State → State
ran k s =
    let five = Peek ∷ Next ∷ IncrementCount ∷ TryRead ∷ SkipZeros ∷ [] in
    (run_of s (map (λ call. (On k, call)) five)).state

read_is : (k : Component) (s : State) → IsState s → IsState (read k s)
read_is k s v = elim (cases_lt (place_of k s) (length s.buffer)) [
  | inl l ↦ rw (slice_get-get_or s.buffer (place_of k s) 0 l)
      ((iter_laws k).moved_valid s _ v (omega arith))
  | inr l ↦ rw (slice_get_past s.buffer (place_of k s) l) ((digit_laws k).settled_valid s v)
]

pub each_call_is : (k : Component) (s t : State) → IsState s →
    t ≡ after_zeros_in k (read k (counted k (taken k (settled k s))))
    → t ≡ ran k s
each_call_is k s t v e =
    let d = digit_laws k in
    e ∙ after_zeros_are k _
    (read_is k _ (d.counted_valid _ (d.taken_valid _ (d.settled_valid s v))))

-- and so they change nothing but the cursor and the own count
pub each_call_changes : (k : Component) (s t : State) → IsState s →
    t ≡ after_zeros_in k (read k (counted k (taken k (settled k s))))
    → ChangesOwn k s t
each_call_changes k s t v e =
    let a = settled k s in
    let b = taken k a in
    let c = counted k b in
    rw (each_call_is k s t v e)
    (changes_then k s a _ (moved_changes k s (place_of k s))
    (changes_then k a b _ (taken_changes k a)
    (changes_then k b c _ (counted_changes k b)
    (changes_then k c (read k c) _ (read_changes k c) (zeros_change k (read k c))))))

-- what they owe, by the zeros of the call table
pub each_call_owes : (k : Component) (s : State) (a b : ℤ) → IsState s →
    (let m = counted k (taken k (settled k s)) in
    let more = zeros (λ (m : State). m.buffer) (λ m. m.cursor) (place_of k) with_cursor (settled k)
    (counted k) (cond (is_some (byte_at_place k m)) (past_place k m) (settled k m)) in
    b ≤ℤ (a +ℤ pos (4 * (more + 4))))
    → b ≤ℤ (a +ℤ pos (4 * (zeros_of k (read k (counted k (taken k (settled k s)))) + 4)))
each_call_owes k s a b v owes =
    let d = digit_laws k in
    rw (zeros_are k _
    (read_is k _ (d.counted_valid _ (d.taken_valid _ (d.settled_valid s v))))) at owes

pub ruleset each_call = (each_call_is, each_call_changes, each_call_owes)
