-- Rows of the call table, as the script makes them.
use Rattle.std.proofs.Common.{Bool, false, cond, subst, [], ◌++◌, ◌≤◌, append_assoc, ◌≡◌, ℕ, ◌+◌, ◌*◌, true, refl, arith, ap, sym, ℤ, pos, ◌≤ℤ◌, ◌+ℤ◌, length, ◌∙◌, ◌<◌, List, ◌∷◌, drop, get_or, add-one, drop-cons}
use Rattle.std.proofs.Math.Nat.{mul-add}
use Rattle.std.proofs.lemmas.Int.{ints}
use Rattle.lexical_digits.specs.declared.skip.component.Component.{Component}
use Rattle.lexical_format.specs.Word.{separator}
use Rattle.lexical_digits.specs.Separators.{is_digit, is_separator}
use Rattle.lexical_digits.specs.Cursor.{zeros, after_zeros}
use Rattle.lexical_digits.specs.State.{State, IsState, with_cursor, is_contiguous, current_count, rule, cut_end}
use Rattle.lexical_digits.specs.Laws.Table.{taken_buffer, with_own_buffer}
use Rattle.lexical_digits.specs.CallTable.{Part, OnBytes, after_view, row, row_of, run_of, shared_row, contiguous_on, count_on, place_of, settled, counted, taken, zeros_of, past_zeros_of}
use Rattle.lexical_digits.specs.declared.ops.Op.{Op}
use Rattle.lexical_digits.specs.declared.ops.Answer.{Answer}
use Rattle.lexical_digits.specs.declared.ops.Answer.TheVariants.{Refused}
use Rattle.lexical_digits.specs.Looks.{Held, owed}
use Rattle.lexical_digits.proofs.Looks.Owed.{looks_within}
use Rattle.lexical_digits.proofs.Calls.ItemsOfComponents.{zeros_are, after_zeros_are}
use Rattle.digit_script.specs.declared.Call as script
use Rattle.digit_script.specs.Script.{asks, moves, part_of, script_of, reads, set_backs, Shows, IsOn, Obeys, Makes, reads_of, set_backs_of}

-- what every part has, the iterators have from the rows of every part
asked_row : (part : Part) (call : Op) (s : State) → asks call ≡ true
    → row_of part call s ≡ shared_row part call s
asked_row part call s e = grind arith

asked_same : (part : Part) (call : Op) (s : State) → asks call ≡ true
    → (shared_row part call s).state ≡ s
asked_same part call s e = grind arith

-- a call that asks leaves what it finds
pub asked : (part : Part) (call : Op) (s : State) (owing : ℤ) (result : Answer) →
    asks call ≡ true → result ≡ (shared_row part call s).answer →
    Obeys part call s s owing owing result
asked part call s owing result e h = record {
  answers = h ∙ ap (λ r. r.answer) (sym (asked_row part call s e));
  leaves = sym (asked_same part call s e) ∙ ap (λ r. r.state) (sym (asked_row part call s e));
  owes = omega (arith, ints);
}

refused_row : (call : Op) (s : State) → asks call ≡ false → moves call ≡ false
    → shared_row OnBytes call s ≡ row Refused s
refused_row call s e h = grind arith

-- a `Bytes` has no other calls but the moves
pub asked_or_refused : (call : Op) (a : Held) (result : Answer) → moves call ≡ false
    → (asks call ≡ true → result ≡ (shared_row OnBytes call a.state).answer)
    → (asks call ≡ false → result ≡ Refused)
    → Makes OnBytes call a a result
asked_or_refused call a result h if_asked if_not = here (asks call) refl
  where
    here : (b : Bool) → asks call ≡ b → Makes OnBytes call a a result
    here true e = asked OnBytes call a.state (owed a) result e (if_asked e)
    here false e = record {
      answers = if_not e ∙ ap (λ r. r.answer) (sym (refused_row call a.state e h));
      leaves = ap (λ r. r.state) (sym (refused_row call a.state e h));
      owes = omega (arith, ints);
    }

-- the zeros of a component, in words of the state
pub zeros_lead : (k : Component) (s : State) → IsState s
    → zeros (λ (m : State). m.buffer) (λ m. m.cursor) (place_of k) with_cursor (settled k)
    (counted k) s ≡ zeros_of k s
zeros_lead = zeros_are

pub after_zeros_lead : (k : Component) (s : State) → IsState s
    → after_zeros (λ (m : State). m.buffer) (λ m. m.cursor) (place_of k) with_cursor (settled k)
    (counted k) s ≡ past_zeros_of k s
after_zeros_lead = after_zeros_are

pub ruleset leading_zeros = (zeros_lead, after_zeros_lead)

-- no call changes the buffer
view_buffer : (k : Component) (s : State) (n : ℕ) → (after_view k s n).buffer ≡ s.buffer
unfolding after_view
view_buffer k s n = here (is_contiguous k s.word)
  where
    here : (b : Bool) → (cond b (with_cursor s (cut_end s n)) s).buffer ≡ s.buffer
    here true = refl
    here false = refl

row_buffer : (part : Part) (call : Op) (s : State) → (row_of part call s).state.buffer ≡ s.buffer
row_buffer part call s = grind (arith, taken_buffer, with_own_buffer, view_buffer)

-- In the middle of a list: the answers so far, followed by those of the rest of the calls, are all
-- the answers; what is owed now and what the rest may add is at most what was owed and what all the
-- calls may add.
pub record Continues (first : Held) (all : List (Part × Op)) (now : Held)
    (left : List (Part × Op)) (made : List Answer) : Type 0 where
  pub answers : made ++ (run_of now.state left).answers
      ≡ (run_of first.state all).answers
  pub state : (run_of now.state left).state ≡ (run_of first.state all).state
  pub buffer : now.state.buffer ≡ first.state.buffer
  pub owes : (owed now +ℤ pos
      (4 * reads_of now.state left + 3 * (length first.state.buffer * set_backs_of now.state left)))
      ≤ℤ (owed first +ℤ pos
      (4 * reads_of first.state all + 3 *
      (length first.state.buffer * set_backs_of first.state all)))

one_more : (first a b : Held) (all rest : List (Part × Op)) (call : Part × Op)
    (made : List Answer) (answer : Answer)
    → Continues first all a (call ∷ rest) made → Makes call.0 call.1 a b answer
    → Continues first all b rest (made ++ answer ∷ [])
one_more first a b all rest call made answer so_far makes =
    let s = a.state in
    let n = length first.state.buffer in
    let left = (row_of call.0 call.1 s).state in
    let to_read : reads_of b.state rest ≡ reads_of left rest =
    ap (λ t. reads_of t rest) makes.leaves in
    let to_set : n * set_backs_of b.state rest ≡ n * set_backs_of left rest =
    ap (λ t. n * set_backs_of t rest) makes.leaves in
    let both : n * (set_backs call.1 s + set_backs_of left rest)
    ≡ n * set_backs call.1 s + n * set_backs_of left rest = mul-add n (set_backs call.1 s)
    (set_backs_of left rest) in
    let owes : owed b ≤ℤ (owed a +ℤ pos
    (4 * reads call.0 call.1 s + 3 * (n * set_backs call.1 s))) =
    subst (λ m. owed b ≤ℤ
    (owed a +ℤ pos (4 * reads call.0 call.1 s + 3 * (m * set_backs call.1 s))))
    (ap length so_far.buffer) makes.owes in
    record {
      answers = rw (append_assoc, makes.answers, makes.leaves) so_far.answers;
      state = rw makes.leaves so_far.state;
      buffer = ap (λ t. t.buffer) makes.leaves ∙ row_buffer call.0 call.1 s ∙ so_far.buffer;
      owes = omega (arith, ints, so_far.owes, owes, to_read, to_set, both);
    }

next_left : (calls : List script.Call) (i : ℕ) (d : script.Call) → i < length calls
    → script_of (drop i calls)
    ≡ (part_of (get_or calls i d).part, (get_or calls i d).op) ∷ script_of
    (drop (i + 1) calls)
next_left calls i d h = rw (add-one, drop-cons calls i d h) refl

-- and so after one call more
pub continues : (first a b : Held) (calls : List script.Call) (i : ℕ) (d : script.Call)
    (made : List Answer) (answer : Answer) → i < length calls
    → Continues first (script_of calls) a (script_of (drop i calls)) made
    → Makes (part_of (get_or calls i d).part) (get_or calls i d).op a b answer
    → Continues first (script_of calls) b (script_of (drop (i + 1) calls)) (made ++ answer ∷ [])
continues first a b calls i d made answer h so_far makes =
    one_more first a b (script_of calls) (script_of (drop (i + 1) calls))
    (part_of (get_or calls i d).part, (get_or calls i d).op) made answer
    (rw (next_left calls i d h) at so_far) makes

-- after the last call
pub looks_at_most : (first now : Held) (all left : List (Part × Op)) (made : List Answer)
    → Continues first all now left made
    → now.looks ≤ first.looks + 4 * reads_of first.state all + 3 *
    (length first.state.buffer * (set_backs_of first.state all + 1))
looks_at_most first now all left made so_far =
    let n = length first.state.buffer in
    let more = 4 * reads_of first.state all + 3 * (n * set_backs_of first.state all) in
    let both : n * (set_backs_of first.state all + 1)
    ≡ n * set_backs_of first.state all + n * 1 = mul-add n (set_backs_of first.state all) 1 in
    let same = ap length so_far.buffer in
    omega (
      arith,
      looks_within first now more same (omega (arith, ints, so_far.owes)),
      both,
    )

pub owes_at_most : (first now : Held) (all : List (Part × Op)) (made : List Answer)
    → Continues first all now [] made
    → owed now ≤ℤ (owed first +ℤ pos (4 * reads_of first.state all + 3 *
    (length first.state.buffer * set_backs_of first.state all)))
owes_at_most first now all made so_far = omega (arith, ints, so_far.owes)

-- a part shows itself
pub shows_itself : (part : Part) (s : State) →
    Shows part s s.buffer s.cursor (count_on part s) (contiguous_on part s)
shows_itself part s = record {
  same_buffer = refl;
  same_cursor = refl;
  same_count = refl;
  same_contiguous = refl;
}

-- the meanings of the iterators over a `Bytes` are states
pub is_on : (k : Component) (s : State) →
    IsOn k (λ m. m) (λ m. m.buffer) (λ m. m.cursor) (current_count k) (λ m. is_contiguous k m.word)
    (λ m b. is_separator (separator m.word) b) with_cursor (place_of k)
    (λ m b. is_digit (rule k m) b)
    (settled k) (counted k) (taken k) s
is_on k s = record {
  shows =
      record { same_buffer = refl; same_cursor = refl; same_count = refl; same_contiguous = refl };
  same_stop = refl;
  same_place = refl;
  same_digit = λ b. refl;
  moves = λ i. refl;
  settles = refl;
  passes = refl;
  counts = refl;
  takes = refl;
}
