-- For a caller's own loops by `next_of` and `peek_of`: what one more call does to drain and stop.
use Rattle.std.proofs.Common.{◌≡◌, ℕ, ◌+◌, ◌*◌, true, false, cond, Bool, ◌∷◌, sym, ap, ◌∙◌, arith, Option, Some, None, Bor, option_copied, sum_by, count_by, ℤ, pos, ◌≤ℤ◌, ◌+ℤ◌}
use Rattle.lexical_digits.specs.Laws.Terms.{list_any, ints, sum_by-cons, gets, Component, is_digit, State, rule, byte_at_place, taken, drain_of, Takes, Held, PeeksOf, NextsOf, stop_of}
use Rattle.lexical_digits.specs.Laws.Table.{digit_laws, taken_buffer, taken_word}
use Rattle.lexical_digits.proofs.Calls.ForCallers.{drain_fits}
use Rattle.lexical_digits.proofs.Calls.NextTakesFirst.{drain_some}
use Rattle.lexical_digits.proofs.Calls.DigitAtPlace.{digit_there, none_there}

-- one more read after n reads: `first` is owed before the loop, `now` before the read, `next` after
pub owes_next : (first now next : ℤ) (n : ℕ) → now ≤ℤ (first +ℤ pos (4 * n))
    → next ≤ℤ (now +ℤ pos 4) → next ≤ℤ (first +ℤ pos (4 * (n + 1)))
owes_next first now next n before read = omega (arith, ints, before, read)

-- a byte is taken that fails a test: whether a byte passes is up to the bytes after it
pub any_after : (p : ℕ → Bool) (k : Component) (s t : State) (r : Option (Bor ℕ)) (item : Bor ℕ)
    → Takes k s t r → r ≡ Some item → p item.now ≡ false
    → list_any p (drain_of k t) ≡ list_any p (drain_of k s)
any_after p k s t r item h e fails = grind (arith, h)

-- what a byte that is taken adds to a sum, or to a count
pub sum_after : (f : ℕ → ℕ) (k : Component) (s t : State) (r : Option (Bor ℕ)) (item : Bor ℕ)
    → Takes k s t r → r ≡ Some item
    → sum_by f (drain_of k s) ≡ f item.now + sum_by f (drain_of k t)
sum_after f k s t r item h e = grind (arith, h, sum_by-cons {X = ℕ})

pub count_after : (p : ℕ → Bool) (k : Component) (s t : State) (r : Option (Bor ℕ)) (item : Bor ℕ)
    → Takes k s t r → r ≡ Some item
    → count_by p (drain_of k s) ≡ cond (p item.now) 1 0 + count_by p (drain_of k t)
count_after p = sum_after (λ x. cond (p x) 1 0)

-- the word stays
pub word_after : (k : Component) (s t : State) (r : Option (Bor ℕ)) → Takes k s t r
    → t.word ≡ s.word
word_after k s t r h = rw h.takes (taken_word k s)

-- ---- where the digits end

-- what a digit that was peeked at and then taken leaves
pub record Passed (k : Component) (s t : State) (byte : ℕ) : Type 0 where
  pub drain : drain_of k s ≡ byte ∷ drain_of k t
  pub stop : stop_of k t ≡ stop_of k s
  pub word : t.word ≡ s.word
  pub buffer : t.buffer ≡ s.buffer

module _ (k : Component) {a b : Held} {r : Option (Bor ℕ)} (peeks : PeeksOf k a b (option_copied r))
  where
    pub passed : {c : Held} {q : Option (Bor ℕ)} {item : Bor ℕ} → r ≡ Some item
        → is_digit (rule k b.state) item.now ≡ true → NextsOf k b c q
        → Passed k a.state c.state item.now
    passed {c} {q} {item} e is takes =
        let there : Some item.now ≡ byte_at_place k a.state = rw e at peeks.byte in
        let same : is_digit (rule k a.state) item.now ≡ true = rw peeks.settles at is in
        let d = digit_there k a.state (rw (sym there) same) in
        let left : c.state ≡ taken k a.state =
        takes.takes.takes ∙ ap (taken k) peeks.settles
        ∙ (digit_laws k).settled_taken a.state a.holds in
        rw left (record {
          drain = grind (arith, gets, drain_some k a.state d.within);
          stop = sym d.stop;
          word = taken_word k a.state;
          buffer = taken_buffer k a.state;
        })

    -- the cursor is at the stop where another byte was peeked at, or none
    pub stops_other : {item : Bor ℕ} → r ≡ Some item → is_digit (rule k b.state) item.now ≡ false
        → b.state.cursor ≡ stop_of k a.state
    stops_other {item} e is = grind (arith, peeks, none_there k a.state)

    pub stops_none : r ≡ None → b.state.cursor ≡ stop_of k a.state
    stops_none e = grind (arith, peeks, none_there k a.state)

-- one turn of a loop by `next_of` that counts
pub ruleset counts = (count_after, word_after)

pub ruleset drains = (drain_fits, owes_next)
