-- What the cursor carries: state, looks and reader of a `Bytes` where its fields change.
use Rattle.std.proofs.Common.{rules, ◌≡◌, ℕ, ◌+◌, ◌<◌, ◌≤◌, Bool, true, cond, List, length, arith, ◌≤ℤ◌, Option}
use Rattle.lexical_digits.specs.Laws.Terms.{Component, Rule, Tally, Shortcuts, Inside, separator, State, IsState, with_cursor, with_own, with_no_counts, rule_of, counts, own, counted, counted_by, saturating, Remembers, owed_by, count_of, integer_of, fraction_of, exponent_of, state_of, looks_of, Leaves, AreShortcuts, IsInner, has_no_flags, IsReading}
use Rattle.lexical_digits.specs.declared.skip.decision.Run.{Run}
use Rattle.lexical_digits.specs.Laws.Table.{with_own_buffer, with_own_is, own_fits}
use Rattle.lexical_digits.proofs.Looks.Owed.{owed_onward}

pub state_moved : (s : State) (i : ℕ) → IsState s → i ≤ length s.buffer → IsState (with_cursor s i)
state_moved s i v l = search rules

pub state_counted : (n : ℕ) (k : Component) (s : State) → IsState s → IsState (counted_by n k s)
state_counted n k s v = with_own_is k s (saturating (own k s) n) v (omega arith)

pub state_cleared : (s : State) → IsState s → IsState (with_no_counts s)
state_cleared s v = search rules

-- a byte passed, and then counted
pub counted_after : (k : Component) (s m t : State) (i : ℕ) → m ≡ with_cursor s i
    → t ≡ counted k m → t ≡ with_cursor (counted k s) i
counted_after k s m t i e f = grind arith

-- a byte further, which is counted or not
pub state_passed : (k : Component) (b : Bool) (s : State) → IsState s → s.cursor < length s.buffer
    → IsState (with_cursor (cond b (counted k s) s) (s.cursor + 1))
state_passed k b s v l = grind (arith, state_moved, state_counted, with_own_buffer)

-- digits that were read on the way to a position, which are counted or not
pub state_read : (k : Component) (b : Bool) (n m i : ℕ) (s : State) → IsState s → m ≡ cond b n 0
    → with_cursor (counted_by m k s) i
    ≡ with_cursor (with_own k s (cond b (saturating (own k s) n) (own k s))) i
state_read k b n m i s v e = grind (arith, own_fits k s v)

pub state_read_is : (k : Component) (n i : ℕ) (s : State) → IsState s → i ≤ length s.buffer
    → IsState (with_cursor (counted_by n k s) i)
state_read_is k n i s v l = grind (arith, state_moved, state_counted, with_own_buffer)

-- the count that a tally answers
pub own_counted : (k : Component) (buffer : List ℕ) (word : ℕ) (t : Tally)
    → own k (state_of buffer word t) ≡ count_of k t
own_counted k buffer word t = grind arith

-- ---- what a step leaves

-- the ghost fields of a `Bytes` with another tally
abbrev Carries : Inside → Tally → Option Run → Type 0
Carries b u run =
    IsState (state_of b.slc.now b.format u)
    × ((b.has_no_flags ≡ has_no_flags b.format)
    × (IsReading b.format u.reader u.is_counting b.rule b.shortcuts
    × (Remembers (separator b.format) b.slc.now run × Unit {0})))

-- a step more from a tally that carries them
module _ (b : Inside) {t u : Tally} {step : State → State} {i n : ℕ}
    (steps : Leaves t u step i n) where
  pub carried_on : Carries b t b.run → IsState (step (state_of b.slc.now b.format t))
      → Carries b u b.run
  carried_on h v = (
    rw (steps.state b.slc.now b.format) v,
    (h.1.0, (rw (steps.reader, steps.is_counting) h.1.1.0, h.1.1.1)),
  )

-- the ghost fields of a `Bytes` whose tally made a step, and what it owes
module _ (b : Inside) {u : Tally} {step : State → State} {i n : ℕ}
    (steps : Leaves b.tally u step i n) where
  pub carried : IsState (step (state_of b.slc.now b.format b.tally)) → Carries b u b.run
  carried = carried_on b steps (b.holds, (b.flags, (b.reading, (b.remembers, tt))))

  pub owes_no_more : n ≡ looks_of b.tally → b.tally.index ≤ i
      → owed_by b.run u.index (looks_of u) ≤ℤ owed_by b.run b.tally.index (looks_of b.tally)
  owes_no_more e l = rw (steps.looks, e)
      (owed_onward b.run (looks_of b.tally) b.tally.index u.index
      (omega (arith, l, steps.index)))

-- the same with another run
pub remembered : (b : Inside) (u : Tally) (run : Option Run) → Carries b u b.run
    → Remembers (separator b.format) b.slc.now run → Carries b u run
remembered b u run h r = (h.0, (h.1.0, (h.1.1.0, (r, tt))))

-- what a component that takes over reads by
pub reading_of : (k q : Component) (word : ℕ) (t u : Bool) (r : Rule) (s : Shortcuts)
    → r ≡ rule_of word k → t ≡ counts k word → AreShortcuts r s
    → (s.inner_separator < 256 → IsInner r t s.inner_separator) → q ≡ k → u ≡ t
    → IsReading word q u r s
reading_of k q word t u r s same counting direct inner e f =
    rw (e, f) (record { counting = counting; rule = same; direct = direct; inner = inner })

-- ---- where bytes were passed since `counted_from`, something was counted

pub counted_since : (buffer : List ℕ) (word : ℕ) (t : Tally) (k : Component) → t.reader ≡ k
    → t.is_counting ≡ counts k word → t.is_counting ≡ true → t.counted_from < t.index
    → 0 < own k (state_of buffer word t)
unfolding integer_of fraction_of exponent_of
counted_since buffer word t k e f g l = grind arith
