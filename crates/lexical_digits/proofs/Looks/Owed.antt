-- What a read owes: a run that it scans lies behind what was scanned before.
use Rattle.std.proofs.Common.{◌&&◌, ap, ◌≡◌, ℕ, ◌+◌, ◌-◌, ◌^◌, ◌≤◌, min, Bool, true, false, not, ltb, Option, Some, None, List, length, refl, sym, ◌∙◌, arith, pos, ◌≤ℤ◌, ◌+ℤ◌, ◌*◌, is_some}
use Rattle.std.proofs.Math.Bool.{and-not_self}
use Rattle.lexical_digits.specs.Laws.Terms.{Component, separator, State, rule, rule_of, own, saturating, byte_at_place, settled, separator_at, IsRunOrNone, run_holds, run_length, scans, Finds, one_if, far, owed_by, Held, owed, Costs, NoLooks, Remembers, has_scanned, needs_run, FollowsDigit, SettlesOf, LooksBetween, not-true, false≢true, and_left, and_parts, nat_tests, ints}
use Rattle.lexical_digits.specs.declared.skip.decision.Run.{Run}
use Rattle.lexical_digits.specs.Laws.Table.{place_from}

-- all components have the separator of the word
pub separator_of : (k : Component) (word : ℕ) → (rule_of word k).separator ≡ separator word
separator_of k word = grind arith

-- a cursor that moves on owes no more
pub owed_onward : (run : Option Run) (looks c d : ℕ) → c ≤ d
    → owed_by run d looks ≤ℤ owed_by run c looks
owed_onward None looks c d l = omega (arith, ints)
owed_onward (Some run) looks c d l = grind (arith, ints, nat_tests)

-- nor more than the looks that were counted on the way
pub owed_read : (run : Option Run) (looks more c d : ℕ) → c ≤ d
    → owed_by run d (saturating looks more) ≤ℤ (owed_by run c looks +ℤ pos more)
owed_read run looks more c d l =
    omega (arith, ints, owed_onward run (saturating looks more) c d l)

module _ (separator : ℕ) (buffer : List ℕ) where
  far_within : (run : Option Run) (c : ℕ) → Remembers separator buffer run
      → far run c ≤ length buffer
  far_within None c h = omega arith
  far_within (Some run) c h = grind (arith, nat_tests, (h run refl).within)

  -- a run that had to be looked for lies behind the one that was remembered
  far_scanned : (old new : Option Run) (at cursor : ℕ) → Remembers separator buffer old
      → IsRunOrNone separator buffer new → run_holds old at ≡ false → run_holds new at ≡ true
      → at ≤ cursor → far old at + run_length new ≤ far new cursor
  far_scanned old None at cursor p q misses holds l = absurd (false≢true holds)
  far_scanned None (Some r) at cursor p q misses holds l = grind (arith, nat_tests, q.some)
  far_scanned (Some o) (Some r) at cursor p q misses holds l =
      grind (arith, nat_tests, (p o refl).behind, q.all o.to)

-- what is owed bounds the looks
pub looks_within : (a b : Held) (more : ℕ) → length b.state.buffer ≡ length a.state.buffer
    → owed b ≤ℤ (owed a +ℤ pos more) → b.looks ≤ a.looks + more + 3 * length a.state.buffer
looks_within a b more same owes =
    let word = separator b.state.word in
    let most = far_within word b.state.buffer b.run b.state.cursor b.remembers in
    omega (arith, ints, owes, same, most)

-- a cursor that is set back owes at most three more for each byte
pub owed_back : (byte : ℕ) (buffer : List ℕ) (run : Option Run) (looks c d : ℕ)
    → Remembers byte buffer run
    → owed_by run d looks ≤ℤ (owed_by run c looks +ℤ pos (3 * length buffer))
owed_back byte buffer run looks c d h = omega (arith, ints, far_within byte buffer run c h)

-- a read that looks for no run, since it needs none
pub costs_unscanned : (k : Component) (a b : Held) → b.run ≡ a.run → a.state.cursor ≤ b.state.cursor
    → min (a.looks + one_if (is_some (byte_at_place k a.state))) (2 ^ 64 - 1) ≤ b.looks
    → b.looks ≤ a.looks + 4
    → (separator_at (separator a.state.word) a.state.buffer a.state.cursor ≡ false
    → b.looks ≤ a.looks + 2)
    → needs_run k a ≡ false → Costs k a b
costs_unscanned k a b run l least most other free = record {
  owes = rw run
      (omega (arith, ints, most, owed_onward a.run a.looks a.state.cursor b.state.cursor l));
  at_least = rw none (omega (arith, least));
  at_most = rw none (omega (arith, most));
  unscanned = λ _. run;
  needed = λ e. absurd (false≢true (sym free ∙ e));
  allowed = λ e. absurd (false≢true (sym none ∙ e));
  without_separator = other;
}
  where
    none : has_scanned a b ≡ false
    none = rw run (and-not_self (run_holds a.run a.state.cursor))

-- a read that arrives at its place, by a decision asked after a look at the next byte or none
pub arrives : (k : Component) (a b : Held) (saw_next : Bool) (seen : ℕ)
    → (saw_next ≡ true → FollowsDigit k a.state) → b.state ≡ settled k a.state
    → Finds (2 + one_if (not (ltb 0 (own k a.state)))) (rule k a.state) a.state.buffer
    a.state.cursor a.run b.run seen
    → b.looks ≡ saturating a.looks (saturating seen (one_if saw_next))
    → SettlesOf k a b
arrives k a b saw_next seen follows e saw looks = record {
  settles = e;
  costs = λ c state run more.
      here c state run more (scans (rule k a.state) a.state.buffer a.state.cursor a.run) refl;
}
  where
    answered : ℕ
    answered = one_if (is_some (byte_at_place k a.state))

    one : one_if saw_next + one_if (not (ltb 0 (own k a.state))) ≤ 1
    one = grind (arith, nat_tests, follows)

    few : answered ≤ 1
    few = grind (arith, nat_tests)

    other : (c : Held) → LooksBetween b.looks answered answered c.looks
        → separator_at (separator a.state.word) a.state.buffer a.state.cursor ≡ false
        → c.looks ≤ a.looks + 2
    other c more f =
        let none : one_if saw_next ≡ 0 = grind (arith, follows, f) in
        let found : seen ≤ 1 = saw.without_separator (rw separator_of f) in
        omega (arith, more.at_most, looks, few, none, found)

    onward : (c : Held) → c.state ≡ b.state → a.state.cursor ≤ c.state.cursor
    onward c state =
        omega (arith, ap (λ (s : State). s.cursor) (state ∙ e), place_from k a.state a.holds.within)

    here : (c : Held) → c.state ≡ b.state → c.run ≡ b.run
        → LooksBetween b.looks answered answered c.looks
        → (t : Bool) → scans (rule k a.state) a.state.buffer a.state.cursor a.run ≡ t → Costs k a c
    here c state run more false free =
        costs_unscanned k a c (run ∙ saw.unscanned_run free) (onward c state)
        (omega (arith, more.at_least, looks))
        (omega (arith, more.at_most, looks, saw.unscanned_looks free, one, few)) (other c more)
        (and_left _ _ free)
    here c state run more true some =
        let found = saw.scanned_looks some in
        let separates = separator_at (rule k a.state).separator a.state.buffer a.state.cursor in
        let no : run_holds a.run a.state.cursor ≡ false =
        not-true _ (and_parts ((rule k a.state).consecutive && separates) _ some).1 in
        let holds : run_holds c.run a.state.cursor ≡ true = rw run (saw.scanned_run some) in
        let has : has_scanned a c ≡ true = rw (holds, no) refl in
        let is_run = rw (sym run) at saw.is_run in
        let rises = far_scanned (rule k a.state).separator a.state.buffer a.run c.run a.state.cursor
        c.state.cursor (rw separator_of a.remembers) is_run no holds (onward c state) in
        let low = rw (sym run) at found.at_least in
        let high = rw (sym run) at found.at_most in
        record {
          owes = omega (arith, ints, more.at_most, looks, high, rises, one, few);
          at_least = rw has (omega (arith, more.at_least, looks, low));
          at_most = rw has (omega (arith, more.at_most, looks, high, one, few));
          unscanned = λ f. absurd (false≢true (sym f ∙ has));
          needed = λ _. has;
          allowed = λ _. some;
          without_separator = other c more;
        }

-- a step after a read costs nothing
pub costs_then : (k : Component) (a m b : Held) → Costs k a m → NoLooks m b → owed b ≤ℤ owed m
    → Costs k a b
costs_then k a m b costs no_looks owes = grind (arith, ints, costs, no_looks)

pub ruleset owed_by_moves = (owed_onward, owed_back)
