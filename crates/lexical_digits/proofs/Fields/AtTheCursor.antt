-- Reading where the cursor stands: nothing is passed over there, and nothing scanned.
use Rattle.std.proofs.Common.{◌≡◌, ℕ, ◌+◌, ◌<◌, ◌≤◌, ◌≤ℤ◌, ◌&&◌, Bool, true, false, cond, Option, Some, None, [], refl, sym, ap, ◌∙◌, arith, slice_get, Bor, length}
use Rattle.lexical_digits.specs.Laws.Terms.{Component, Integer, Fraction, Exponent, Special, Rule, separator, is_digit, is_separator, IsSupported, State, with_cursor, rule, is_contiguous, own, with_own, counts, count_after, saturating, is_direct, has_no_flags, place_of, counted, separator_at, scans, Held, Costs, PeeksOf, NextsOf, NoLooks, SettlesOf, LooksHere, byte_at_place, owed, not-true, or_parts, and_parts, and_left, nat_tests, slice_get_within}
use Rattle.lexical_digits.specs.Laws.Table.{place_contiguous}
use Rattle.lexical_digits.proofs.Rule.Supported.{supported_rule}
use Rattle.lexical_digits.proofs.Rule.Runs.{separator_no_digit}
use Rattle.lexical_digits.proofs.Looks.WhereSeparatorsStand.{place_at_other}
use Rattle.lexical_digits.proofs.Looks.Owed.{costs_unscanned, separator_of, costs_then}
use Rattle.lexical_digits.proofs.Calls.NextTakesFirst.{takes_none, takes_some, with_own_same}

-- the place of a component is at the cursor, and no run is looked for there
pub record IsHere (k : Component) (a : Held) : Type 0 where
  pub place : place_of k a.state ≡ a.state.cursor
  pub unscanned : scans (rule k a.state) a.state.buffer a.state.cursor a.run ≡ false

pub here_contiguous : (k : Component) (a : Held) → is_contiguous k a.state.word ≡ true → IsHere k a
here_contiguous k a e =
    grind (arith, place_contiguous k a.state e a.holds.within, or_parts, not-true)

pub here_other : (k : Component) (a : Held)
    → separator_at (separator a.state.word) a.state.buffer a.state.cursor ≡ false → IsHere k a
unfolding place_of
here_other k a e =
    let other = rw (sym (separator_of k a.state.word)) at e in
    let supported = supported_rule a.state.word k a.holds.word in
    let place = place_at_other (rule k a.state) a.state.buffer supported a.state.cursor in
    grind (arith, place (own k a.state) other a.holds.within)

pub here_byte : (k : Component) (a : Held) (byte : ℕ)
    → Some byte ≡ slice_get a.state.buffer a.state.cursor
    → is_separator (separator a.state.word) byte ≡ false → IsHere k a
unfolding separator_at
here_byte k a byte e other = here_other k a (rw (sym e) other)

-- at the end nothing is left to be judged
pub here_end : (k : Component) (a : Held) → slice_get a.state.buffer a.state.cursor ≡ None
    → IsHere k a
unfolding separator_at
here_end k a e = here_other k a (rw e refl)

-- one look more or two, with a byte that is answered or without
costs_on : (k : Component) (a b : Held) (n : ℕ) → IsHere k a → b.run ≡ a.run
    → a.state.cursor ≤ b.state.cursor → b.looks ≡ saturating a.looks n → 1 ≤ n → n ≤ 2 → Costs k a b
costs_on k a b n here run l e low high =
    costs_unscanned k a b run l (grind (arith, nat_tests)) (omega (arith, e))
    (λ _. omega (arith, e)) (and_left _ _ here.unscanned)

costs_end : (k : Component) (a : Held) → slice_get a.state.buffer a.state.cursor ≡ None
    → Costs k a a
costs_end k a e = let here = here_end k a e in
    costs_unscanned k a a refl (omega arith) (grind arith) (omega arith)
    (λ _. omega arith) (and_left _ _ here.unscanned)

-- a digit is no separator
pub digit_apart : (rule : Rule) (byte : ℕ) → IsSupported rule → is_digit rule byte ≡ true
    → is_separator rule.separator byte ≡ false
digit_apart rule byte supported d = grind (arith, separator_no_digit rule [] supported byte)

-- where a byte is passed at once
pub here_direct : (k : Component) (a : Held) (byte : ℕ)
    → Some byte ≡ slice_get a.state.buffer a.state.cursor → is_direct (rule k a.state) byte ≡ true
    → IsHere k a
here_direct k a byte e p = here (is_contiguous k a.state.word) refl
  where
    here : (b : Bool) → is_contiguous k a.state.word ≡ b → IsHere k a
    here true f = here_contiguous k a f
    here false f =
        let supported = supported_rule a.state.word k a.holds.word in
        here_byte k a byte e (rw (sym (separator_of k a.state.word))
        (digit_apart (rule k a.state) byte supported (rw f at p)))

-- ---- where no component has a flag

contiguous_all : (k : Component) (word : ℕ) → has_no_flags word ≡ true → is_contiguous k word ≡ true
contiguous_all Integer word e = (and_parts _ _ (and_parts _ _ (and_parts _ _ e).0).0).0
contiguous_all Fraction word e = (and_parts _ _ (and_parts _ _ (and_parts _ _ e).0).0).1
contiguous_all Exponent word e = (and_parts _ _ (and_parts _ _ e).0).1
contiguous_all Special word e = (and_parts _ _ e).1

pub here_all : (k : Component) (a : Held) → has_no_flags a.state.word ≡ true → IsHere k a
here_all k a e = here_contiguous k a (contiguous_all k a.state.word e)

-- without a flag `next` counts nothing
pub counts_none : (k : Component) (word : ℕ) → has_no_flags word ≡ true → counts k word ≡ false
counts_none k word e = grind (arith, contiguous_all k word e)

-- a byte that is passed at once is counted if digits are
pub direct_counts : (k : Component) (s : State) (byte : ℕ) → is_direct (rule k s) byte ≡ true
    → counts k s.word ≡ (counts k s.word && is_digit (rule k s) byte)
direct_counts k s byte p = grind (arith, nat_tests, p)

-- a byte that is counted exactly if it is a digit that counts
pub stepped : (k : Component) (s : State) (byte i : ℕ) (b : Bool)
    → b ≡ (counts k s.word && is_digit (rule k s) byte)
    → with_cursor (cond b (counted k s) s) i
    ≡ with_cursor (with_own k s (count_after (rule k s) (counts k s.word) byte (own k s))) i
stepped k s byte i b e = grind (arith, with_own_same k s i)

-- ---- a read that stays

pub peeks_end : (k : Component) (a : Held) (answer : Option ℕ)
    → slice_get a.state.buffer a.state.cursor ≡ None → answer ≡ None → PeeksOf k a a answer
peeks_end k a answer none e = let here = (here_end k a none).place in
    record { byte = rw (here, none) e; settles = rw here refl; costs = costs_end k a none }

-- the cursor is at the place: only the look at the byte is left
pub settles_here : (k : Component) (a : Held) → IsHere k a → SettlesOf k a a
settles_here k a here = record {
  settles = rw here.place refl;
  costs = λ c state run more. costs_unscanned k a c run
      (omega (arith, ap (λ (s : State). s.cursor) state)) more.at_least
      (grind (arith, nat_tests, more.at_most)) (λ _. grind (arith, nat_tests, more.at_most))
      (and_left _ _ here.unscanned);
}

pub peeks_settled : (k : Component) (a m b : Held) (answer : Option ℕ) → SettlesOf k a m
    → LooksHere m b answer → PeeksOf k a b answer
peeks_settled k a m b answer way look =
    let byte : answer ≡ byte_at_place k a.state = rw way.settles at look.byte in record {
      byte = byte;
      settles = look.state ∙ way.settles;
      costs = way.costs b look.state look.run (rw byte at look.looks);
    }

-- ---- a read that takes the byte

pub yields_end : (k : Component) (a : Held) (result : Option (Bor ℕ))
    → slice_get a.state.buffer a.state.cursor ≡ None → result ≡ None → NextsOf k a a result
yields_end k a result none e = let here = (here_end k a none).place in record {
  takes = rw e (takes_none k a.state a.state a.holds (rw here (sym none)) (rw here refl));
  costs = costs_end k a none;
}

-- the byte at the cursor, by two looks
module _ (k : Component) (a b : Held) (item : Bor ℕ) (here : IsHere k a)
    (at : Some item.now ≡ slice_get a.state.buffer a.state.cursor)
    (run : b.run ≡ a.run) (looks : b.looks ≡ saturating a.looks 2) where
  -- counted or not
  pub yields_by : (t : Bool) → t ≡ (counts k a.state.word && is_digit (rule k a.state) item.now)
      → b.state ≡ with_cursor (cond t (counted k a.state) a.state) (a.state.cursor + 1)
      → NextsOf k a b (Some item)
  yields_by t e left = let moved = ap (λ (s : State). s.cursor) left in record {
    takes = takes_some k a.state a.state b.state item a.holds (rw here.place at)
        (rw here.place refl) (left ∙ stepped k a.state item.now (a.state.cursor + 1) t e);
    costs = costs_on k a b 2 here run (omega (arith, moved)) looks (omega arith) (omega arith);
  }

-- ---- a read that arrived at its place

-- and found a byte
module _ (k : Component) (a m : Held) (item : Bor ℕ) (peeks : PeeksOf k a m (Some item.now)) where
  pub arrived : m.state.cursor < length m.state.buffer
  arrived = rw peeks.settles
      (slice_get_within a.state.buffer (place_of k a.state) item.now (sym peeks.byte))

  -- which it steps past, counted or not
  pub steps_past : (b : Held) (t : Bool)
      → t ≡ (counts k a.state.word && is_digit (rule k a.state) item.now)
      → b.state ≡ with_cursor (cond t (counted k m.state) m.state) (m.state.cursor + 1)
      → NoLooks m b → owed b ≤ℤ owed m → NextsOf k a b (Some item)
  steps_past b t e left no_looks owes = record {
    takes = takes_some k a.state m.state b.state item a.holds peeks.byte peeks.settles
        (left ∙ stepped k m.state item.now (m.state.cursor + 1) t (rw peeks.settles e));
    costs = costs_then k a m b peeks.costs no_looks owes;
  }

-- and found none
pub nexts_none : (k : Component) (a b : Held) → PeeksOf k a b None → NextsOf k a b None
nexts_none k a b peeks = record {
  takes = takes_none k a.state b.state a.holds peeks.byte peeks.settles;
  costs = peeks.costs;
}

-- ---- a read from m, before which only the reader changed

module _ (k : Component) (a m b : Held) (same : m.state ≡ a.state) (no_looks : NoLooks a m) where
  pub costs_switched : Costs k m b → Costs k a b
  costs_switched costs = record {
    owes = rw (← same, ← no_looks.run, ← no_looks.looks) costs.owes;
    at_least = rw (← same, ← no_looks.run, ← no_looks.looks) costs.at_least;
    at_most = rw (← same, ← no_looks.run, ← no_looks.looks) costs.at_most;
    unscanned = rw (← same, ← no_looks.run) costs.unscanned;
    needed = rw (← same, ← no_looks.run) costs.needed;
    allowed = rw (← same, ← no_looks.run) costs.allowed;
    without_separator = rw (← same, ← no_looks.looks) costs.without_separator;
  }

  pub nexts_switched : (result : Option (Bor ℕ)) → NextsOf k m b result → NextsOf k a b result
  nexts_switched result nexts = grind (arith, nexts, same, costs_switched)

pub settles_switched : (k : Component) (a m b : Held) → m.state ≡ a.state → NoLooks a m
    → SettlesOf k m b → SettlesOf k a b
settles_switched k a m b same no_looks way = record {
  settles = rw same at way.settles;
  costs = λ c state run more.
      costs_switched k a m c same no_looks (way.costs c state run (rw (sym same) at more));
}

pub ruleset after_switch = (nexts_switched)
