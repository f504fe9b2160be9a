-- Remembered runs of separators, and what looking at bytes costs.
use Rattle.std.specs.Prelude.{◌≡◌, ⊤, ℕ, zero, suc, ◌+◌, ◌-◌, ◌*◌, ◌^◌, ◌<◌, ◌≤◌, min, Bool, true, false, not, ◌&&◌, ◌||◌, if◌then◌else◌, nat_lt, nat_le, Option, Some, None, is_some, List, length, slice_get, ℤ, pos, ◌-ℤ◌, ◌+ℤ◌, ◌≤ℤ◌}
use Rattle.std.specs.Option.{option_map_or}
use Rattle.std.specs.Borrow.{Bor}
use Rattle.lexical_digits.specs.declared.skip.rule.Rule.{Rule}
use Rattle.lexical_digits.specs.declared.skip.decision.Run.{Run}
use Rattle.lexical_digits.specs.declared.skip.component.Component.{Component}
use Rattle.lexical_digits.specs.Separators.{class, is_separator, left_side, right_side, is_kept, place}
use Rattle.lexical_digits.specs.State.{State, IsState, rule, own}
use Rattle.lexical_format.specs.Word.{separator}
use Rattle.lexical_digits.specs.CallTable.{byte_at_place, settled, Takes}

-- ---- a remembered run

-- whether a position holds that separator, whatever the digits are
unfoldable pub separator_at : ℕ → List ℕ → ℕ → Bool
separator_at separator buffer q = option_map_or (is_separator separator) (slice_get buffer q) false

-- a maximal run: separators stand at from..to, at least one, with none before and none behind them
pub record IsRun (separator : ℕ) (buffer : List ℕ) (from to : ℕ) : Type 0 where
  pub some : from < to
  pub within : to ≤ length buffer
  pub all : (k : ℕ) → from ≤ k → k < to → separator_at separator buffer k ≡ true
  pub before : (k : ℕ) → k + 1 ≡ from → separator_at separator buffer k ≡ false
  pub behind : separator_at separator buffer to ≡ false

abbrev pub IsRunOrNone : ℕ → List ℕ → Option Run → Type 0
IsRunOrNone separator buffer None = ⊤
IsRunOrNone separator buffer (Some run) = IsRun separator buffer run.from run.to

-- what is remembered is a maximal run, if anything is
abbrev pub Remembers : ℕ → List ℕ → Option Run → Type 0
Remembers separator buffer run = (r : Run) → run ≡ Some r → IsRun separator buffer r.from r.to

-- whether a position is in the run
abbrev pub run_holds : Option Run → ℕ → Bool
run_holds None at = false
run_holds (Some run) at = nat_le run.from at && nat_lt at run.to

-- how many separators a run has
abbrev pub run_length : Option Run → ℕ
run_length None = 0
run_length (Some run) = run.to - run.from

-- whether the run of a position has to be looked for
abbrev pub scans : Rule → List ℕ → ℕ → Option Run → Bool
scans rule buffer at run =
    rule.consecutive && separator_at rule.separator buffer at && not (run_holds run at)

-- ---- the sides of a separator

-- the byte before a position, if there is one
abbrev pub slice_before : List ℕ → ℕ → Option ℕ
slice_before buffer zero = None
slice_before buffer (suc q) = slice_get buffer q

-- what a separator is judged by: the byte before `from` is its left side, the one at `to` its right
-- side, and `to` is the place where it is dropped
pub record IsSpan (rule : Rule) (buffer : List ℕ) (at from to : ℕ) : Type 0 where
  pub within : from ≤ length buffer
  pub left : class rule (slice_before buffer from) ≡ left_side rule buffer false at
  pub right : class rule (slice_get buffer to) ≡ right_side rule buffer at
  pub reach : (count : ℕ) → is_kept rule buffer at count at ≡ false
      → place rule buffer at count ≡ to

-- ---- looks

-- a source of bytes that counts the looks at them
pub record Source : Type 0 where
  pub content : List ℕ
  pub looks : ℕ

-- at least `low` looks more, as far as a counter goes that stops at its greatest number, and at
-- most `high` more
pub record LooksBetween (old low high new : ℕ) : Type 0 where
  pub at_least : min (old + low) (2 ^ 64 - 1) ≤ new
  pub at_most : new ≤ old + high

-- one look if a byte is answered
abbrev pub one_if : Bool → ℕ
one_if answered = if answered then 1 else 0

-- the run that a decision at a position leaves, and the looks that it takes: at most so many beside
-- three for each separator of a run that it scans
pub record Finds (most : ℕ) (rule : Rule) (buffer : List ℕ) (at : ℕ) (run left : Option Run)
    (looks : ℕ) : Type 0 where
  pub is_run : IsRunOrNone rule.separator buffer left
  pub unscanned_run : scans rule buffer at run ≡ false → left ≡ run
  pub unscanned_looks : scans rule buffer at run ≡ false → looks ≤ most
  pub scanned_run : scans rule buffer at run ≡ true → run_holds left at ≡ true
  pub scanned_looks : scans rule buffer at run ≡ true
      → LooksBetween 0 (run_length left) (most + 3 * run_length left) looks
  pub without_separator : separator_at rule.separator buffer at ≡ false → looks ≤ 1

-- ---- what is owed

-- how far a buffer has been scanned: the right end of the run, where the cursor isn't before that
-- run
abbrev pub far : Option Run → ℕ → ℕ
far None cursor = 0
far (Some run) cursor = if nat_le run.from cursor then run.to else 0

-- the looks, less three for each byte that was scanned
abbrev pub owed_by : Option Run → ℕ → ℕ → ℤ
owed_by run cursor looks = pos looks -ℤ pos (3 * far run cursor)

-- ---- what a `Bytes` holds

-- The state that calls speak of, and beside it what is kept for speed: the remembered run, which is
-- a maximal run of the buffer, and the looks so far.
pub record Held : Type 0 where
  pub state : State
  pub run : Option Run
  pub looks : ℕ
  pub holds : IsState state
  pub remembers : Remembers (separator state.word) state.buffer run

-- what a `Bytes` owes: its looks, less three for each byte that was scanned
abbrev pub owed : Held → ℤ
owed h = owed_by h.run h.state.cursor h.looks

-- whether a read from a to b looked for a run: the cursor of a stands in the run that is remembered
-- then, and in none before
abbrev pub has_scanned : Held → Held → Bool
has_scanned a b = run_holds b.run a.state.cursor && not (run_holds a.run a.state.cursor)

-- how long that run is
abbrev pub scanned_length : Held → Held → ℕ
scanned_length a b = if has_scanned a b then run_length b.run else 0

-- whether a read from a has to look for a run: not where digits were counted and the byte behind
-- the separator is none
abbrev pub needs_run : Component → Held → Bool
needs_run k a =
    scans (rule k a.state) a.state.buffer a.state.cursor a.run
    && (separator_at (separator a.state.word) a.state.buffer (a.state.cursor + 1)
    || not (nat_lt 0 (own k a.state)))

-- A read of the iterator of a component from a to b: it owes at most 4 more. It looked at least at
-- the byte that it answers and at the run that it scanned, as far as the counter goes, and at most
-- four times and three times for each separator of that run. A run that it scanned is remembered;
-- else the run stays as it was. It scans only under a consecutive rule, at a separator that the
-- remembered run doesn't hold. Where no separator is at the cursor, it looks at most twice.
pub record Costs (k : Component) (a b : Held) : Type 0 where
  pub owes : owed b ≤ℤ (owed a +ℤ pos 4)
  pub at_least : min (a.looks + one_if (is_some (byte_at_place k a.state)) + scanned_length a b)
      (2 ^ 64 - 1) ≤ b.looks
  pub at_most : b.looks ≤ a.looks + 4 + 3 * scanned_length a b
  pub unscanned : has_scanned a b ≡ false → b.run ≡ a.run
  pub needed : needs_run k a ≡ true → has_scanned a b ≡ true
  pub allowed : has_scanned a b ≡ true
      → scans (rule k a.state) a.state.buffer a.state.cursor a.run ≡ true
  pub without_separator :
      separator_at (separator a.state.word) a.state.buffer a.state.cursor ≡ false
      → b.looks ≤ a.looks + 2

-- a look from a to b at the byte at the cursor, if there is one
pub record LooksHere (a b : Held) (answer : Option ℕ) : Type 0 where
  pub byte : answer ≡ slice_get a.state.buffer a.state.cursor
  pub state : b.state ≡ a.state
  pub run : b.run ≡ a.run
  pub looks : let n = one_if (is_some answer) in LooksBetween a.looks n n b.looks

-- A way from a to b at the place of a component. With the look at the byte there it is a read.
pub record SettlesOf (k : Component) (a b : Held) : Type 0 where
  pub settles : b.state ≡ settled k a.state
  pub costs : (c : Held) → c.state ≡ b.state → c.run ≡ b.run
      → (let n = one_if (is_some (byte_at_place k a.state)) in LooksBetween b.looks n n c.looks)
      → Costs k a c

-- A read from a to b that leaves the byte where it is: it answers the byte at the place, where the
-- cursor then stands.
pub record PeeksOf (k : Component) (a b : Held) (answer : Option ℕ) : Type 0 where
  pub byte : answer ≡ byte_at_place k a.state
  pub settles : b.state ≡ settled k a.state
  pub costs : Costs k a b

-- A read from a to b that takes the byte, and counts it if it is a digit that counts.
pub record NextsOf (k : Component) (a b : Held) (result : Option (Bor ℕ)) : Type 0 where
  pub takes : Takes k a.state b.state result
  pub costs : Costs k a b

-- nothing was looked at, and the run stays
pub record NoLooks (a b : Held) : Type 0 where
  pub run : b.run ≡ a.run
  pub looks : b.looks ≡ a.looks

-- the same state, remembered run and looks
pub record IsCopy (a b : Held) : Type 0 where
  pub state : b.state ≡ a.state
  pub run : b.run ≡ a.run
  pub looks : b.looks ≡ a.looks
