-- What the calls on the iterator of a component leave: a word for each call. The iterator holds a
-- `&mut Bytes`, which is a before the call and b after it. Each word says what the state becomes,
-- by the call table, what was looked at, what is owed for it, and that the iterator holds the same
-- `Bytes` as before.
use Rattle.std.specs.Prelude.{◌≡◌, ℕ, List, ◌+◌, ◌*◌, ◌≤◌, length, Option, None, IfSome, option_copied, option_map, pos, ◌≤ℤ◌, ◌+ℤ◌}
use Rattle.std.specs.Iterator.{Count, at_most}
use Rattle.std.specs.Borrow.{Bor, MutBor}
use Rattle.lexical_format.specs.Word.{separator}
use Rattle.lexical_digits.specs.declared.skip.component.Component.{Component}
use Rattle.lexical_digits.specs.Separators.{is_separator}
use Rattle.lexical_digits.specs.State.{State, with_cursor, is_contiguous}
use Rattle.lexical_digits.specs.CallTable.{place_of, byte_at_place, settled, counted, taken, view, after_view, drain_of, Takes}
use Rattle.lexical_digits.specs.Cursor.{CanStep, items, after_items, zeros, after_zeros}
use Rattle.lexical_digits.specs.Looks.{Held, owed, Costs, NoLooks}

-- ---- before a call

-- the condition of a step by `count`
abbrev pub CanStepOn : Component → State → ℕ → Type 0
CanStepOn k s count =
    CanStep s.buffer s.cursor (is_contiguous k s.word) (is_separator (separator s.word)) count

-- `next` yields no more bytes than the drain has
abbrev pub bytes_left : Component → State → Count
bytes_left k s = at_most (length (drain_of k s))

-- ---- the recursions of the traits, at a component

abbrev pub items_in : Component → State → List ℕ
items_in k = items (λ (m : State). m.buffer) (λ m. m.cursor) (place_of k) (taken k)

abbrev pub after_items_in : Component → State → State
after_items_in k = after_items (λ (m : State). m.buffer) (λ m. m.cursor) (place_of k) (taken k)

abbrev pub zeros_in : Component → State → ℕ
zeros_in k =
    zeros (λ (m : State). m.buffer) (λ m. m.cursor) (place_of k) with_cursor (settled k) (counted k)

abbrev pub after_zeros_in : Component → State → State
after_zeros_in k =
    after_zeros (λ (m : State). m.buffer) (λ m. m.cursor) (place_of k) with_cursor (settled k)
    (counted k)

-- ---- calls that look at no byte

-- an iterator b is made over a `Bytes` a
pub record Makes (a b : MutBor Held) : Type 0 where
  pub same_loan : b.ghost_name ≡ a.ghost_name
  pub state : b.now.state ≡ a.now.state
  pub no_looks : NoLooks a.now b.now

-- `set_cursor`: a move back owes at most three for each byte of the buffer more
pub record Moves (a b : MutBor Held) (index : ℕ) : Type 0 where
  pub moves : b.now.state ≡ with_cursor a.now.state index
  pub no_looks : NoLooks a.now b.now
  pub owes : a.now.state.cursor ≤ index → owed b.now ≤ℤ owed a.now
  pub owes_back : owed b.now ≤ℤ (owed a.now +ℤ pos (3 * length a.now.state.buffer))
  pub keeps_loan : b.ghost_name ≡ a.ghost_name

-- `step_by_unchecked`
pub record Steps (a b : MutBor Held) (count : ℕ) : Type 0 where
  pub moves : b.now.state ≡ with_cursor a.now.state (a.now.state.cursor + count)
  pub no_looks : NoLooks a.now b.now
  pub owes : owed b.now ≤ℤ owed a.now
  pub keeps_loan : b.ghost_name ≡ a.ghost_name

-- `increment_count`
pub record Counts (k : Component) (a b : MutBor Held) : Type 0 where
  pub counts : b.now.state ≡ counted k a.now.state
  pub no_looks : NoLooks a.now b.now
  pub owes : owed b.now ≤ℤ owed a.now
  pub keeps_loan : b.ghost_name ≡ a.ghost_name

-- `take_n`: the view that it answers has looked at nothing yet
pub record Cuts (k : Component) (a b : MutBor Held) (n : ℕ) (result : Option Held) : Type 0 where
  pub view : option_map (λ v. v.state) result ≡ view k a.now.state n
  pub view_no_looks : IfSome result (λ v. (v.run ≡ None) × (v.looks ≡ 0))
  pub state : b.now.state ≡ after_view k a.now.state n
  pub no_looks : NoLooks a.now b.now
  pub owes : owed b.now ≤ℤ owed a.now
  pub keeps_loan : b.ghost_name ≡ a.ghost_name

-- ---- reads

-- `peek`
pub record Peeks (k : Component) (a b : MutBor Held) (result : Option (Bor ℕ)) : Type 0 where
  pub byte : option_copied result ≡ byte_at_place k a.now.state
  pub settles : b.now.state ≡ settled k a.now.state
  pub costs : Costs k a.now b.now
  pub keeps_loan : b.ghost_name ≡ a.ghost_name

-- `next`: what it takes by the call table, where it is told that the items are the drain
pub record Nexts (k : Component) (a b : MutBor Held) (result : Option (Bor ℕ)) : Type 0 where
  pub takes : Takes k a.now.state b.now.state result
  pub costs : Costs k a.now b.now
  pub keeps_loan : b.ghost_name ≡ a.ghost_name
