-- Where the digits end: at the stop, the first kept byte that is no digit.
use Rattle.std.specs.Prelude.{◌≡◌, ℕ, ◌+◌, ◌<◌, ◌≤◌, Bool, not, if◌then◌else◌, List, length, take, filter, find, slice_index, slice_range, take_while, unwrap_or}
use Rattle.std.specs.Fn.{iterate}
use Rattle.lexical_digits.specs.declared.skip.rule.Rule.{Rule}
use Rattle.lexical_digits.specs.declared.skip.component.Component.{Component}
use Rattle.lexical_digits.specs.Separators.{is_digit, kept_positions, drain}
use Rattle.lexical_digits.specs.State.{State, with_cursor, rule, own, with_own, counts, saturating}
use Rattle.lexical_digits.specs.Cursor.{items}

-- ---- of any implementer

module _ {M : Type 0} (buffer : M → List ℕ) (cursor place : M → ℕ) (taken : M → M) where
  -- the items before the first that is no digit
  unfoldable pub leading : (ℕ → Bool) → M → List ℕ
  leading is_digit m = take_while is_digit (items buffer cursor place taken m)

  -- what is left if `next` is called once for each of them, and then `peek`
  unfoldable pub after_leading : (M → M) → (ℕ → Bool) → M → M
  after_leading settled is_digit m = settled (iterate taken (length (leading is_digit m)) m)

-- ---- by a rule

-- the first of the kept positions, from a start and count on, that holds no digit, or the length
unfoldable pub stop : Rule → List ℕ → ℕ → ℕ → ℕ
stop rule buffer start count =
    unwrap_or (find (λ q. not (is_digit rule (slice_index buffer q)))
    (kept_positions rule buffer start count)) (length buffer)

-- the digits of the drain before it
unfoldable pub leading_digits : Rule → List ℕ → ℕ → ℕ → List ℕ
leading_digits rule buffer start count = take_while (is_digit rule) (drain rule buffer start count)

-- ---- of the iterator of a component

-- where the digits of a component end, from the cursor on
abbrev pub stop_of : Component → State → ℕ
stop_of k s = stop (rule k s) s.buffer s.cursor (own k s)

-- the digits of a component from the cursor up to the stop
abbrev pub leading_digits_of : Component → State → List ℕ
leading_digits_of k s = leading_digits (rule k s) s.buffer s.cursor (own k s)

-- the state at the stop: if `next` counts, it has counted the digits before it
abbrev pub past_digits_of : Component → State → State
past_digits_of k s =
    let count =
    if counts k s.word
    then saturating (own k s) (length (leading_digits_of k s))
    else own k s in
    with_cursor (with_own k s count) (stop_of k s)

-- position q holds the digit after n digits from the cursor on, and is before the stop
pub record IsNthDigit (k : Component) (s : State) (n q : ℕ) : Type 0 where
  pub onward : s.cursor ≤ q
  pub before_stop : q < stop_of k s
  pub before : filter (is_digit (rule k s)) (slice_range s.buffer s.cursor q)
      ≡ take n (leading_digits_of k s)
  pub upto : filter (is_digit (rule k s)) (slice_range s.buffer s.cursor (q + 1))
      ≡ take (n + 1) (leading_digits_of k s)
