-- What a read of digits leaves of a `Bytes`, in words of the state.
use Rattle.std.proofs.Common.{◌≡◌, ℕ, ◌+◌, ◌≤◌, List, length, refl, arith}
use Rattle.std.proofs.lemmas.List.{length-take}
use Rattle.std.proofs.lemmas.List.Sums.{length-filter, count_by-le-length}
use Rattle.lexical_digits.specs.declared.skip.component.Component.{Component}
use Rattle.lexical_digits.specs.declared.skip.component.Component.TheVariants.{Integer, Fraction, Exponent, Special}
use Rattle.lexical_digits.specs.State.{State, IsState, own, rule, start, with_cursor}
use Rattle.lexical_digits.specs.Looks.{Held, IsCopy, owed}
use Rattle.lexical_digits.specs.Stop.{stop_of, leading_digits_of}
use Rattle.lexical_digits.specs.Laws.Table.{with_own_buffer, with_own_word}
use Rattle.lexical_digits.proofs.Calls.Stops.{leading_between}
use Rattle.digit_values.specs.After.{digits_to}
use Rattle.digit_values.proofs.ForCallers.{stop_from, stop_within}
use Rattle.digit_values.proofs.Between.{fewer_between}

pub within_stop : (k : Component) (s : State) → IsState s
    → s.cursor + length (leading_digits_of k s) ≤ stop_of k s
within_stop k s v = grind
    (arith, leading_between k s v, length-filter, count_by-le-length, length-take, stop_from)

pub digits_fit : (k : Component) (s : State) → IsState s
    → length (leading_digits_of k s) ≤ length s.buffer
digits_fit k s v = grind (arith, within_stop, stop_within)

-- no more of them are before a position
pub fewer_digits : (k : Component) (s : State) (at : ℕ) → IsState s → at ≤ stop_of k s
    → length (digits_to k s at) ≤ length (leading_digits_of k s)
fewer_digits k s at v l =
    rw (leading_between k s v) (fewer_between (rule k s) s.buffer s.cursor at (stop_of k s) l)

-- each of them is a byte before it
pub read_within : (k : Component) (s : State) (at : ℕ) → s.cursor ≤ at
    → s.cursor + length (digits_to k s at) ≤ at
read_within k s at l = grind (arith, length-filter, count_by-le-length, length-take)

-- ---- on a copy

pub owed_same : (a b : Held) → IsCopy a b → owed b ≡ owed a
owed_same a b is = rw (is.run, is.state, is.looks) refl

pub ruleset by_state = (leading_between, digits_fit, fewer_digits, within_stop, read_within)

-- what `go_on_from` requires
pub ruleset on_copy = (with_own_buffer, with_own_word)

-- ---- of a fresh `Bytes`

-- it counted no digit
pub own_of_fresh : (k : Component) (text : List ℕ) (word at : ℕ)
    → own k (with_cursor (start text word) at) ≡ 0
own_of_fresh Integer text word at = refl
own_of_fresh Fraction text word at = refl
own_of_fresh Exponent text word at = refl
own_of_fresh Special text word at = refl
