-- The stop and the leading digits, by whether a digit stands at the place.
use Rattle.std.proofs.Common.{◌≡◌, ℕ, ◌+◌, ◌<◌, Bool, true, false, [], ◌∷◌, length, get_or, arith, slice_get}
use Rattle.lexical_digits.specs.Laws.Terms.{cases_Bool, gets, take_while-cons, Component, is_digit, State, IsState, rule, place_of, taken, holds_of, stop, leading_digits, stop_of, leading_digits_of}
use Rattle.lexical_digits.specs.Laws.Table.{digit_laws, place_to, taken_buffer, taken_word}
use Rattle.lexical_digits.proofs.Calls.NextTakesFirst.{of_taken, positions_some, positions_none, drain_some, drain_none}
use Rattle.lexical_digits.proofs.Calls.Items.{by_items}

-- whether a digit stands at the place
abbrev pub at_digit : Component → State → Bool
at_digit k s = holds_of (is_digit (rule k s)) (slice_get s.buffer (place_of k s))

-- a digit at the place: it leads, and then what leads and the stop are those of what `next` leaves
pub record Digit (k : Component) (s : State) : Type 0 where
  pub within : place_of k s < length s.buffer
  pub is : is_digit (rule k s) (get_or s.buffer (place_of k s) 0) ≡ true
  pub stop : stop_of k s ≡ stop_of k (taken k s)
  pub leading : leading_digits_of k s
      ≡ get_or s.buffer (place_of k s) 0 ∷ leading_digits_of k (taken k s)
  pub on : (taken k s).cursor ≡ place_of k s + 1

pub digit_there : (k : Component) (s : State) → at_digit k s ≡ true → Digit k s
unfolding stop leading_digits
digit_there k s e =
    let l : place_of k s < length s.buffer = grind (arith, gets) in
    let some = positions_some k s l in
    let first = drain_some k s l in
    let on = of_taken (λ r b i c. i) k s l in
    grind (arith, gets, taken_word k s, taken_buffer k s, take_while-cons {X = ℕ})

-- where no digit stands at the place
pub record NoDigit (k : Component) (s : State) : Type 0 where
  pub stop : stop_of k s ≡ place_of k s
  pub leading : leading_digits_of k s ≡ []

pub none_there : (k : Component) (s : State) → at_digit k s ≡ false → NoDigit k s
unfolding stop leading_digits
none_there k s e =
    let some = positions_some k s in
    let first = drain_some k s in
    grind (arith, gets, place_to k s, positions_none k s, drain_none k s, take_while-cons {X = ℕ})

-- a claim that holds where no digit is at the place, and before a digit if it holds after `next`
pub by_digits : (k : Component) (P : State → Type 0)
    → ((s : State) → IsState s → at_digit k s ≡ false → P s)
    → ((s : State) → IsState s → Digit k s → P (taken k s) → P s)
    → (s : State) → IsState s → P s
by_digits k P stops steps = by_items (digit_laws k) P
    (λ s v h. stops s v (grind (arith, gets)))
    (λ s v h rest. grind (arith, cases_Bool, digit_there k s, stops s v, steps s v))
