-- What is read where `next_of` takes the digits of a component, and what that takes.
use Rattle.std.proofs.Common.{◌≡◌, ℕ, ◌+◌, ◌*◌, ◌<◌, ◌≤◌, Bool, true, false, length, slice_index, Option, Some, None, is_some, option_and_then, refl, ap, sym, ◌∙◌, arith}
use Rattle.std.specs.Prelude.{IfSome, MatchOption}
use Rattle.std.specs.Char.{digit_value}
use Rattle.std.specs.Str.Parse.{digits_value_after}
use Rattle.std.proofs.lemmas.Int.{ints}
use Rattle.std.proofs.lemmas.Option.{IfSome_then}
use Rattle.lexical_format.specs.Digits.{digit_of_radix}
use Rattle.lexical_digits.specs.declared.skip.component.Component.{Component}
use Rattle.lexical_digits.specs.Laws.Terms.{State, rule, own, is_digit, place_of, settled, taken, byte_at_place, stop_of, leading_digits_of, Held, Costs}
use Rattle.lexical_digits.specs.Laws.Table.{digit_laws, place_from, place_to, place_again, taken_word, taken_buffer}
use Rattle.lexical_digits.proofs.Calls.DigitAtPlace.{Digit, at_digit, digit_there, none_there}
use Rattle.lexical_digits.proofs.Looks.Needed.{arrived}
use Rattle.lexical_digits.proofs.Calls.Stops.{none_before, none_counted, one_counted, digits_upto, nth_digit}
use Rattle.digit_values.specs.declared.slice.ReadTo.{ReadTo}
use Rattle.digit_values.specs.After.{digits_to, ExceedsAt}
use Rattle.digit_values.specs.Reads.{IsMore, Passes}
use Rattle.digit_values.proofs.Worth.{digit_at, none_at, worth_none}
use Rattle.digit_values.proofs.ForCallers.{value_is}

-- Whatever reading on from b comes to, with `count` digits more it is that of all from a.
pub record GoesOn (k : Component) (before : ℕ) (most : Option ℕ) (a b : Held)
    (radix value count : ℕ) : Type 0 where
  pub same : radix ≡ (rule k b.state).radix
  pub fits : IfSome most (λ m. value ≤ m)
  pub below : count ≤ b.state.cursor
  pub all : (c : Held) (read : ReadTo) (total : ℕ) → total ≡ count + read.count
      → Passes k value most b c read → Passes k before most a c (record read { count = total })

-- what follows of a value, if there is one
if_some_and : {X : Type 0} (N : Type 0) (o : Option X) {P Q R : X → Type 0}
    → IfSome o P → MatchOption o N Q → ((x : X) → P x → Q x → R x) → MatchOption o N R
if_some_and N None p q f = q
if_some_and N (Some x) p q f = f x p q

module _ (k : Component) (before : ℕ) (most : Option ℕ) (a b c : Held) (radix value count : ℕ)
    (so : GoesOn k before most a b radix value count) (peeks : Costs k b c)
    (settles : c.state ≡ settled k b.state) where
  abbrev s : State
  s = b.state

  from : s.cursor ≤ place_of k s
  from = place_from k s b.holds.within

  abbrev peeked : Option ℕ
  peeked = option_and_then (digit_of_radix radix) (byte_at_place k s)

  -- where it stops at the place
  passes : (large : Bool) (end : ℕ) → end ≡ c.state.cursor
      → (large ≡ false → stop_of k s ≡ place_of k s)
      → (large ≡ true → MatchOption most ⊥
      (λ m. ExceedsAt (rule k s) s.buffer s.cursor (own k s) value m (place_of k s)))
      → Passes k before most a c
      (record { value = value; count = count; end = end; is_too_large = large })
  passes large end on stops exceeds =
      let same : end ≡ place_of k s = on ∙ ap (λ (m : State). m.cursor) settles in
      let none = none_before k s b.holds in
      rw same (so.all c
      (record { value = value; count = 0; end = place_of k s; is_too_large = large }) count
      (omega arith) (record {
        reads = record {
          onward = from;
          within = place_to k s;
          digits = sym (ap length none);
          worth = rw none (worth_none (rule k s).radix value most so.fits);
          stops = λ e. sym (stops e);
          exceeds = exceeds;
        };
        state = settles ∙ rw none (none_counted k s b.holds (place_of k s));
        remembers = arrived k b c peeks settles;
        owes = omega (arith, ints, peeks.owes);
        at_least = omega (arith, peeks.at_least);
      }))

  pub ends_there : (end : ℕ) → end ≡ c.state.cursor → peeked ≡ None → Passes k before most a c
      (record { value = value; count = count; end = end; is_too_large = false })
  unfolding is_digit
  ends_there end on e =
      let other : at_digit k s ≡ false = rw so.same at (none_at radix _ e) in
      passes false end on (λ _. (none_there k s other).stop) (λ f. cc)

  module _ (d : ℕ) (found : peeked ≡ Some d) where
    is_digit_next : Digit k s
    unfolding is_digit
    is_digit_next =
        digit_there k s (rw so.same at (digit_at radix s.buffer (place_of k s) d found).is)

    is : digit_value (slice_index s.buffer (place_of k s)) ≡ d
    is = value_is radix _ d (digit_at radix s.buffer (place_of k s) d found).value

    past : (t : State) → t ≡ taken k c.state → t ≡ taken k s
    past t takes = takes ∙ ap (taken k) settles ∙ (digit_laws k).settled_taken s b.holds

    -- before a digit with which the value is too large
    pub stops_before : (end : ℕ) → end ≡ c.state.cursor
        → MatchOption most ⊥ (λ m. m < value * radix + d) → Passes k before most a c
        (record { value = value; count = count; end = end; is_too_large = true })
    stops_before end on over =
        let nth = nth_digit 0 k s b.holds (omega (arith, ap length is_digit_next.leading)) in
        passes true end on (λ f. cc) (λ _. if_some_and _ most so.fits over (λ m fits over. record {
          onward = nth.onward;
          before_stop = nth.before_stop;
          fits = rw (none_before k s b.holds) fits;
          passes = rw (nth.upto, is_digit_next.leading, is, ← so.same) over;
        }))

    -- the value up to a position after the digit
    value_to : (end more : ℕ) → place_of k s < end → more ≡ value * radix + d
        → digits_value_after (rule k s).radix value (digits_to k s end)
        ≡ digits_value_after (rule k (taken k s)).radix more (digits_to k (taken k s) end)
    value_to end more l e =
        rw (digits_upto k s b.holds is_digit_next end l, taken_word k s, e, so.same, ← is) refl

    pub one_read : (more : ℕ) (e : Held) → IfSome most (IsMore radix value d more) → Costs k c e
        → e.state ≡ taken k c.state → GoesOn k before most a e radix more (count + 1)
    one_read more e is_more pays takes =
        let here : is_some (byte_at_place k s) ≡ true = grind arith in
        let again : is_some (byte_at_place k c.state) ≡ true =
        rw (settles, place_again k s) here in
        let one = rw here at peeks.at_least in
        let two = rw again at pays.at_least in
        record {
          same = rw (past e.state takes) (so.same ∙ rw (taken_word k s) refl);
          fits = IfSome_then most is_more (λ _ h. h.fits);
          below = rw (past e.state takes) (omega (arith, so.below, is_digit_next.on, from));
          all = λ f read total same h.
              let reads = rw (past e.state takes) at h.reads in
              let on : place_of k s < read.end = omega (arith, reads.onward, is_digit_next.on) in
              let upto = digits_upto k s b.holds is_digit_next read.end on in
              so.all f (record read { count = read.count + 1 }) total (omega (arith, same))
              (record {
                reads = record {
                  onward = omega (arith, on, from);
                  within = rw (taken_buffer k s) at reads.within;
                  digits = omega (arith, reads.digits, ap length upto);
                  worth = if_some_and _ most is_more reads.worth
                      (λ m g w. grind (arith, w, value_to read.end more on g.is));
                  stops = λ e. reads.stops e ∙ sym is_digit_next.stop;
                  exceeds = λ e. if_some_and _ most is_more (reads.exceeds e) (λ m g x.
                      let to = value_to read.end more on g.is in
                      let past = value_to (read.end + 1) more (omega (arith, on)) g.is in
                      grind (arith, from, is_digit_next.stop));
                };
                state =
                    h.state ∙ rw (past e.state takes, upto)
                    (one_counted k s is_digit_next _ read.end);
                remembers = h.remembers;
                owes = omega (arith, ints, h.owes, peeks.owes, pays.owes);
                at_least = omega (arith, h.at_least, one, two);
              });
        }

    pub fewer_left : (t : State) → t ≡ taken k c.state
        → length (leading_digits_of k t) < length (leading_digits_of k s)
    fewer_left t takes = rw (past t takes, is_digit_next.leading) (omega arith)
