use Rattle.std.proofs.Common.{◌≡◌, ℕ, ◌+◌, ◌*◌, ◌<◌, ◌≤◌, List, ◌∷◌, Some, option_and_then, slice_get, slice_index, rules, arith, ap, sym, ◌∙◌, refl, add-one, length, length-drop, take, drop}
use Rattle.std.specs.Str.Parse.{digits_value_after}
use Rattle.std.specs.Fn.{iterate}
use Rattle.std.proofs.lemmas.Int.{ints}
use Rattle.std.proofs.lemmas.List.{take_all, take_more, drop_more}
use Rattle.lexical_format.specs.Digits.{digit_of_radix}
use Rattle.lexical_digits.specs.Stop.{after_leading}
use Rattle.lexical_digits.proofs.Calls.Items.{iterate_last}
use Rattle.digit_values.specs.Outcomes.{digits}
use Rattle.digit_values.proofs.Worth.{digit_at}
use Rattle.digit_values.proofs.ForCallers.{value_next}
use Rattle.digit_values.proofs.reading.read_digits_after.Goals as goal

-- one more of the digits that lead
record Next (radix before value d n : ℕ) (led rest : List ℕ) : Type 0 where
  pub within : n < length led
  pub more : n + 1 ≤ length led
  pub left : drop (n + 1) led ≡ rest
  pub with_it : digits_value_after radix before (take (n + 1) led) ≡ value * radix + d

next_is : (radix before value d n : ℕ) (led rest buffer : List ℕ) (place : ℕ)
    → value ≡ digits_value_after radix before (take n led)
    → drop n led ≡ slice_index buffer place ∷ rest
    → option_and_then (digit_of_radix radix) (slice_get buffer place) ≡ Some d
    → Next radix before value d n led rest
next_is radix before value d n led rest buffer place is e found =
    let within : n < length led = omega (arith, ap length e, length-drop n led) in
    let byte = (digit_at radix buffer place d found).value in
    let more = value_next radix before value d (take n led) (slice_index buffer place) byte is in
    grind (arith, take_more led n 0, drop_more led n 0)

pub loop-digit-preserved : goal.loop-digit-preserved
loop-digit-preserved g c =
    let so = c.loop-digit.invariant in
    let peeked = c.peek_digit.ensures in
    let peeks = peeked.peeks in
    let there = peeks.some (search rules) in
    let n = g.I.Iter.meaning c.loop-digit.iter in
    let next = next_is c.args.radix c.args.before c.loop-digit.value c.in-Some.digit _ _ _
    (g.I.Iter.buffer n) (g.I.DigitsIter.place n) so.value (so.rest ∙ there.digits)
    (sym peeked.digit ∙ c.in-Some.is) in
    rw (c.take_byte.ensures.takes ∙ peeks.takes) (record {
      stands = rw (add-one, iterate_last g.I.DigitsIter.taken c.loop-digit.count)
          (ap g.I.DigitsIter.taken so.stands);
      rest = next.left;
      value = c.in-Some-add_digit.ensures.0 ∙ sym next.with_it;
      within = next.more;
      fits = search rules;
      below = omega (arith, so.below, there.on, peeks.onward, peeks.stands);
      owes = omega (arith, ints, c.take_byte.ensures.owes, peeked.owes, so.owes);
      keeps_loan = search rules;
    })

pub returns-clause-ok : goal.returns-clause-ok
unfolding after_leading
returns-clause-ok g c =
    let so = c.loop-digit.invariant in
    let peeks = c.peek_digit.ensures.peeks in
    let none = so.rest ∙ (peeks.none (search rules)).digits in
    let m = g.I.Iter.meaning c.args.iter.now in
    let led = digits g.I.Iter.buffer g.I.Iter.cursor g.I.DigitsIter.place g.I.DigitsIter.taken
    g.I.DigitsIter.settled c.args.radix m in
    let all : c.loop-digit.count ≡ length led =
    omega (arith, so.within, ap length none, length-drop c.loop-digit.count led) in
    record {
      is = so.value ∙ ap (digits_value_after c.args.radix c.args.before)
          (take_all c.loop-digit.count led (omega (arith, all)));
      fits = so.fits;
      counts = all;
      leaves = peeks.settles ∙ ap g.I.DigitsIter.settled
          (so.stands ∙ ap (λ (k : ℕ). iterate g.I.DigitsIter.taken k m) all);
    }

pub returns-in_default-add_digit-clause-too_large :
    goal.returns-in_default-add_digit-clause-too_large
returns-in_default-add_digit-clause-too_large g c =
    let so = c.loop-digit.invariant in
    let peeked = c.peek_digit.ensures in
    let peeks = peeked.peeks in
    let there = peeks.some (search rules) in
    let n = g.I.Iter.meaning c.loop-digit.iter in
    let next = next_is c.args.radix c.args.before c.loop-digit.value c.in-Some.digit _ _ _
    (g.I.Iter.buffer n) (g.I.DigitsIter.place n) so.value (so.rest ∙ there.digits)
    (sym peeked.digit ∙ c.in-Some.is) in
    record {
      exceeds = record {
        read = c.loop-digit.count;
        within = next.within;
        fits = omega (arith, so.value, so.fits);
        passes = rw next.with_it (search rules);
        stands = c.cursor.ensures.value ∙ peeks.stands ∙ ap g.I.DigitsIter.place so.stands;
        leaves = peeks.settles ∙ ap g.I.DigitsIter.settled so.stands;
      };
      value = so.value;
      count = refl;
    }
