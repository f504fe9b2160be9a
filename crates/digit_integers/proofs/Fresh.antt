-- What `read_digits` answers on a `Bytes` that has counted no digit is what `read_integer_from`
-- answers of its text.
use Rattle.std.proofs.Common.{◌≡◌, ℕ, ◌-◌, ◌^◌, ap, ◌∙◌, arith}
use Rattle.std.specs.Prelude.{Ok, Err}
use Rattle.lexical_format.specs.Digits.{is_digit_of_radix}
use Rattle.lexical_digits.specs.declared.skip.component.Component.{Component}
use Rattle.lexical_digits.specs.declared.skip.rule.Rule.{Rule}
use Rattle.lexical_digits.specs.Laws.Terms.{State, IsState, rule, own, is_digit, place_of, settled, taken, stop_of, leading_digits_of, past_digits_of}
use Rattle.lexical_digits.specs.Stop.{leading, after_leading}
use Rattle.lexical_digits.proofs.Rule.Supported.{supported_rule}
use Rattle.lexical_digits.proofs.Calls.Stops.{leading_are, after_leading_are, leading_between, none_leads, nth_digit}
use Rattle.digit_values.specs.Outcomes.{ReadsAll, FindsNone, PassesMost}
use Rattle.digit_values.specs.declared.LiteralError.TheVariants.{Empty, Overflow}
use Rattle.digit_values.specs.After.{ExceedsAt}
use Rattle.digit_integers.specs.Integers.{integer_at}
use Rattle.digit_integers.proofs.Texts.{some_at, none_at, over_at}

module _ (k : Component) (s : State) (v : IsState s) (fresh : own k s ≡ 0) where
  abbrev r : Rule
  r = rule k s

  leads : leading (λ (m : State). m.buffer) (λ m. m.cursor) (place_of k) (taken k)
      (is_digit_of_radix r.radix) s ≡ leading_digits_of k s
  unfolding is_digit
  leads = leading_are k s v

  leaves : after_leading (λ (m : State). m.buffer) (λ m. m.cursor) (place_of k) (taken k)
      (settled k) (is_digit_of_radix r.radix) s ≡ past_digits_of k s
  unfolding is_digit
  leaves = after_leading_are k s v

  pub reads : (value : ℕ) (left : State)
      → ReadsAll (λ (m : State). m.buffer) (λ m. m.cursor) (place_of k) (taken k) (settled k)
      r.radix s value left
      → integer_at r s.buffer s.cursor (2 ^ 64 - 1) ≡ Ok (value, left.cursor)
  reads value left h =
      let end : left.cursor ≡ stop_of k s = ap (λ (m : State). m.cursor) (h.leaves ∙ leaves) in
      grind (
        arith,
        end,
        fresh,
        leads,
        leading_between k s v,
        some_at r s.buffer s.cursor (2 ^ 64 - 1),
      )

  pub finds_none : (at : ℕ) (left : State)
      → FindsNone (λ (m : State). m.buffer) (λ m. m.cursor) (place_of k) (taken k) (settled k)
      r.radix s at left
      → integer_at r s.buffer s.cursor (2 ^ 64 - 1) ≡ Err (Empty at)
  finds_none at left h =
      grind (
        arith,
        fresh,
        leads,
        leading_between k s v,
        none_leads k s,
        none_at r s.buffer s.cursor (2 ^ 64 - 1),
      )

  pub passes : (over : ℕ) (left : State)
      → PassesMost (λ (m : State). m.buffer) (λ m. m.cursor) (place_of k) (taken k) (settled k)
      r.radix s over left
      → integer_at r s.buffer s.cursor (2 ^ 64 - 1) ≡ Err (Overflow over)
  passes over left h =
      let nth = nth_digit h.read k s v (rw leads at h.within) in
      let low = (supported_rule s.word k v.word).low in
      let exceeds : ExceedsAt r s.buffer s.cursor 0 0 (2 ^ 64 - 1) over =
      grind (arith, fresh, leads, nth) in
      over_at r s.buffer s.cursor (2 ^ 64 - 1) low v.within over exceeds
