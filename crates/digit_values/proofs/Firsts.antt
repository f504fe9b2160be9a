-- What is read of a number of any length: the first of its significant digits.
use Rattle.std.proofs.Common.{◌≡◌, ℕ, ◌+◌, ◌-◌, ◌*◌, ◌^◌, ◌<◌, ◌≤◌, ◌%◌, refl, sym, ap, subst, ◌∙◌, IsTrue, false, List, length, length-append, take, arith}
use Rattle.lexical_format.specs.Digits.{digit_value}
use Rattle.lexical_format.specs.Word.{is_supported}
use Rattle.lexical_digits.specs.Separators.{IsSupported}
use Rattle.lexical_digits.specs.State.{rule_of, start, with_cursor}
use Rattle.lexical_digits.specs.Stop.{stop, stop_of}
use Rattle.lexical_digits.specs.Laws.Table.{with_own_buffer, with_own_word}
use native.Mathlib.Nat.{mod-eq_of_lt, mul-le-mul_right, pow-le-pow_right}
use lib.Pow.{pow-add}
use Rattle.std.proofs.Math.Nat.{pow-le-pow_right}
use Rattle.std.specs.Prelude.{⊤, Some, None}
use Rattle.std.specs.Str.Parse.{AllDigits, digits_value, digits_value_after}
use Rattle.std.proofs.lemmas.Int.Digits.{digits_value-lt}
use Rattle.lexical_digits.specs.declared.skip.rule.Rule.{Rule}
use Rattle.digit_values.specs.declared.slice.ReadTo.{ReadTo}
use Rattle.digit_values.specs.Reads.{IsOffSlice}
use Rattle.std.proofs.lemmas.List.{take_all}
use Rattle.lexical_digits.specs.declared.skip.component.Component.{Component}
use Rattle.lexical_digits.specs.declared.skip.component.Component.TheVariants.{Integer, Fraction, Exponent, Special}
use Rattle.lexical_digits.specs.Laws.Terms.{ints, State, IsState, rule, own, leading_digits_of}
use Rattle.lexical_digits.proofs.Calls.Stops.{leading_between}
use Rattle.lexical_digits.proofs.Rule.Supported.{supported_rule}
use Rattle.digit_values.specs.declared.first.FirstDigits.{FirstDigits}
use Rattle.digit_values.specs.declared.reading.Digits.{Digits}
use Rattle.digit_values.specs.declared.reading.TooLarge.{TooLarge}
use Rattle.digit_values.specs.After.{digits_between, past_digits_to, IsDigits, IsReadTo, ExceedsAt}
use Rattle.digit_values.specs.Rest.{LeavesRest}
use Rattle.digit_values.proofs.Rest.{leaves_rest, nth}
use Rattle.digit_values.specs.First.{ReadsFirst, ReadsFirstFrom}
use Rattle.digit_values.proofs.ForCallers.{all_digits, stop_within, value_of_pieces}
use Rattle.digit_values.proofs.States.{by_state, within_stop, own_of_fresh}

module _ (k : Component) (s : State) (most before : ℕ) (valid : IsState s) where
  abbrev radix : ℕ
  radix = (rule k s).radix

  abbrev digits : List ℕ
  digits = leading_digits_of k s

  -- the value of the first n digits, with one more of which it is above the greatest
  module _ (n : ℕ) (read : FirstDigits) (count : read.count ≡ length digits)
      (all : read.count ≡ n + read.dropped)
      (is : read.value ≡ digits_value_after radix before (take n digits)) (fits : read.value ≤ most)
      (next : 0 < read.dropped → most < digits_value_after radix before (take (n + 1) digits)) where
    reads_first : ReadsFirst radix most before digits read
    reads_first =
        let here : read.count - read.dropped ≡ n = omega arith in
        record {
          some = omega (arith, (supported_rule s.word k valid.word).low);
          all = rw (leading_between k s valid) (all_digits (rule k s) _);
          count = count;
          dropped = omega arith;
          is = rw here is;
          fits = fits;
          next = rw here next;
        }

  -- where no digit is too large
  pub reads_all : {read : Digits} → IsDigits k s before read → read.value ≤ most
      → ReadsFirst radix most before digits
      (record { value = read.value; count = read.count; dropped = 0 })
  reads_all {read} ok fits = reads_first read.count _ ok.digits (omega arith)
      (grind (arith, take_all read.count digits)) fits (λ l. absurd (omega (arith, l)))

  -- where the others are passed
  pub reads_rest : {error : TooLarge} {dropped : ℕ}
      → ExceedsAt (rule k s) s.buffer s.cursor (own k s) before most error.at
      → IsReadTo k s before error
      → dropped ≡ length (leading_digits_of k (past_digits_to k s error.at))
      → ReadsFirst radix most before digits
      (record { value = error.value; count = error.count + dropped; dropped = dropped })
  reads_rest {error} {dropped} large so_far are =
      let rest = leaves_rest k s before most error.at valid large in
      let there = nth k s before most error.at valid large in
      reads_first error.count _ (grind (arith, length-append {A = ℕ})) (omega arith) (grind arith)
      (grind arith) (λ _. grind arith)

-- how many digits there are at most, and where they are
pub ruleset bounds = (by_state, within_stop, ints, reads_rest)

-- ---- off a slice, where the digits after the first are counted

left_of : (k : Component) (s : State) (over : ℕ) → IsState (past_digits_to k s over)
    → leading_digits_of k (past_digits_to k s over)
    ≡ digits_between (rule k s) s.buffer over (stop_of k (past_digits_to k s over))
left_of Integer s over v = leading_between Integer _ v
left_of Fraction s over v = leading_between Fraction _ v
left_of Exponent s over v = leading_between Exponent _ v
left_of Special s over v = leading_between Special _ v

pub stop_after : (k : Component) (s : State) (over : ℕ)
    → stop_of k (past_digits_to k s over)
    ≡ stop (rule k s) s.buffer over (own k (past_digits_to k s over))
stop_after Integer s over = refl
stop_after Fraction s over = refl
stop_after Exponent s over = refl
stop_after Special s over = refl

module _ (word : ℕ) (k : Component) (text : List ℕ) (at before most over : ℕ)
    (supported : IsTrue (is_supported word)) (small : length text < 2 ^ 63)
    (inside : at ≤ length text)
    (h : ExceedsAt (rule_of word k) text at 0 before most over) where
  abbrev s : State
  s = with_cursor (start text word) at

  fresh : IsState s
  fresh = record {
    buffer = small;
    within = inside;
    word = supported;
    integer = omega arith;
    fraction = omega arith;
    exponent = omega arith;
  }

  here : ExceedsAt (rule k s) s.buffer s.cursor (own k s) before most over
  here = rw (own_of_fresh k text word at) h

  abbrev t : State
  t = past_digits_to k s over

  there : IsState t
  there = grind (arith, fresh, here, stop_within, with_own_word, with_own_buffer)

  left : leading_digits_of k t ≡ digits_between (rule_of word k) text over (stop_of k t)
  left = left_of k s over there

  rest : LeavesRest k s before most over
  rest = leaves_rest k s before most over fresh here

  abbrev all : List ℕ
  all = digits_between (rule_of word k) text at (stop (rule_of word k) text at 0)

  none : own k s ≡ 0
  none = own_of_fresh k text word at

  leading : leading_digits_of k s ≡ all
  leading =
      leading_between k s fresh
      ∙ ap (λ (c : ℕ). digits_between (rule_of word k) text at (stop (rule_of word k) text at c))
      none

  pub stop_is : stop_of k t ≡ stop (rule_of word k) text at 0
  stop_is = rest.stop ∙ ap (λ (c : ℕ). stop (rule_of word k) text at c) none

  pub rest_is : (value count more end : ℕ)
      → value ≡ digits_value_after (rule_of word k).radix before
      (digits_between (rule_of word k) text at over)
      → count ≡ length (digits_between (rule_of word k) text at over)
      → end ≡ stop_of k t → more ≡ length (digits_between (rule_of word k) text over end)
      → ReadsFirst (rule_of word k).radix most before all
      (record { value = value; count = count + more; dropped = more })
  rest_is value count more end is counted ends are =
      let error : TooLarge = record { at = over; value = value; count = count } in
      let so_far : IsReadTo k s before error = record { is = is; digits = counted } in
      let others : more ≡ length (leading_digits_of k t) = rw (left, ← ends) are in
      rw leading at (reads_rest k s most before fresh {error = error} {dropped = more} here so_far
      others)

-- ---- off a slice, where no digit is too large

pub all_read : (given r : Rule) (text : List ℕ) (at before most : ℕ) (read : ReadTo)
    → given ≡ r → IsSupported r → IsOffSlice given text at before (Some most) read
    → read.is_too_large ≡ false
    → ReadsFirstFrom r text at before most
    (record { value = read.value; count = read.count; dropped = 0 }) read.end
all_read given r text at before most read same supported off small =
    let reads = rw same at off.reads 0 in
    let end = reads.stops small in
    let count : read.count ≡ length (digits_between r text at (stop r text at 0)) =
    rw (← end) reads.digits in
    record {
      first = record {
        some = omega (arith, supported.low);
        all = all_digits r _;
        count = count;
        dropped = omega arith;
        is = rw (← end) (grind (
          arith,
          reads.worth.is,
          reads.digits,
          take_all read.count (digits_between r text at read.end),
        ));
        fits = reads.worth.fits;
        next = λ l. absurd (omega (arith, l));
      };
      stops = end;
      onward = off.below;
      within = reads.within;
    }

-- ---- where none was tested for being too large

pub fit_below : (r : Rule) (text : List ℕ) (at before most bound : ℕ) (read : ReadTo)
    → r.radix ≡ 10 → (before + 1) * 10 ^ read.count ≤ bound → bound ≤ 2 ^ 64 → bound ≤ most + 1
    → IsOffSlice r text at before None read → IsOffSlice r text at before (Some most) read
fit_below r text at before most bound read ten room small top h =
    let digits = digits_between r text at read.end in
    let below : digits_value 10 digits < 10 ^ read.count =
    rw (h.reads 0).digits (digits_value-lt 10 digits
    (subst (λ (n : ℕ). AllDigits n digits) ten (all_digits r _))) in
    let pieces : digits_value_after 10 before digits ≡ before * 10 ^ read.count + digits_value 10
    digits =
    rw (h.reads 0).digits (value_of_pieces 10 before digits) in
    let more : (before + 1) * 10 ^ read.count ≡ before * 10 ^ read.count + 10 ^ read.count =
    grind arith in
    let less : digits_value_after 10 before digits < bound = omega arith in
    let is : read.value ≡ digits_value_after 10 before digits =
    subst (λ (n : ℕ). read.value ≡ digits_value_after n before digits % 2 ^ 64) ten h.wrapped
    ∙ mod-eq_of_lt (omega arith) in
    record {
      reads = λ own.
          let o = h.reads own in
          record {
            onward = o.onward;
            within = o.within;
            digits = o.digits;
            worth = record {
              is = subst (λ (n : ℕ). read.value ≡ digits_value_after n before digits) (sym ten) is;
              fits = omega arith;
            };
            stops = o.stops;
            exceeds = λ t. absurd (o.exceeds t);
          };
      wrapped = tt;
      other = h.other;
      below = h.below;
      dense = h.dense;
    }

pub few_fit : (r : Rule) (text : List ℕ) (at before most : ℕ) (read : ReadTo)
    → r.radix ≡ 10 → (before + 1) * 10 ^ read.count ≤ 10 ^ 19 → 10 ^ 19 ≤ most + 1
    → IsOffSlice r text at before None read → IsOffSlice r text at before (Some most) read
few_fit r text at before most read ten room top h =
    fit_below r text at before most (10 ^ 19) read ten room (omega arith) top h

pub has_room : (before count bound : ℕ) → count ≤ 19 → bound ≡ 10 ^ (19 - count) → before < bound
    → (before + 1) * 10 ^ count ≤ 10 ^ 19
has_room before count bound few is less =
    let all : 10 ^ (19 - count) * 10 ^ count ≡ 10 ^ 19 =
    sym (pow-add 10 (19 - count) count) ∙ ap (λ (n : ℕ). 10 ^ n) {y = 19} (omega arith) in
    let l : (before + 1) * 10 ^ count ≤ 10 ^ (19 - count) * 10 ^ count =
    mul-le-mul_right (10 ^ count) (omega arith) in
    omega arith

-- after a value of so many digits
module _ (before counted count : ℕ) (less : before < 10 ^ counted) where
  less_with : (before + 1) * 10 ^ count ≤ 10 ^ (counted + count)
  less_with =
      let l : (before + 1) * 10 ^ count ≤ 10 ^ counted * 10 ^ count =
      mul-le-mul_right (10 ^ count) (omega (arith, less)) in
      rw (pow-add 10 counted count) l

  pub has_room_after : counted + count ≤ 19 → (before + 1) * 10 ^ count ≤ 10 ^ 19
  has_room_after few =
      let ten : 0 < 10 = omega arith in
      let most : 10 ^ (counted + count) ≤ 10 ^ 19 = pow-le-pow_right ten few in
      omega (arith, less_with, most)

  -- digits after it
  pub below_after : (r : Rule) (text : List ℕ) (at : ℕ) (read : ReadTo) (most : ℕ)
      → r.radix ≡ 10 → read.count ≡ count → IsOffSlice r text at before (Some most) read
      → read.value < 10 ^ (counted + count)
  below_after r text at read most ten same h =
      let digits = digits_between r text at read.end in
      let many : length digits ≡ count = sym (h.reads 0).digits ∙ same in
      let below : digits_value 10 digits < 10 ^ count =
      rw (← many) (digits_value-lt 10 digits
      (subst (λ (n : ℕ). AllDigits n digits) ten (all_digits r _))) in
      let pieces : digits_value_after 10 before digits ≡ before * 10 ^ count + digits_value 10
      digits =
      rw (← many) (value_of_pieces 10 before digits) in
      let more : (before + 1) * 10 ^ count ≡ before * 10 ^ count + 10 ^ count = grind arith in
      let is : read.value ≡ digits_value_after 10 before digits =
      subst (λ (n : ℕ). read.value ≡ digits_value_after n before digits) ten (h.reads 0).worth.is in
      omega (arith, less_with, below, pieces, more, is)

-- what a digit's value is, to be named in an attribute
unfoldable pub worth : ⊤
unfolding digit_value
worth = tt
