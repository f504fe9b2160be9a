-- Digits from a start on, with no separator among them.
use Rattle.std.proofs.Common.{◌≡◌, ℕ, zero, suc, ◌+◌, ◌-◌, ◌*◌, ◌%◌, ◌^◌, ◌<◌, ◌≤◌, true, List, Option, length, refl, sym, ap, ◌∙◌, inl, inr, arith}
use Rattle.std.specs.Prelude.{slice_index, Some, None, IfSome, IfNone}
use Rattle.std.specs.Str.Parse.{digits_value_after}
use native.Mathlib.Numerals.{unary_clauses}
use Rattle.std.proofs.Math.Nat.{mod-eq_of_lt}
use Rattle.std.proofs.lemmas.Bool.Decides.{nat_tests}
use Rattle.lexical_format.specs.Digits.{digit_of_radix}
use Rattle.lexical_format.specs.Digits as words
use Rattle.lexical_digits.specs.declared.skip.rule.Rule.{Rule}
use Rattle.lexical_digits.specs.Separators.{is_digit}
use Rattle.digit_values.specs.After.{digits_between}
use Rattle.digit_values.specs.Reads.{IsMore, IsFirst, IsWorth, ArePlain}
use Rattle.digit_words.specs.Eight.{written, IsWritten}
use Rattle.digit_values.proofs.Between.{none_between, one_more}
use Rattle.digit_values.proofs.ForCallers.{value_more}
use Rattle.digit_values.proofs.Passed.{HasPassed, byte_kept, wrapped_more}
use Rattle.digit_words.proofs.Joined.{lt_or_le}

-- ---- in the words of the loop

module _ (rule : Rule) (text : List ℕ) (start : ℕ) where
  -- as many digits as bytes
  plain_count : (n : ℕ) → start + n ≤ length text
      → ((q : ℕ) → start ≤ q → q < start + n → is_digit rule (slice_index text q) ≡ true)
      → length (digits_between rule text start (start + n)) ≡ n
  plain_count zero l h =
      let same : start + 0 ≡ start = omega arith in
      rw (same, none_between rule text start) refl
  plain_count (suc n) l h =
      let next : start + suc n ≡ start + n + 1 = omega arith in
      let here = h (start + n) (omega arith) (omega arith) in
      let rest = plain_count n (omega arith) (λ q a b. h q a (omega arith)) in
      let more = one_more rule text start (start + n) (omega arith) (omega arith) in
      rw (next, more, here, rest) (omega arith)

  pub counted : {before : ℕ} {most : Option ℕ} {end value : ℕ}
      → ArePlain rule text start before most end value
      → end ≡ start + length (digits_between rule text start end)
  counted {end = end} plain =
      let n = end - start in
      let same : start + n ≡ end = omega (arith, plain.onward) in
      let few =
      plain_count n (omega (arith, plain.within, same))
      (λ q a b. plain.digits q a (omega (arith, same, b))) in
      omega (arith, same, rw same at few)

  pub passed : {before : ℕ} {most : Option ℕ} {end value : ℕ}
      → ArePlain rule text start before most end value → HasPassed rule text start end
  passed {end = end} plain =
      let all = counted plain in
      record {
        below = omega (arith, all);
        dense = omega (arith, all);
        fewer = λ some _. omega (arith, all, some);
        kept = λ own q a b.
            let digit = plain.digits q a b in
            byte_kept rule text start own q (omega (arith, plain.within, b)) (λ _. digit)
            ∙ sym digit;
      }

-- ---- none, or one

module _ (rule : Rule) (text : List ℕ) (start before : ℕ) (most : Option ℕ)
    (within : start ≤ length text) (l : before < 2 ^ 64) where
  pub none_plain : IfSome most (λ m. before ≤ m) → ArePlain rule text start before most start before
  none_plain fits = grind (arith, none_between, mod-eq_of_lt)

  pub one_plain : (radix digit : ℕ) → radix ≡ rule.radix → IsFirst rule text start before most digit
      → ArePlain rule text start before most (start + 1) (before * radix + digit)
  unfolding is_digit
  one_plain radix digit same first = grind (arith, none_between, value_more, mod-eq_of_lt)

-- ---- some more

-- a decimal digit
pub decimal : (b : ℕ) → 48 ≤ b → b < 58 → digit_of_radix 10 b ≡ Some (b - 48)
unfolding words.digit_value
decimal b low up = grind (arith, nat_tests)

-- it is one of the rule
rule_digit : (rule : Rule) (b : ℕ) → rule.radix ≡ 10 → 48 ≤ b → b < 58 → is_digit rule b ≡ true
unfolding is_digit
rule_digit rule b ten low up = rw (ten, decimal b low up) refl

times : (a b : ℕ) → a * (b * 10) ≡ a * b * 10
times a b = grind arith

module _ (rule : Rule) (text : List ℕ) (start before : ℕ) (ten : rule.radix ≡ 10)
    (at count next : ℕ) (low : start ≤ at) (all : IsWritten text at count next) where
  abbrev worth_to : ℕ → ℕ
  worth_to end = digits_value_after rule.radix before (digits_between rule text start end)

  abbrev digit : ℕ → ℕ
  digit i = slice_index text (at + i) - 48

  -- the value with one of them
  step : (k : ℕ) → k < count
      → worth_to (at + suc k) ≡ worth_to (at + k) * 10 + digit k
  step k l =
      let byte = all.digits k l in
      let same : at + suc k ≡ at + k + 1 = omega arith in
      ap worth_to same
      ∙ value_more rule text start before (at + k) 10 _ (omega (arith, low))
      (omega (arith, all.within, l)) (sym ten) (decimal _ byte.0 byte.1)

  -- the value with some of them
  steps : (k : ℕ) → k ≤ count → worth_to (at + k) ≡ worth_to at * 10 ^ k + written digit k
  steps zero l =
      let none : worth_to (at + 0) ≡ worth_to at = ap worth_to {y = at} (omega arith) in
      let one : 10 ^ 0 ≡ 1 = refl in
      omega (arith, none, ap (λ p. worth_to at * p) one)
  steps (suc k) l =
      let before = steps k (omega (arith, l)) in
      let power : 10 ^ suc k ≡ 10 ^ k * 10 = simp unary_clauses refl in
      let scale : worth_to at * 10 ^ suc k ≡ worth_to at * 10 ^ k * 10 =
      ap (λ p. worth_to at * p) power ∙ times (worth_to at) (10 ^ k) in
      omega (arith, step k l, before, scale)

  worth_all : worth_to (at + count) ≡ worth_to at * 10 ^ count + next
  worth_all = omega (arith, steps count (omega arith), all.is)

  kept : (q : ℕ) → at ≤ q → q < at + count → is_digit rule (slice_index text q) ≡ true
  kept q a b =
      let same : at + (q - at) ≡ q = omega (arith, a) in
      let byte = all.digits (q - at) (omega (arith, a, b)) in
      ap (λ k. is_digit rule (slice_index text k)) (sym same) ∙ rule_digit rule _ ten byte.0 byte.1

  some_more : (most : Option ℕ) (value more : ℕ)
      → IfSome most (IsWorth rule.radix before (digits_between rule text start at) value)
      → IfSome most (IsMore (10 ^ count) value next more)
      → IfSome most (IsWorth rule.radix before (digits_between rule text start (at + count)) more)
  some_more None value more a b = tt
  some_more (Some m) value more a b =
      let scaled : value * 10 ^ count ≡ worth_to at * 10 ^ count = ap (λ k. k * 10 ^ count) a.is in
      record { is = omega (arith, b.is, scaled, worth_all); fits = b.fits }

  none_more : (most : Option ℕ) (value more : ℕ)
      → IfNone most (value ≡ worth_to at % 2 ^ 64)
      → IfNone most (more ≡ (value * 10 ^ count + next) % 2 ^ 64)
      → IfNone most (more ≡ worth_to (at + count) % 2 ^ 64)
  none_more None value more a b =
      b ∙ wrapped_more value (worth_to at) (10 ^ count) next a
      ∙ ap (λ k. k % 2 ^ 64) (sym worth_all)
  none_more (Some m) value more a b = tt

-- digits, and more after them, with which the value is at most the greatest, if one is asked for
pub more_plain : (rule : Rule) (text : List ℕ) (start before : ℕ) (most : Option ℕ)
    → rule.radix ≡ 10 → (at value count next end more : ℕ)
    → ArePlain rule text start before most at value → IsWritten text at count next
    → end ≡ at + count → IfSome most (IsMore (10 ^ count) value next more)
    → IfNone most (more ≡ (value * 10 ^ count + next) % 2 ^ 64)
    → ArePlain rule text start before most end more
more_plain rule text start before most ten at value count next end more plain all there is wrapped =
    rw there (
    record {
      onward = omega (arith, plain.onward);
      within = all.within;
      digits =
          λ q a b. below_or q (λ l. plain.digits q a l)
          (λ l. kept rule text start before ten at count next plain.onward all q l b);
      worth =
          some_more rule text start before ten at count next plain.onward all most value more
          plain.worth is;
      wrapped =
          none_more rule text start before ten at count next plain.onward all most value more
          plain.wrapped wrapped;
    }
    )
  where
    below_or : (q : ℕ) → (q < at → is_digit rule (slice_index text q) ≡ true)
        → (at ≤ q → is_digit rule (slice_index text q) ≡ true)
        → is_digit rule (slice_index text q) ≡ true
    below_or q f g = elim (lt_or_le q at) [ inl l ↦ f l | inr l ↦ g l ]
