-- A number ends within its text.
use Rattle.std.proofs.Common.{◌≡◌, ℕ, ℤ, ◌+◌, ◌≤◌, Bool, true, false, cond, List, length, refl, arith, inl, inr}
use Rattle.std.specs.Prelude.{◌==◌, Result, Ok, Err}
use Rattle.std.specs.Float.{Float, Format}
use Rattle.std.proofs.lemmas.Bool.{cases_lt}
use Rattle.std.proofs.lemmas.Bool.Decides.{nat_tests}
use Rattle.std.proofs.lemmas.Option.{slice_get_past}
use Rattle.lexical_digits.specs.State.{rule_of}
use Rattle.lexical_digits.specs.declared.skip.rule.Rule.{Rule}
use Rattle.lexical_digits.specs.declared.skip.component.Component.{Component}
use Rattle.lexical_digits.specs.declared.skip.component.Component.TheVariants.{Integer, Fraction, Exponent}
use Rattle.lexical_digits.specs.Stop.{stop}
use Rattle.lexical_digits.proofs.Calls.FirstOther.{stop_is_first}
use Rattle.digit_values.specs.declared.LiteralError.{LiteralError}
use Rattle.digit_integers.specs.Integers.{integer_at}
use Rattle.digit_integers.specs.Numbers.{is_negative_from, digits_from, most_from, number_at, with_sign}
use Rattle.digit_integers.proofs.Texts.{says_some}
use Rattle.digit_floats.specs.declared.error.FloatError.{FloatError}
use Rattle.digit_amounts.specs.declared.scaled.ScaledError.{ScaledError}
use Rattle.digit_floats.specs.declared.parts.Marks.{Marks}
use Rattle.digit_floats.specs.Bytes.{stands, is_sign, is_point, is_mark}
use Rattle.digit_floats.specs.Float.{past_sign, digits_end, fraction_end, exponent_end, mantissa_end, number_end, end_at, with_end, read_at}
use Rattle.digit_amounts.specs.Scaled as scaled
use Rattle.digit_amounts.specs.Scaled.{scaled_at, read_scaled_at}

module _ (text : List ℕ) where
  -- a byte that passes is within the text
  stands_within : (p : ℕ → Bool) (at : ℕ) → stands p text at ≡ true → at + 1 ≤ length text
  stands_within p at is = elim (cases_lt at (length text)) [
    | inl l ↦ omega arith
    | inr l ↦ let none : stands p text at ≡ false = rw (slice_get_past text at l) refl in cc
  ]

  -- so is the position after it
  past_within : (b : Bool) (x y : ℕ) → (b ≡ true → x ≤ length text) → y ≤ length text
      → cond b x y ≤ length text
  past_within true x y here other = here refl
  past_within false x y here other = other

  sign_within : (at : ℕ) → at ≤ length text → past_sign text at ≤ length text
  sign_within at within = past_within (stands is_sign text at) _ _ (stands_within is_sign at) within

-- ---- an integer

stop_within : (rule : Rule) (text : List ℕ) (start count : ℕ) → start ≤ length text
    → stop rule text start count ≤ length text
stop_within rule text start count within = (stop_is_first rule text start count within).within

module _ (least most : ℕ) (rule : Rule) (text : List ℕ) where
  digits_within : (start : ℕ) → start ≤ length text → digits_from least text start ≤ length text
  digits_within start within =
      grind (
        arith,
        nat_tests,
        stands_within text (λ b. b == 45) start,
        stands_within text (λ b. b == 43) start,
      )

  signed_end : (negative : Bool) (read : Result (ℕ × ℕ) LiteralError) (x : ℤ) (end : ℕ)
      → with_sign negative read ≡ Ok (x, end) → (magnitude : ℕ) × (read ≡ Ok (magnitude, end))
  signed_end negative (Ok read) x end is = (read.0, grind (arith, is))
  signed_end negative (Err error) x end is = absurd (cc)

  pub integer_ends : (start end : ℕ) (x : ℤ) → start ≤ length text
      → number_at least most rule text start ≡ Ok (x, end) → end ≤ length text
  integer_ends start end x within is =
      let from = digits_from least text start in
      let greatest = most_from least most rule text start in
      let read = signed_end (is_negative_from least text start)
      (integer_at rule text from greatest) x end is in
      let ends = (says_some rule text from greatest read.0 end read.1).ends in
      omega (arith, ends, stop_within rule text from 0 (digits_within start within))

-- ---- a float

module _ (word : ℕ) (text : List ℕ) where
  end_within : (k : Component) (at : ℕ) → at ≤ length text → digits_end word text k at ≤ length text
  unfolding digits_end
  end_within k at within = stop_within (rule_of word k) text at 0 within

  fraction_within : (point at : ℕ) → at ≤ length text
      → fraction_end word text point at ≤ length text
  unfolding fraction_end
  fraction_within point at within =
      past_within text (stands (is_point point) text at) _ _
      (λ is. end_within Fraction (at + 1) (stands_within text (is_point point) at is)) within

  mantissa_within : (point at : ℕ) → at ≤ length text
      → mantissa_end word text point at ≤ length text
  mantissa_within point at within =
      fraction_within point (digits_end word text Integer at) (end_within Integer at within)

  exponent_within : (mark at : ℕ) → at ≤ length text
      → exponent_end word text mark at ≤ length text
  unfolding exponent_end
  exponent_within mark at within =
      past_within text (stands (is_mark mark) text at) _ _
      (λ is. end_within Exponent (past_sign text (at + 1))
      (sign_within text (at + 1) (stands_within text (is_mark mark) at is))) within

  module _ (marks : Marks) where
    number_within : (at : ℕ) → at ≤ length text → number_end word text marks at ≤ length text
    number_within at within =
        exponent_within marks.exponent (mantissa_end word text marks.point at)
        (mantissa_within marks.point at within)

    read_end : {A : Type 0} (x y : A) (read : Result ℕ FloatError) (end : ℕ)
        → with_end x read ≡ Ok (y, end) → read ≡ Ok end
    read_end x y (Ok at) end is = grind (arith, is)
    read_end x y (Err error) end is = absurd (cc)

    pub float_ends : (f : Format) (start end : ℕ) (x : Float) → start ≤ length text
        → read_at word text marks f start ≡ Ok (x, end) → end ≤ length text
    float_ends f start end x within is =
        let read = read_end _ x (end_at word text marks start) end is in
        let low = number_within (past_sign text start) (sign_within text start within) in
        grind (arith, nat_tests, read)

  -- ---- a scaled number

  module _ (point places : ℕ) where
    scaled_within : (most at value end : ℕ) → at ≤ length text
        → scaled_at word text point places most at ≡ Ok (value, end) → end ≤ length text
    unfolding scaled_at
    scaled_within most at value end within is =
        let low = mantissa_within point at within in
        grind (arith, nat_tests, is)

    scaled_end : (negative : Bool) (read : Result (ℕ × ℕ) ScaledError) (x : ℤ) (end : ℕ)
        → scaled.with_sign word text point places negative read ≡ Ok (x, end)
        → (value : ℕ) × (read ≡ Ok (value, end))
    scaled_end negative (Ok read) x end is = (read.0, grind (arith, is))
    scaled_end negative (Err error) x end is = absurd (cc)

    pub scaled_ends : (least most start end : ℕ) (x : ℤ) → start ≤ length text
        → read_scaled_at word text point places least most start ≡ Ok (x, end) → end ≤ length text
    scaled_ends least most start end x within is =
        let from = digits_from least text start in
        let greatest = cond (is_negative_from least text start) least most in
        let read = scaled_end (is_negative_from least text start)
        (scaled_at word text point places greatest from) x end is in
        scaled_within greatest from read.0 end
        (digits_within least most (rule_of word Integer) text start within) read.1
