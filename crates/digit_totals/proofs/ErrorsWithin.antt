-- The position that a reader's error holds is within its text.
use Rattle.std.proofs.Common.{◌≡◌, ℕ, zero, suc, ◌+◌, ◌-◌, ◌≤◌, Bool, List, length, drop, find, unwrap_or, length-take, length-drop, arith, refl, inl, inr}
use Rattle.std.specs.Prelude.{Result, Ok, Err}
use Rattle.std.specs.List.{range_with_len, slice_range}
use Rattle.std.specs.Float.{Format}
use Rattle.std.proofs.lemmas.Bool.{cases_lt, cond_both}
use Rattle.std.proofs.lemmas.Bool.Decides.{nat_tests}
use Rattle.std.proofs.lemmas.List.FromFn.{length-range_with_len}
use Rattle.std.proofs.lemmas.List.Sums.{prefix_len-le-length}
use Rattle.lexical_digits.specs.declared.skip.rule.Rule.{Rule}
use Rattle.lexical_digits.specs.declared.skip.component.Component.{Component}
use Rattle.lexical_digits.specs.declared.skip.component.Component.TheVariants.{Integer, Fraction, Exponent}
use Rattle.lexical_digits.specs.Laws.Kept.{positions_end}
use Rattle.lexical_digits.specs.State.{rule_of}
use Rattle.lexical_digits.specs.Stop.{stop}
use Rattle.digit_values.specs.declared.LiteralError.{LiteralError}
use Rattle.digit_values.specs.declared.LiteralError.TheVariants as integers
use Rattle.digit_integers.specs.Integers.{integer_at, first_over}
use Rattle.digit_values.proofs.ForCallers.{stop_within}
use Rattle.digit_floats.specs.declared.error.FloatError.{FloatError}
use Rattle.digit_amounts.specs.declared.scaled.ScaledError.{ScaledError}
use Rattle.digit_floats.specs.declared.parts.Marks.{Marks}
use Rattle.digit_floats.specs.Bytes.{stands, is_point, is_mark}
use Rattle.digit_floats.specs.Errors as floats
use Rattle.digit_floats.specs.Float.{past_sign, digits_end, fraction_end, exponent_end, mantissa_end, end_at, with_end, read_at}
use Rattle.digit_amounts.specs.Scaled as scaled
use Rattle.digit_amounts.specs.Scaled.{fitting, fault_after, fault, fault_at, scaled_at, read_scaled_at}

module _ (text : List ℕ) where
  -- ---- where digits end

  stop_low : (rule : Rule) (start : ℕ) → stop rule text start 0 ≤ length text
  unfolding stop
  stop_low rule start = elim (cases_lt (length text) start) [
    | inl l ↦ rw (positions_end rule text start 0 (omega arith)) (omega arith)
    | inr l ↦ stop_within rule text start 0 l
  ]

  end_low : (word : ℕ) (k : Component) (i : ℕ) → digits_end word text k i ≤ length text
  unfolding digits_end
  end_low word k i = stop_low (rule_of word k) i

  fraction_low : (word point i : ℕ) → i ≤ length text
      → fraction_end word text point i ≤ length text
  unfolding fraction_end
  fraction_low word point i l =
      cond_both (stands (is_point point) text i) _ i (λ n. n ≤ length text)
      (λ is. end_low word Fraction (i + 1)) (λ is. l)

  mantissa_low : (word point i : ℕ) → mantissa_end word text point i ≤ length text
  mantissa_low word point i =
      fraction_low word point (digits_end word text Integer i) (end_low word Integer i)

  exponent_low : (word mark i : ℕ) → i ≤ length text
      → exponent_end word text mark i ≤ length text
  unfolding exponent_end
  exponent_low word mark i l =
      cond_both (stands (is_mark mark) text i) _ i (λ n. n ≤ length text)
      (λ is. end_low word Exponent (past_sign text (i + 1))) (λ is. l)

  -- ---- a float

  read_error : {A : Type 0} (x : A) (read : Result ℕ FloatError) (error : FloatError)
      → with_end x read ≡ Err error → read ≡ Err error
  read_error x (Ok end) error is = absurd (cc)
  read_error x (Err fault) error is = grind (arith, is)

  pub float_within : (word : ℕ) (marks : Marks) (f : Format) (start : ℕ) (error : FloatError)
      → read_at word text marks f start ≡ Err error → floats.position error ≤ length text
  float_within word marks f start error is =
      let at = past_sign text start in
      let read = read_error _ (end_at word text marks start) error is in
      let mark = mantissa_low word marks.point at in
      let end = exponent_low word marks.exponent (mantissa_end word text marks.point at) mark in
      grind (arith, nat_tests, read, mark, end)

  -- ---- a scaled number

  found_low : (p : ℕ → Bool) (n a end : ℕ) → a + n ≤ end
      → unwrap_or (find p (range_with_len a n)) end ≤ end
  found_low p zero a end l = omega arith
  found_low p (suc n) a end l = grind (arith, found_low p n (a + 1) end)

  first_low : (rule : Rule) (i most : ℕ) → first_over rule text i most ≤ length text
  first_low rule i most = elim (cases_lt (length text) i) [
    | inl l ↦
        let none : length text - i ≡ zero = omega arith in
        rw none (omega arith)
    | inr l ↦ found_low _ (length text - i) i (length text) (omega arith)
  ]

  over_low : (rule : Rule) (i most over : ℕ)
      → integer_at rule text i most ≡ Err (integers.Overflow over) → over ≤ length text
  unfolding integer_at
  over_low rule i most over is = grind (arith, nat_tests, is, first_low rule i most)

  module _ (word point places most at : ℕ) where
    after_low : (whole : ℕ) → fault_after word text point places most at whole ≤ length text
    after_low whole =
        let start = digits_end word text Integer at in
        let end = mantissa_end word text point at in
        let part : List ℕ = slice_range text start end in
        let few : fitting whole places most part ≤ length (range_with_len 0 (length part)) =
        prefix_len-le-length _ _ in
        omega (
          arith,
          few,
          length-range_with_len 0 (length part),
          length-take (end - start) (drop start text),
          length-drop start text,
          end_low word Integer at,
        )

    fault_by : (read : Result (ℕ × ℕ) LiteralError)
        → ((over : ℕ) → read ≡ Err (integers.Overflow over) → over ≤ length text)
        → fault word text point places most at read ≤ length text
    fault_by (Ok read) low = after_low read.0
    fault_by (Err (integers.Empty end)) low = after_low 0
    fault_by (Err (integers.Overflow over)) low = low over refl

    fault_low : fault_at word text point places most at ≤ length text
    fault_low = fault_by _ (over_low (rule_of word Integer) at _)

    scaled_low : (error : ScaledError) → scaled_at word text point places most at ≡ Err error
        → scaled.position error ≤ length text
    unfolding scaled_at
    scaled_low error is = grind (arith, nat_tests, is, fault_low, mantissa_low word point at)

    signed_error : (negative : Bool) (read : Result (ℕ × ℕ) ScaledError) (error : ScaledError)
        → scaled.with_sign word text point places negative read ≡ Err error → read ≡ Err error
    signed_error negative (Ok read) error is = absurd (cc)
    signed_error negative (Err fault) error is = grind (arith, is)

  pub scaled_within : (word point places least most start : ℕ) (error : ScaledError)
      → read_scaled_at word text point places least most start ≡ Err error
      → scaled.position error ≤ length text
  scaled_within word point places least most start error is =
      scaled_low word point places _ _ error
      (signed_error word point places most start _ _ error is)
