-- A scaled number from a position on, in a text and in one that begins there: what is before the
-- position, and what follows a byte that ends the number, make no difference.
use Rattle.std.proofs.Common.{◌≡◌, ℕ, ◌+◌, ◌≤◌, Bool, true, false, cond, List, Option, None, Some, length, drop, refl, ap, ◌∙◌, arith, slice_range}
use Rattle.std.specs.Prelude.{◌/◌, ◌^◌, ◌==◌, ◌&&◌, nat_lt, Result, Ok, Err}
use Rattle.std.proofs.lemmas.Bool.Decides.{nat_tests}
use Rattle.lexical_digits.specs.Cursor.{holds_of}
use Rattle.lexical_digits.specs.Moves.{byte_before, outcome_later}
use Rattle.lexical_digits.specs.declared.skip.component.Component.TheVariants.{Integer}
use Rattle.lexical_digits.specs.State.{rule_of}
use Rattle.lexical_digits.proofs.Calls.BothSides.{AreSameFrom, from_rest, cut_if, cut_test, cut_before, cut_range}
use Rattle.digit_values.specs.declared.LiteralError.{LiteralError}
use Rattle.digit_values.specs.declared.LiteralError.TheVariants as integers
use Rattle.digit_integers.specs.Integers.{integer_at}
use Rattle.digit_values.specs.Moves.{literal_later}
use Rattle.digit_values.specs.Bytes.{has_byte}
use Rattle.digit_integers.specs.Numbers.{is_negative_from}
use Rattle.digit_integers.specs.Numbers as signs
use Rattle.digit_integers.proofs.BothSides.{cut_integer}
use Rattle.digit_amounts.specs.declared.scaled.ScaledError.{ScaledError}
use Rattle.digit_amounts.specs.declared.scaled.ScaledError.TheVariants as scaled
use Rattle.digit_floats.specs.Bytes.{is_sign, is_minus}
use Rattle.digit_floats.specs.Float.{digits_end, digits_from, fraction_digits, mantissa_end}
use Rattle.digit_amounts.specs.Moves.{scaled_later}
use Rattle.digit_amounts.specs.Scaled.{fitting, fault, fault_after, fault_at, scaled_at, scaled_to, with_sign, read_scaled_at}
use Rattle.digit_floats.proofs.BothSides.{NoScaled, no_minus, sums, cut_minus, whole, cut_whole, cut_whole_end, cut_mantissa, mantissa_upto, cut_part, no_scaled}

no_plus : (o : Option ℕ) → holds_of is_sign o ≡ false → holds_of (λ b. b == 43) o ≡ false
no_plus None h = refl
no_plus (Some b) h = grind (arith, nat_tests)

-- ---- after a sign

module _ (P : Option ℕ → Type 0) (one : List ℕ) (from : ℕ) (other : List ℕ) (at : ℕ)
    (both : AreSameFrom P one from other at)
    (sign : (o : Option ℕ) → P o → holds_of is_sign o ≡ false) (x i : ℕ) (e : x ≡ from + i)
    (l : i ≤ at) where
  -- the sign of a type's number
  cut_plus : has_byte one x 43 ≡ has_byte other i 43
  cut_plus =
      cut_test P one from other at both (λ b. b == 43) (λ o h. no_plus o (sign o h)) x i e l

  pub cut_from : (least : ℕ)
      → signs.digits_from least one x ≡ from + signs.digits_from least other i
  cut_from least =
      cut_if (λ n. from + n) _ _ _ _ _ _
      (ap (λ b. nat_lt 0 least && b)
      (rw (cut_minus P one from other at both sign x i e l, cut_plus) refl))
      (λ is. sums from x i 1 e) e

  pub from_upto : (least : ℕ) → signs.digits_from least other i ≤ at
  from_upto least =
      grind (
        arith,
        nat_tests,
        cut_before P one from other at both is_minus (λ o h. no_minus o (sign o h)) i l,
        cut_before P one from other at both (λ b. b == 43) (λ o h. no_plus o (sign o h)) i l,
        l,
      )

module _ (word point : ℕ) (one : List ℕ) (from : ℕ) (other : List ℕ) (at : ℕ)
    (both : AreSameFrom (NoScaled word point) one from other at) where
  module _ (places most x i : ℕ) (e : x ≡ from + i) (l : i ≤ at) where
    after_later : (value : ℕ) → fault_after word one point places most x value
        ≡ from + fault_after word other point places most i value
    after_later value =
        let start = digits_end word other Integer i in
        let end = mantissa_end word other point i in
        rw (
          cut_mantissa word point one from other at both x i e l,
          cut_whole_end word point one from other at both x i e l,
          cut_range (rule_of word Integer) one from other at
              (whole word point one from other at both) start end
              (mantissa_upto word point one from other at both x i e l),
        )
        (sums from (from + start) start (fitting value places most (slice_range other start end))
        refl)

    fault_later : (integer : Result (ℕ × ℕ) LiteralError)
        → fault word one point places most x (outcome_later literal_later from integer)
        ≡ from + fault word other point places most i integer
    fault_later (Err (integers.Overflow over)) = refl
    fault_later (Err (integers.Empty none)) = after_later 0
    fault_later (Ok read) = after_later read.0

    integer_later : integer_at (rule_of word Integer) one x (most / 10 ^ places)
        ≡ outcome_later literal_later from
        (integer_at (rule_of word Integer) other i (most / 10 ^ places))
    integer_later =
        rw e
        (cut_integer (rule_of word Integer) one from other at
        (whole word point one from other at both) i (most / 10 ^ places) l)

    fault_at_later : fault_at word one point places most x
        ≡ from + fault_at word other point places most i
    fault_at_later =
        ap (fault word one point places most x) integer_later
        ∙ fault_later (integer_at (rule_of word Integer) other i (most / 10 ^ places))

    scaled_by : (none large exact : Bool) (value e fault : ℕ)
        → cond none (Err (scaled.Empty (from + e)))
        (cond large (Err (scaled.TooLarge (from + fault)))
        (cond exact (Ok (value, from + e)) (Err (scaled.TooFine (from + fault)))))
        ≡ outcome_later scaled_later from
        (cond none (Err (scaled.Empty e)) (cond large (Err (scaled.TooLarge fault))
        (cond exact (Ok (value, e)) (Err (scaled.TooFine fault)))))
    scaled_by true large exact value e fault = refl
    scaled_by false true exact value e fault = refl
    scaled_by false false true value e fault = refl
    scaled_by false false false value e fault = refl

    scaled_to_later : (integer fraction : List ℕ)
        → scaled_to word one point places most x integer fraction
        ≡ outcome_later scaled_later from
        (scaled_to word other point places most i integer fraction)
    scaled_to_later integer fraction =
        rw (cut_mantissa word point one from other at both x i e l, fault_at_later)
        (scaled_by _ _ _ _ (mantissa_end word other point i)
        (fault_at word other point places most i))

    cut_scaled_at : scaled_at word one point places most x
        ≡ outcome_later scaled_later from (scaled_at word other point places most i)
    unfolding scaled_at
    cut_scaled_at =
        rw (
          cut_whole word point one from other at both x i e l,
          cut_part word point one from other at both x i e l,
        )
        (scaled_to_later (digits_from word other Integer i)
        (fraction_digits word other point (digits_end word other Integer i)))

  signed_later : (places : ℕ) (negative : Bool) (read : Result (ℕ × ℕ) ScaledError)
      → with_sign word one point places negative (outcome_later scaled_later from read)
      ≡ outcome_later scaled_later from (with_sign word other point places negative read)
  signed_later places negative (Ok read) = refl
  signed_later places negative (Err error) = refl

  scaled_by_sign : (places : ℕ) (n m : Bool) (d e most more : ℕ) → n ≡ m → d ≡ from + e
      → most ≡ more → e ≤ at
      → with_sign word one point places n (scaled_at word one point places most d)
      ≡ outcome_later scaled_later from
      (with_sign word other point places m (scaled_at word other point places more e))
  scaled_by_sign places n m d e most more same here up l =
      rw (same, up, cut_scaled_at places more d e here l)
      (signed_later places m (scaled_at word other point places more e))

  pub cut_scaled : (places least most x i : ℕ) → x ≡ from + i → i ≤ at
      → read_scaled_at word one point places least most x
      ≡ outcome_later scaled_later from (read_scaled_at word other point places least most i)
  cut_scaled places least most x i e l =
      let none = λ (o : Option ℕ) (h : NoScaled word point o). h.sign in
      let minus : is_negative_from least one x ≡ is_negative_from least other i =
      ap (λ b. nat_lt 0 least && b)
      (cut_minus (NoScaled word point) one from other at both none x i e l) in
      scaled_by_sign places _ _ _ (signs.digits_from least other i)
      (cond (is_negative_from least one x) least most)
      (cond (is_negative_from least other i) least most)
      minus (cut_from (NoScaled word point) one from other at both none x i e l least)
      (ap (λ n. cond n least most) minus)
      (from_upto (NoScaled word point) one from other at both none x i e l least)

-- ---- what is before

module _ (word : ℕ) (text : List ℕ) (from : ℕ) (within : from ≤ length text) where
  pub moved_scaled : (point : ℕ) → NoScaled word point (byte_before text from)
      → (places least most at : ℕ)
      → read_scaled_at word text point places least most (from + at)
      ≡ outcome_later scaled_later from
      (read_scaled_at word (drop from text) point places least most at)
  moved_scaled point fresh places least most at =
      cut_scaled word point text from (drop from text) (length text + at)
      (from_rest (NoScaled word point) (no_scaled word point) text from (length text + at) within
      (omega arith) fresh)
      places least most (from + at) at refl (omega arith)
