-- The float of JSON that no byte goes on with is that of `read_float_from`.
use Rattle.std.proofs.Common.{◌≡◌, ℕ, ◌<◌, Bool, true, false, List, []}
use Rattle.std.proofs.Common.{length, refl, subst, ◌∙◌, ap, arith}
use Rattle.std.specs.Prelude.{◌&&◌, ◌==◌, nat_lt, if◌then◌else◌, Result, Ok, Err}
use Rattle.std.specs.Float.{Float, Format}
use Rattle.std.specs.Float.Numeral.{nearest_float}
use Rattle.std.proofs.lemmas.Bool.Decides.{nat_tests}
use Rattle.digit_floats.specs.Bytes.{stands, is_point, is_mark, is_minus}
use Rattle.digit_floats.specs.Float as floats
use Rattle.digit_floats.specs.Float.{exponent_digits, exponent_end, exponent_negative}
use Rattle.digit_floats.specs.Float.{mantissa_count, end_from, parts_at, plain_marks, read_at}
use Rattle.digit_floats.specs.declared.error.FloatError.{FloatError}
use Rattle.digit_floats.specs.declared.error.FloatError.TheVariants.{Empty, EmptyExponent}
use Rattle.digit_numbers.specs.declared.forms.TheConstants.{JSON}
use Rattle.digit_numbers.specs.Json.{IsDelimited}
use Rattle.digit_numbers.specs.Numbers.{word, whole_digits, whole_end, fraction, allows_point}
use Rattle.digit_numbers.specs.Numbers.{mark_at, has_exponent, parts, digits_stop}
use Rattle.digit_numbers.proofs.Digits.{refused, counts_end, counts_fraction}

module _ (text : List ℕ) (at : ℕ) (delimited : IsDelimited text (digits_stop JSON text at)) where
  abbrev said : ℕ
  said = word JSON text

  abbrev stands_point : Bool
  stands_point = stands (is_point 46) text (whole_end JSON text at)

  abbrev m : ℕ
  m = mark_at JSON text at

  -- a point counts, and a mark has digits
  allowed : stands_point ≡ true → allows_point JSON text at ≡ true
  allowed s = by (allows_point JSON text at) refl
    where
      by : (a : Bool) → allows_point JSON text at ≡ a → a ≡ true
      by true e = refl
      by false e =
          let none = refused JSON text at (λ i. refl) refl s e in
          let stop : digits_stop JSON text at ≡ whole_end JSON text at =
          rw (none.1, none.0) refl in
          let no = subst (λ (z : ℕ). stands (is_point 46) text z ≡ false) stop delimited.point in
          cc

  marked : stands (is_mark 101) text m ≡ true → has_exponent JSON text at ≡ true
  marked s = by (has_exponent JSON text at) refl
    where
      by : (b : Bool) → has_exponent JSON text at ≡ b → b ≡ true
      by true e = refl
      by false e =
          let stop : digits_stop JSON text at ≡ m = rw e refl in
          let no = subst (λ (z : ℕ). stands (is_mark 101) text z ≡ false) stop delimited.mark in
          cc

  no_digits : stands (is_mark 101) text m ≡ false → exponent_digits said text 101 m ≡ []
  unfolding exponent_digits
  no_digits e = rw e refl

  no_end : stands (is_mark 101) text m ≡ false → exponent_end said text 101 m ≡ m
  unfolding exponent_end
  no_end e = rw e refl

  stop_is : exponent_end said text 101 m ≡ digits_stop JSON text at
  stop_is = by (stands (is_mark 101) text m) refl
    where
      by : (b : Bool) → stands (is_mark 101) text m ≡ b
          → exponent_end said text 101 m ≡ digits_stop JSON text at
      by true e = rw (marked e) refl
      by false e = rw (no_digits e) (no_end e)

  marks_is : stands (is_mark 101) text m && (length (exponent_digits said text 101 m) == 0) ≡ false
  marks_is = by (stands (is_mark 101) text m) refl
    where
      some : (n : ℕ) → nat_lt 0 n ≡ true → (n == 0) ≡ false
      some n h = grind (arith, nat_tests)

      by : (b : Bool) → stands (is_mark 101) text m ≡ b
          → b && (length (exponent_digits said text 101 m) == 0) ≡ false
      by true e = some (length (exponent_digits said text 101 m)) (marked e)
      by false e = refl

  count_is : 0 < length (whole_digits JSON text at) → (mantissa_count said text 46 at == 0) ≡ false
  count_is some = grind (arith, nat_tests, some)

  abbrev end_of : ℕ → Result ℕ FloatError
  end_of mark =
      if mantissa_count said text 46 at == 0 then Err (Empty mark) else
      if stands (is_mark 101) text mark && (length (exponent_digits said text 101 mark) == 0)
      then Err (EmptyExponent (exponent_end said text 101 mark))
      else Ok (exponent_end said text 101 mark)

  ends : 0 < length (whole_digits JSON text at)
      → end_from said text plain_marks at ≡ Ok (digits_stop JSON text at)
  ends some =
      ap end_of (counts_end JSON text at allowed)
      ∙ rw (count_is some, marks_is) (ap (λ (end : ℕ). Ok end) stop_is)

  abbrev nearest : Format → Bool → ℕ → List ℕ → Float
  nearest format negative m ds =
      nearest_float format negative (record {
        whole = whole_digits JSON text at;
        point = false;
        fraction = ds;
        exponent_negative = exponent_negative said text 101 m;
        exponent = exponent_digits said text 101 m;
        len = 0;
      })

  value : (format : Format) (negative : Bool)
      → nearest_float format negative (parts_at said text plain_marks at)
      ≡ nearest_float format negative (parts JSON text at)
  value format negative =
      ap (λ (m : ℕ). nearest format negative m (fraction JSON text at))
      (counts_end JSON text at allowed)
      ∙ ap (nearest format negative m) (counts_fraction JSON text at allowed)

  pub float_read : (start : ℕ) (format : Format) → 0 < length (whole_digits JSON text at)
      → floats.past_sign text start ≡ at
      → read_at said text plain_marks format start
      ≡ Ok (
        nearest_float format (stands is_minus text start) (parts JSON text at),
        digits_stop JSON text at,
      )
  float_read start format some past =
      rw (past, ends some)
      (ap (λ x. Ok (x, digits_stop JSON text at)) (value format (stands is_minus text start)))
