-- A float from a position on, in a text and in one that begins there: what is before the position,
-- and what follows a byte that ends the float, make no difference. So it is with a decimal number.
use Rattle.std.proofs.Common.{◌≡◌, ℕ, ◌+◌, ◌-◌, ◌≤◌, Bool, true, false, cond, List, Option, None, Some, length, drop, refl, arith}
use Rattle.std.specs.Prelude.{◌==◌, ◌&&◌, if◌then◌else◌, Result, Ok, Err}
use Rattle.std.specs.Float.{Format}
use Rattle.std.specs.Str.Parse.{digits_value}
use Rattle.std.specs.Float.Numeral.{Parts, nearest_float}
use Rattle.std.proofs.lemmas.Bool.Decides.{nat_tests}
use Rattle.lexical_digits.specs.Cursor.{holds_of}
use Rattle.lexical_digits.specs.Moves.{byte_before, outcome_later}
use Rattle.lexical_digits.specs.declared.skip.component.Component.{Component}
use Rattle.lexical_digits.specs.declared.skip.component.Component.TheVariants.{Integer, Fraction, Exponent}
use Rattle.lexical_digits.specs.State.{rule_of}
use Rattle.lexical_digits.proofs.Calls.BothSides.{AreSameFrom, IsOther, weaker, from_rest, cut_if, cut_and, cut_test, cut_before, cut_stop, cut_upto}
use Rattle.digit_values.proofs.BothSides.{cut_between}
use Rattle.digit_floats.specs.declared.error.FloatError.{FloatError}
use Rattle.digit_floats.specs.declared.error.FloatError.TheVariants as floats
use Rattle.digit_floats.specs.declared.parts.Marks.{Marks}
use Rattle.digit_floats.specs.Bytes.{stands, is_sign, is_minus, is_point, is_mark}
use Rattle.digit_floats.specs.Float.{past_sign, digits_end, digits_from, fraction_digits, fraction_end, exponent_digits, exponent_end, exponent_negative, parts_at, mantissa_end, end_from, end_at, with_end, read_at}
use Rattle.digit_floats.specs.Decimals.{decimal_of, signed_exponent, decimal_at, read_decimal_at}
use Rattle.digit_floats.specs.Moves.{float_later}

-- ---- what no number goes on with

-- no scaled number goes on with this byte, if there is one
pub record NoScaled (word dot : ℕ) (o : Option ℕ) : Type 0 where
  pub whole : IsOther (rule_of word Integer) o
  pub part : IsOther (rule_of word Fraction) o
  pub point : holds_of (is_point dot) o ≡ false
  pub sign : holds_of is_sign o ≡ false

-- nor does a float
pub record NoFloat (word : ℕ) (marks : Marks) (o : Option ℕ) : Type 0 where
  pub scaled : NoScaled word marks.point o
  pub power : IsOther (rule_of word Exponent) o
  pub mark : holds_of (is_mark marks.exponent) o ≡ false

-- where there is no byte
pub no_scaled : (word dot : ℕ) → NoScaled word dot None
no_scaled word dot = record { whole = refl; part = refl; point = refl; sign = refl }

pub no_float : (word : ℕ) (marks : Marks) → NoFloat word marks None
no_float word marks =
    record { scaled = no_scaled word marks.point; power = refl; mark = refl }

pub no_minus : (o : Option ℕ) → holds_of is_sign o ≡ false → holds_of is_minus o ≡ false
no_minus None h = refl
no_minus (Some b) h = grind (arith, nat_tests)

pub sums : (from x i more : ℕ) → x ≡ from + i → x + more ≡ from + (i + more)
sums from x i more e = omega arith

-- ---- the digits of a component

module _ (word : ℕ) (k : Component) (one : List ℕ) (from : ℕ) (other : List ℕ) (at : ℕ)
    (both : AreSameFrom (IsOther (rule_of word k)) one from other at) (x i : ℕ) (e : x ≡ from + i)
    (l : i ≤ at) where
  pub cut_end : digits_end word one k x ≡ from + digits_end word other k i
  unfolding digits_end
  cut_end = rw e (cut_stop (rule_of word k) one from other at both i 0 l)

  pub end_upto : digits_end word other k i ≤ at
  unfolding digits_end
  end_upto = cut_upto (rule_of word k) one from other at both i 0 l

  pub cut_digits : digits_from word one k x ≡ digits_from word other k i
  unfolding digits_from
  cut_digits =
      rw (cut_end, e)
      (cut_between (rule_of word k) one from other at both i (digits_end word other k i) end_upto)

-- ---- after a sign

module _ (P : Option ℕ → Type 0) (one : List ℕ) (from : ℕ) (other : List ℕ) (at : ℕ)
    (both : AreSameFrom P one from other at)
    (sign : (o : Option ℕ) → P o → holds_of is_sign o ≡ false) (x i : ℕ) (e : x ≡ from + i)
    (l : i ≤ at) where
  pub cut_sign : past_sign one x ≡ from + past_sign other i
  cut_sign =
      cut_if (λ n. from + n) _ _ _ _ _ _ (cut_test P one from other at both is_sign sign x i e l)
      (λ is. sums from x i 1 e) e

  pub sign_upto : past_sign other i ≤ at
  sign_upto = grind (arith, nat_tests, cut_before P one from other at both is_sign sign i l, l)

  pub cut_minus : stands is_minus one x ≡ stands is_minus other i
  cut_minus =
      cut_test P one from other at both is_minus (λ o h. no_minus o (sign o h)) x i e l

-- ---- after a point

module _ (word point : ℕ) (one : List ℕ) (from : ℕ) (other : List ℕ) (at : ℕ)
    (both : AreSameFrom (NoScaled word point) one from other at) where
  pub whole : AreSameFrom (IsOther (rule_of word Integer)) one from other at
  whole = weaker (NoScaled word point) _ (λ o h. h.whole) one from other at both

  part : AreSameFrom (IsOther (rule_of word Fraction)) one from other at
  part = weaker (NoScaled word point) _ (λ o h. h.part) one from other at both

  module _ (x i : ℕ) (e : x ≡ from + i) (l : i ≤ at) where
    pub cut_point : stands (is_point point) one x ≡ stands (is_point point) other i
    cut_point =
        cut_test (NoScaled word point) one from other at both (is_point point) (λ o h. h.point) x i
        e l

    pub point_before : stands (is_point point) other i ≡ true → i + 1 ≤ at
    point_before =
        cut_before (NoScaled word point) one from other at both (is_point point) (λ o h. h.point) i
        l

    pub cut_fraction : fraction_digits word one point x ≡ fraction_digits word other point i
    unfolding fraction_digits
    cut_fraction =
        cut_if (λ (ds : List ℕ). ds) _ _ _ _ _ _ cut_point
        (λ is. cut_digits word Fraction one from other at part (x + 1) (i + 1) (sums from x i 1 e)
        (point_before is)) refl

    pub cut_fraction_end : fraction_end word one point x ≡ from + fraction_end word other point i
    unfolding fraction_end
    cut_fraction_end =
        cut_if (λ n. from + n) _ _ _ _ _ _ cut_point
        (λ is. cut_end word Fraction one from other at part (x + 1) (i + 1) (sums from x i 1 e)
        (point_before is)) e

    fraction_upto_if : (b : Bool) → (b ≡ true → i + 1 ≤ at)
        → (i + 1 ≤ at → digits_end word other Fraction (i + 1) ≤ at)
        → cond b (digits_end word other Fraction (i + 1)) i ≤ at
    fraction_upto_if true h k = k (h refl)
    fraction_upto_if false h k = l

    pub fraction_upto : fraction_end word other point i ≤ at
    unfolding fraction_end
    fraction_upto =
        fraction_upto_if _ point_before
        (end_upto word Fraction one from other at part (x + 1) (i + 1) (sums from x i 1 e))

    pub cut_whole : digits_from word one Integer x ≡ digits_from word other Integer i
    cut_whole = cut_digits word Integer one from other at whole x i e l

    pub cut_whole_end : digits_end word one Integer x ≡ from + digits_end word other Integer i
    cut_whole_end = cut_end word Integer one from other at whole x i e l

    pub whole_upto : digits_end word other Integer i ≤ at
    whole_upto = end_upto word Integer one from other at whole x i e l

  module _ (x i : ℕ) (e : x ≡ from + i) (l : i ≤ at) where
    pub cut_mantissa : mantissa_end word one point x ≡ from + mantissa_end word other point i
    cut_mantissa = cut_fraction_end _ _ (cut_whole_end x i e l) (whole_upto x i e l)

    pub mantissa_upto : mantissa_end word other point i ≤ at
    mantissa_upto = fraction_upto _ _ (cut_whole_end x i e l) (whole_upto x i e l)

    pub cut_part : fraction_digits word one point (digits_end word one Integer x)
        ≡ fraction_digits word other point (digits_end word other Integer i)
    cut_part = cut_fraction _ _ (cut_whole_end x i e l) (whole_upto x i e l)

-- ---- after the mark of an exponent

module _ (word : ℕ) (marks : Marks) (one : List ℕ) (from : ℕ) (other : List ℕ) (at : ℕ)
    (both : AreSameFrom (NoFloat word marks) one from other at) where
  pub scaled_from : AreSameFrom (NoScaled word marks.point) one from other at
  scaled_from = weaker (NoFloat word marks) _ (λ o h. h.scaled) one from other at both

  power : AreSameFrom (IsOther (rule_of word Exponent)) one from other at
  power = weaker (NoFloat word marks) _ (λ o h. h.power) one from other at both

  none_signed : (o : Option ℕ) → NoFloat word marks o → holds_of is_sign o ≡ false
  none_signed o h = h.scaled.sign

  module _ (x i : ℕ) (e : x ≡ from + i) (l : i ≤ at) where
    cut_mark : stands (is_mark marks.exponent) one x ≡ stands (is_mark marks.exponent) other i
    cut_mark =
        cut_test (NoFloat word marks) one from other at both (is_mark marks.exponent)
        (λ o h. h.mark) x i e l

    mark_before : stands (is_mark marks.exponent) other i ≡ true → i + 1 ≤ at
    mark_before =
        cut_before (NoFloat word marks) one from other at both (is_mark marks.exponent)
        (λ o h. h.mark) i l

    next : x + 1 ≡ from + (i + 1)
    next = sums from x i 1 e

    cut_next : (i + 1 ≤ at) → past_sign one (x + 1) ≡ from + past_sign other (i + 1)
    cut_next low =
        cut_sign (NoFloat word marks) one from other at both none_signed (x + 1) (i + 1) next low

    next_upto : i + 1 ≤ at → past_sign other (i + 1) ≤ at
    next_upto low =
        sign_upto (NoFloat word marks) one from other at both none_signed (x + 1) (i + 1) next low

    pub cut_exponent : exponent_digits word one marks.exponent x
        ≡ exponent_digits word other marks.exponent i
    unfolding exponent_digits
    cut_exponent =
        cut_if (λ (ds : List ℕ). ds) _ _ _ _ _ _ cut_mark (λ is.
        cut_digits word Exponent one from other at power _ _ (cut_next (mark_before is))
        (next_upto (mark_before is))) refl

    pub cut_exponent_end : exponent_end word one marks.exponent x
        ≡ from + exponent_end word other marks.exponent i
    unfolding exponent_end
    cut_exponent_end =
        cut_if (λ n. from + n) _ _ _ _ _ _ cut_mark (λ is.
        cut_end word Exponent one from other at power _ _ (cut_next (mark_before is))
        (next_upto (mark_before is))) e

    pub cut_negative : exponent_negative word one marks.exponent x
        ≡ exponent_negative word other marks.exponent i
    unfolding exponent_negative
    cut_negative =
        cut_and _ _ _ _ cut_mark (λ is.
        cut_minus (NoFloat word marks) one from other at both none_signed (x + 1) (i + 1) next
        (mark_before is))

  -- ---- the number, and the float

  module _ (x i : ℕ) (e : x ≡ from + i) (l : i ≤ at) where
    abbrev point : ℕ
    point = digits_end word other Integer i

    abbrev mark : ℕ
    mark = mantissa_end word other marks.point i

    low_point : point ≤ at
    low_point = whole_upto word marks.point one from other at scaled_from x i e l

    low_mark : mark ≤ at
    low_mark = mantissa_upto word marks.point one from other at scaled_from x i e l

    parts_later : parts_at word one marks x ≡ parts_at word other marks i
    parts_later =
        let len : from + exponent_end word other marks.exponent mark - x
        ≡ exponent_end word other marks.exponent mark - i = omega (arith, e) in
        rw (
          cut_whole word marks.point one from other at scaled_from x i e l,
          cut_whole_end word marks.point one from other at scaled_from x i e l,
          cut_point word marks.point one from other at scaled_from (from + point) point refl
              low_point,
          cut_fraction word marks.point one from other at scaled_from (from + point) point refl
              low_point,
          cut_fraction_end word marks.point one from other at scaled_from (from + point) point refl
              low_point,
          cut_negative (from + mark) mark refl low_mark,
          cut_exponent (from + mark) mark refl low_mark,
          cut_exponent_end (from + mark) mark refl low_mark,
          len,
        ) refl

    -- a position that a float ends at, so much later
    abbrev end_later : Result ℕ FloatError → Result ℕ FloatError
    end_later (Ok end) = Ok (from + end)
    end_later (Err error) = Err (float_later from error)

    ends_by : (p q : Parts) (b c : Bool) (m n s t : ℕ) → p ≡ q → b ≡ c → m ≡ from + n
        → s ≡ from + t → (if length p.whole + length p.fraction == 0 then Err (floats.Empty m)
        else if b && (length p.exponent == 0) then Err (floats.EmptyExponent s) else Ok s)
        ≡ end_later (if length q.whole + length q.fraction == 0 then Err (floats.Empty n)
        else if c && (length q.exponent == 0) then Err (floats.EmptyExponent t) else Ok t)
    ends_by p q b c m n s t h k u v =
        rw (h, k, u, v)
        (by (length q.whole + length q.fraction == 0) (c && (length q.exponent == 0)))
      where
        by : (none bare : Bool)
            → (if none then Err (floats.Empty (from + n))
            else if bare then Err (floats.EmptyExponent (from + t)) else Ok (from + t))
            ≡ end_later
            (if none then Err (floats.Empty n)
            else if bare then Err (floats.EmptyExponent t) else Ok t)
        by true bare = refl
        by false true = refl
        by false false = refl

    end_from_later : end_from word one marks x ≡ end_later (end_from word other marks i)
    end_from_later =
        let mark_there = cut_mantissa word marks.point one from other at scaled_from x i e l in
        ends_by (parts_at word one marks x) (parts_at word other marks i) _ _ _ _ _ _ parts_later
        (cut_mark _ mark mark_there low_mark) mark_there
        (cut_exponent_end _ mark mark_there low_mark)

    with_later : {A : Type 0} (y : A) (end : Result ℕ FloatError)
        → with_end y (end_later end) ≡ outcome_later float_later from (with_end y end)
    with_later y (Ok end) = refl
    with_later y (Err error) = refl

  module _ (x i : ℕ) (e : x ≡ from + i) (l : i ≤ at) where
    abbrev start : ℕ
    start = past_sign other i

    past : past_sign one x ≡ from + start
    past = cut_sign (NoFloat word marks) one from other at both none_signed x i e l

    low : start ≤ at
    low = sign_upto (NoFloat word marks) one from other at both none_signed x i e l

    minus : stands is_minus one x ≡ stands is_minus other i
    minus = cut_minus (NoFloat word marks) one from other at both none_signed x i e l

    float_by_parts : (f : Format) (a b : Bool) (p q : Parts) (r d : Result ℕ FloatError)
        → a ≡ b → p ≡ q → r ≡ end_later x i e l d
        → with_end (nearest_float f a p) r
        ≡ outcome_later float_later from (with_end (nearest_float f b q) d)
    float_by_parts f a b p q r d same parts end =
        rw (same, parts, end) (with_later x i e l (nearest_float f b q) d)

    pub cut_float : (f : Format) → read_at word one marks f x
        ≡ outcome_later float_later from (read_at word other marks f i)
    cut_float f =
        float_by_parts f _ _ _ _ _ _ minus (parts_later _ start past low)
        (end_from_later _ start past low)

    -- ---- a decimal number

    decimal_by_parts : (a b : Bool) (p q : Parts) → a ≡ b → p ≡ q
        → decimal_of a p.whole p.fraction
        (signed_exponent p.exponent_negative (digits_value 10 p.exponent))
        ≡ decimal_of b q.whole q.fraction
        (signed_exponent q.exponent_negative (digits_value 10 q.exponent))
    decimal_by_parts a b p q same parts = rw (same, parts) refl

    decimal_later : decimal_at word one marks x ≡ decimal_at word other marks i
    decimal_later =
        decimal_by_parts _ _ (parts_at word one marks (past_sign one x))
        (parts_at word other marks start) minus (parts_later _ start past low)

    pub cut_decimal : read_decimal_at word one marks x
        ≡ outcome_later float_later from (read_decimal_at word other marks i)
    cut_decimal =
        rw (end_from_later _ start past low, decimal_later)
        (with_later x i e l (decimal_at word other marks i) (end_at word other marks i))

-- ---- what is before

module _ (word : ℕ) (text : List ℕ) (from : ℕ) (within : from ≤ length text) where
  module _ (marks : Marks) (fresh : NoFloat word marks (byte_before text from)) (at : ℕ) where
    rest_is : AreSameFrom (NoFloat word marks) text from (drop from text) (length text + at)
    rest_is =
        from_rest (NoFloat word marks) (no_float word marks) text from (length text + at) within
        (omega arith) fresh

    pub moved_float : (f : Format) → read_at word text marks f (from + at)
        ≡ outcome_later float_later from (read_at word (drop from text) marks f at)
    moved_float f =
        cut_float word marks text from (drop from text) (length text + at) rest_is (from + at) at
        refl (omega arith) f

    pub moved_decimal : read_decimal_at word text marks (from + at)
        ≡ outcome_later float_later from (read_decimal_at word (drop from text) marks at)
    moved_decimal =
        cut_decimal word marks text from (drop from text) (length text + at) rest_is (from + at) at
        refl (omega arith)
