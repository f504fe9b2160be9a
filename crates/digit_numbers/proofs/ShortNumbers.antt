-- A short number: digits, with some in a fraction, if a point follows them, and in an exponent, if
-- its mark does.
use Rattle.std.proofs.Common.{◌≡◌, ℕ, ◌+◌, ◌*◌, ◌^◌, ◌<◌, Bool, true, false, IsTrue, Option, Some, None, slice_get, List, [], ◌++◌, length, refl, sym, ap, subst, ◌∙◌, arith}
use Rattle.std.specs.Prelude.{◌&&◌, ◌||◌, nat_lt, if◌then◌else◌}
use Rattle.std.specs.Float.{Float, Format}
use Rattle.std.specs.Float.Ieee.{round}
use Rattle.std.specs.Float.Numeral.{nearest_float}
use Rattle.std.specs.Str.Parse.{digits_value}
use Rattle.std.specs.Char.{is_ascii_digit}
use Rattle.std.proofs.lemmas.Bool.Decides.{nat_tests}
use Rattle.lexical_format.specs.Word.{separator, is_supported}
use Rattle.lexical_digits.specs.declared.skip.rule.Rule.{Rule}
use Rattle.lexical_digits.specs.declared.skip.component.Component.TheVariants.{Integer}
use Rattle.lexical_digits.specs.Cursor.{holds_of}
use Rattle.lexical_digits.specs.Separators.{is_separator}
use Rattle.lexical_digits.specs.State.{rule_of}
use Rattle.lexical_digits.proofs.Rule.Supported.{supported_rule}
use Rattle.lexical_digits.proofs.Fields.AtTheCursor.{digit_apart}
use Rattle.digit_floats.specs.Bytes.{stands, is_point, is_mark}
use Rattle.digit_floats.specs.Float.{fraction_end, mantissa_end, exponent_digits, exponent_end}
use Rattle.digit_floats.specs.Float.{exponent_negative, parts_at, IsDecimal}
use Rattle.digit_floats.proofs.Decimals.{same_digit}
use Rattle.digit_numbers.specs.declared.form.Form.{Form}
use Rattle.digit_numbers.specs.Forms.{allows_exponent}
use Rattle.digit_numbers.specs.Numbers.{word, whole_digits, whole_end, fraction, mark, mark_at, is_float}
use Rattle.digit_numbers.specs.Numbers.{allows_point, has_point, exponent, has_exponent}
use Rattle.digit_numbers.specs.Numbers.{has_more_zeros, parts, digits_stop}
use Rattle.digit_numbers.specs.Reads.{IsFloatAt}
use Rattle.digit_numbers.proofs.Digits.{counts_fraction, counts_end, is, is_none, wholes}
unfoldable pub use Rattle.digit_floats.specs.Float.{mantissas}

-- no exponent follows a byte that is no mark
pub no_mark : (word : ℕ) (text : List ℕ) (mark at : ℕ) → stands (is_mark mark) text at ≡ false
    → digits_value 10 (exponent_digits word text mark at) ≡ 0
unfolding exponent_digits
no_mark word text mark at h = rw h refl

-- a mantissa without a point ends where its integer does
pub no_point_end : (word : ℕ) (text : List ℕ) (point at : ℕ)
    → stands (is_point point) text at ≡ false
    → fraction_end word text point at ≡ at
unfolding fraction_end
no_point_end word text point at h = rw h refl

-- where a digit stands, no separator does
pub no_separator : (word : ℕ) (text : List ℕ) (at : ℕ) → IsTrue (is_supported word) → IsDecimal word
    → stands is_ascii_digit text at ≡ true
    → stands (is_separator (separator word)) text at ≡ false
no_separator word text at supported decimal h = by (slice_get text at) h
  where
    r : Rule
    r = rule_of word Integer

    by : (o : Option ℕ) → holds_of is_ascii_digit o ≡ true
        → holds_of (is_separator (separator word)) o ≡ false
    by None e = refl
    by (Some b) e =
        digit_apart r b (supported_rule word Integer supported) (same_digit r b decimal.0 ∙ e)

either : (s a e : Bool) → (s ≡ true → a ≡ true) → (s ≡ false → e ≡ true) → s && a || e ≡ true
either true true e h k = refl
either true false e h k = let f = h refl in cc
either false a e h k = k refl

-- floats of the same digits
same_digits : (format : Format) (negative : Bool) (whole a b c d : List ℕ) (m n : Bool)
    → a ≡ b → c ≡ d → m ≡ n
    → round format negative (digits_value 10 (whole ++ a) * 10 ^
    (if m then 0 else digits_value 10 c))
    (10 ^ (length a + (if m then digits_value 10 c else 0)))
    ≡ round format negative (digits_value 10 (whole ++ b) * 10 ^
    (if n then 0 else digits_value 10 d))
    (10 ^ (length b + (if n then digits_value 10 d else 0)))
same_digits format negative whole a b c d m n p q r = rw (p, q, r) refl

module _ (f : Form) (text : List ℕ) (at : ℕ) (one : f.other_mark ≡ None) where
  mark_is : mark f text at ≡ f.marks.exponent
  mark_is = rw one refl

  abbrev stands_point : Bool
  stands_point = stands (is_point f.marks.point) text (whole_end f text at)

  abbrev marked_at : ℕ → Bool
  marked_at i = stands (is_mark f.marks.exponent) text i

  -- the exponent that a mark begins, whether the form has one here or not
  abbrev digits_after : ℕ → List ℕ
  digits_after i = exponent_digits (word f text) text f.marks.exponent i

  unmarked : marked_at (mark_at f text at) ≡ false
      → exponent f text at ≡ digits_after (mark_at f text at)
  unfolding exponent_digits
  unmarked h = by (allows_exponent f.exponents (nat_lt 0 (length (fraction f text at))))
    where
      by : (b : Bool) → (if b then
          exponent_digits (word f text) text (mark f text at) (mark_at f text at) else [])
          ≡ digits_after (mark_at f text at)
      by true = rw mark_is refl
      by false = rw h refl

  none_after : (i : ℕ) → marked_at i ≡ false → nat_lt 0 (length (digits_after i)) ≡ false
  unfolding exponent_digits
  none_after i h = rw h refl

  -- digits that neither a point nor a mark follows are no float
  pub no_float : stands_point ≡ false → marked_at (whole_end f text at) ≡ false
      → is_float f text at ≡ false
  no_float p m =
      let none : has_point f text at ≡ false = rw p refl in
      let here : whole_end f text at ≡ mark_at f text at = rw none refl in
      let no : marked_at (mark_at f text at) ≡ false = subst (λ i. marked_at i ≡ false) here m in
      let less : has_exponent f text at ≡ false =
      subst (λ ds. nat_lt 0 (length ds) ≡ false) (sym (unmarked no)) (none_after _ no) in
      is_none f text at none less

  module _ (some : 0 < length (whole_digits f text at))
      (pointed : stands_point ≡ true → 0 < length (fraction f text at)) where
    counts : stands_point ≡ true → allows_point f text at ≡ true
    counts s = let more = pointed s in grind (arith, nat_tests, some)

    end_is : mantissa_end (word f text) text f.marks.point at ≡ mark_at f text at
    end_is = counts_end f text at counts

    same : fraction f text at ≡ (parts f text at).fraction
    same = counts_fraction f text at counts

    same_float : exponent f text at ≡ digits_after (mark_at f text at)
        → (format : Format) (negative : Bool)
        → nearest_float format negative (parts_at (word f text) text f.marks at)
        ≡ nearest_float format negative (parts f text at)
    same_float e format negative =
        same_digits format negative (whole_digits f text at) _ _ _ _ _ _ same
        (ap digits_after end_is ∙ sym e)
        (ap (λ i. exponent_negative (word f text) text f.marks.exponent i) end_is
        ∙ ap (λ m. exponent_negative (word f text) text m (mark_at f text at)) (sym mark_is))

    stop_is : exponent f text at ≡ digits_after (mark_at f text at)
        → (marked_at (mark_at f text at) ≡ true
        → 0 < length (digits_after (mark_at f text at)))
        → exponent_end (word f text) text f.marks.exponent (mark_at f text at) ≡ digits_stop f text
        at
    unfolding exponent_end
    stop_is e more = by (marked_at (mark_at f text at)) refl
      where
        by : (b : Bool) → marked_at (mark_at f text at) ≡ b
            → exponent_end (word f text) text f.marks.exponent (mark_at f text at)
            ≡ digits_stop f text at
        by true h =
            let l = more h in
            let has : nat_lt 0 (length (digits_after (mark_at f text at))) ≡ true =
            grind (arith, nat_tests, l) in
            let has_one : has_exponent f text at ≡ true =
            subst (λ ds. nat_lt 0 (length ds) ≡ true) (sym e) has in
            rw (has_one, mark_is) refl
        by false h =
            let none : has_exponent f text at ≡ false =
            subst (λ ds. nat_lt 0 (length ds) ≡ false) (sym e) (none_after _ h) in
            rw (none, h) refl

    module _ (zeros : has_more_zeros f text at ≡ false) (format : Format) (negative : Bool)
        (x : Float) (value : x ≡ nearest_float format negative
        (parts_at (word f text) text f.marks at)) where
      positive : 0 < length (whole_digits f text at) + length (fraction f text at)
      positive = omega (arith, some)

      -- digits with a fraction that no mark follows
      pub pointed_float : stands_point ≡ true
          → marked_at (mantissa_end (word f text) text f.marks.point at) ≡ false
          → IsFloatAt f text at negative format x (mantissa_end (word f text) text f.marks.point at)
      pointed_float s m =
          let no : marked_at (mark_at f text at) ≡ false =
          subst (λ i. marked_at i ≡ false) end_is m in
          let e = unmarked no in
          let one = either stands_point (allows_point f text at) (has_exponent f text at) counts
          (λ (n : stands_point ≡ false). let a = sym s ∙ n in cc) in
          let none : has_exponent f text at ≡ false =
          subst (λ ds. nat_lt 0 (length ds) ≡ false) (sym e) (none_after _ no) in
          let last : mark_at f text at ≡ digits_stop f text at = rw none refl in
          record {
            is = is f text at positive zeros same one;
            value = value ∙ same_float e format negative;
            ends = end_is ∙ last;
          }

      -- digits with a fraction or an exponent, where digits follow the mark
      pub powered_float : allows_exponent f.exponents (nat_lt 0 (length (fraction f text at))) ≡
          true
          → (marked_at (mantissa_end (word f text) text f.marks.point at) ≡ true
          → 0 < length (digits_after (mantissa_end (word f text) text f.marks.point at)))
          → (stands_point ≡ false
          → marked_at (mantissa_end (word f text) text f.marks.point at) ≡ true)
          → IsFloatAt f text at negative format x (exponent_end (word f text) text f.marks.exponent
          (mantissa_end (word f text) text f.marks.point at))
      powered_float allowed follows marked =
          let e : exponent f text at ≡ digits_after (mark_at f text at) =
          rw (allowed, mark_is) refl in
          let more = subst (λ i. marked_at i ≡ true → 0 < length (digits_after i)) end_is follows in
          let last = stop_is e more in
          let power : stands_point ≡ false → has_exponent f text at ≡ true =
          λ n. let l = follows (marked n) in
          let has : nat_lt 0 (length (digits_after
          (mantissa_end (word f text) text f.marks.point at))) ≡ true =
          grind (arith, nat_tests, l) in
          subst (λ ds. nat_lt 0 (length ds) ≡ true) (ap digits_after end_is ∙ sym e) has in
          record {
            is = is f text at positive zeros same
                (either stands_point (allows_point f text at) (has_exponent f text at) counts
                power);
            value = value ∙ same_float e format negative;
            ends = ap (λ i. exponent_end (word f text) text f.marks.exponent i) end_is ∙ last;
          }

-- to be named in an attribute
pub ruleset ends = (no_point_end)

pub ruleset plain = (no_float, wholes)
