-- Digits with a point and an exponent, and by themselves.
use Rattle.std.proofs.Common.{◌≡◌, ℕ, ◌+◌, ◌<◌, Bool, true, false, Option, Some, None, List, []}
use Rattle.std.proofs.Common.{length, refl, sym, ◌∙◌, ap, arith, slice_get}
use Rattle.std.specs.Prelude.{not, ◌&&◌, ◌||◌, ◌++◌, ◌^◌, nat_lt, if◌then◌else◌, IfSome}
use Rattle.std.specs.Char.{is_ascii_alphabetic, is_ascii_alphanumeric}
use Rattle.std.specs.Float.{Format}
use Rattle.std.specs.Float.Ieee.{round}
use Rattle.std.specs.Str.Parse.{digits_value}
use Rattle.std.specs.Float.Numeral.{has_digits, nearest_float}
use Rattle.std.proofs.lemmas.Bool.Decides.{nat_tests}
use Rattle.lexical_digits.specs.Cursor.{holds_of}
use Rattle.digit_floats.specs.Bytes.{stands, is_point, is_mark}
use Rattle.digit_languages.specs.declared.language.Language.{Language}
use Rattle.lexical_digits.specs.declared.skip.component.Component.TheVariants.{Integer}
use Rattle.digit_values.specs.Bytes.{has_byte}
use Rattle.digit_floats.specs.Float.{digits_end, exponent_digits, fraction_digits, fraction_end}
use Rattle.digit_floats.specs.Float.{mantissa_end}
use Rattle.digit_numbers.specs.declared.form.Form.{Form}
use Rattle.digit_numbers.specs.Forms.{IsForm, allows_exponent, hex_form, is_always_hex}
use Rattle.digit_numbers.specs.Forms.{may_be_point, may_mark}
use Rattle.digit_numbers.specs.Forms.{is_pointed_hex}
use Rattle.digit_numbers.specs.Numbers.{word, whole_digits, whole_end, fraction, allows_point}
use Rattle.digit_numbers.specs.Numbers.{has_point, mark, mark_at, mark_or, exponent, has_exponent}
use Rattle.digit_numbers.specs.Numbers.{parts}
use Rattle.digit_numbers.specs.Numbers.{digits_stop, has_more_zeros, is_float, is_hex_float}
use Rattle.digit_numbers.specs.Reads.{whole_of}
use Rattle.digit_numbers.proofs.Zeros.{large_plain}
use Rattle.digit_numbers.proofs.Alone.{nearest_alone, no_exponent}

-- no mark is a point
point_no_mark : (point mark byte : ℕ) → is_ascii_alphanumeric point ≡ false
    → is_ascii_alphabetic mark ≡ true → is_point point byte ≡ true → is_mark mark byte ≡ false
point_no_mark point mark byte p m e = grind (arith, nat_tests)

letter : (l : Language) (mark : ℕ) → may_mark l mark ≡ true → is_ascii_alphabetic mark ≡ true
letter l mark h = grind (arith, nat_tests)

no_letter : (l : Language) (point : ℕ) → may_be_point l point ≡ true
    → is_ascii_alphanumeric point ≡ false
no_letter l point h = grind (arith, nat_tests)

-- each mark of a form is a letter
letter_of : (f : Form) (text : List ℕ) (i : ℕ) → IsForm f
    → is_ascii_alphabetic (mark_or f text f.other_mark i) ≡ true
letter_of f text i form = by f.other_mark form.other_mark
  where
    one : is_ascii_alphabetic f.marks.exponent ≡ true
    one = letter f.integers f.marks.exponent form.mark

    by : (o : Option ℕ) → IfSome o (λ mark. may_mark f.integers mark ≡ true)
        → is_ascii_alphabetic (mark_or f text o i) ≡ true
    by None h = one
    by (Some other) h = or (stands (is_mark other) text i)
      where
        or : (b : Bool) → is_ascii_alphabetic (if b then other else f.marks.exponent) ≡ true
        or true = letter f.integers other h
        or false = one

-- ---- of truths

neither : (a b p e : Bool) → p ≡ false → e ≡ false → a && b && (p || e) ≡ false
neither true true true e p q = cc
neither true true false e p q = q
neither true false p e h k = refl
neither false b p e h k = refl

hex_neither : (d e s a p w : Bool) → e ≡ false → (if s then p else w) ≡ false
    → d && (e || (if s then a && p else w)) ≡ false
hex_neither false e s a p w h k = refl
hex_neither true true s a p w h k = h
hex_neither true false true true p w h k = k
hex_neither true false true false p w h k = refl
hex_neither true false false a p w h k = k

hex_refused : (d e s a p w : Bool) → e ≡ false → s ≡ true → a ≡ false
    → d && (e || (if s then a && p else w)) ≡ false
hex_refused false e s a p w h k m = refl
hex_refused true true s a p w h k m = h
hex_refused true false true true p w h k m = cc
hex_refused true false true false p w h k m = refl
hex_refused true false false a p w h k m = cc

hex_some : (d e s a p w : Bool) → d ≡ true → (s ≡ true → a ≡ true)
    → e || (if s then p else w) ≡ true → d && (e || (if s then a && p else w)) ≡ true
hex_some false e s a p w h k m = h
hex_some true true s a p w h k m = refl
hex_some true false true true p w h k m = m
hex_some true false true false p w h k m = k refl
hex_some true false false a p w h k m = m

module _ (f : Form) (text : List ℕ) (at : ℕ) where
  abbrev stands_point : Bool
  stands_point = stands (is_point f.marks.point) text (whole_end f text at)

  -- if a point counts where one stands, all digits do
  pub counts_fraction : (stands_point ≡ true → allows_point f text at ≡ true)
      → fraction f text at ≡ (parts f text at).fraction
  unfolding fraction_digits
  counts_fraction h = by stands_point (allows_point f text at) refl h
    where
      by : (s a : Bool) → stands_point ≡ s → (s ≡ true → a ≡ true)
          → fraction f text at ≡ (if s && a then fraction f text at else [])
      by true true e h = refl
      by true false e h = let f = h refl in cc
      by false a e h = rw e refl

  pub counts_end : (stands_point ≡ true → allows_point f text at ≡ true)
      → mantissa_end (word f text) text f.marks.point at ≡ mark_at f text at
  unfolding fraction_end
  counts_end h = by stands_point (allows_point f text at) refl h
    where
      by : (s a : Bool) → stands_point ≡ s → (s ≡ true → a ≡ true)
          → fraction_end (word f text) text f.marks.point (whole_end f text at)
          ≡ (if s && a then fraction_end (word f text) text f.marks.point (whole_end f text at)
          else whole_end f text at)
      by true true e h = refl
      by true false e h = let f = h refl in cc
      by false a e h = rw e refl

  -- a point that doesn't count has no exponent
  module _ (letters : (i : ℕ) → is_ascii_alphabetic (mark_or f text f.other_mark i) ≡ true)
      (point : is_ascii_alphanumeric f.marks.point ≡ false) (s : stands_point ≡ true) where
    no_mark : (i : ℕ)
        → stands (is_mark (mark_or f text f.other_mark i)) text (whole_end f text at) ≡ false
    no_mark i = by (slice_get text (whole_end f text at)) s
      where
        by : (o : Option ℕ) → holds_of (is_point f.marks.point) o ≡ true
            → holds_of (is_mark (mark_or f text f.other_mark i)) o ≡ false
        by None e = refl
        by (Some b) e =
            point_no_mark f.marks.point (mark_or f text f.other_mark i) b point (letters i) e

    -- what has no digits has none, whether the form allows it or not
    unmarked : length (exponent_digits (word f text) text (mark f text at) (mark_at f text at)) ≡ 0
        → has_exponent f text at ≡ false
    unmarked none = by (allows_exponent f.exponents (nat_lt 0 (length (fraction f text at))))
      where
        by : (b : Bool)
            → nat_lt 0 (length (if b then
            exponent_digits (word f text) text (mark f text at) (mark_at f text at) else [])) ≡
            false
        by true = rw none refl
        by false = refl

    pub refused : allows_point f text at ≡ false
        → (has_point f text at ≡ false) × (has_exponent f text at ≡ false)
    unfolding exponent_digits
    refused a = (rw (s, a) refl, unmarked (rw (s, a, no_mark (whole_end f text at)) refl))

  -- ---- what is a float

  pub not_allowed : IsForm f → stands_point ≡ true → allows_point f text at ≡ false
      → is_float f text at ≡ false
  unfolding is_float
  not_allowed form s a =
      let none =
      refused (λ i. letter_of f text i form) (no_letter f.integers f.marks.point form.point) s a
      in
      neither (has_digits (parts f text at)) (not (has_more_zeros f text at))
      (has_point f text at) (has_exponent f text at) none.0 none.1

  pub no_digit : length (whole_digits f text at) + length (fraction f text at) ≡ 0
      → is_float f text at ≡ false
  unfolding is_float
  no_digit none = by (has_point f text at) refl
    where
      w : length (whole_digits f text at) ≡ 0
      w = omega (arith, none)

      n : length (fraction f text at) ≡ 0
      n = omega (arith, none)

      by : (b : Bool) → has_point f text at ≡ b → is_float f text at ≡ false
      by true e = rw (e, w, n) refl
      by false e = rw (e, w) refl

  pub more_zeros : has_more_zeros f text at ≡ true → is_float f text at ≡ false
  unfolding is_float
  more_zeros h = grind (arith, nat_tests, h)

  pub all_digits : 0 < length (whole_digits f text at) + length (fraction f text at)
      → fraction f text at ≡ (parts f text at).fraction → has_digits (parts f text at) ≡ true
  all_digits some same = rw (← same) (grind (arith, nat_tests, some))

  pub is : 0 < length (whole_digits f text at) + length (fraction f text at)
      → has_more_zeros f text at ≡ false → fraction f text at ≡ (parts f text at).fraction
      → has_point f text at || has_exponent f text at ≡ true → is_float f text at ≡ true
  unfolding is_float
  is some few same more =
      let digits = all_digits some same in
      grind (arith, digits, few, more)

  pub is_none : has_point f text at ≡ false → has_exponent f text at ≡ false
      → is_float f text at ≡ false
  unfolding is_float
  is_none p e =
      neither (has_digits (parts f text at)) (not (has_more_zeros f text at))
      (has_point f text at) (has_exponent f text at) p e

  -- ---- digits by themselves

  module _ (no : is_float f text at ≡ false) (all : has_more_zeros f text at ≡ false) where
    pub no_point : 0 < length (whole_digits f text at) → has_point f text at ≡ false
    unfolding is_float
    no_point some = by (has_point f text at) refl
      where
        by : (b : Bool) → has_point f text at ≡ b → b ≡ false
        by true e = absurd (grind (arith, nat_tests, no, all, e, some))
        by false e = refl

    pub no_power : 0 < length (whole_digits f text at) → has_exponent f text at ≡ false
    unfolding is_float
    no_power some = by (has_exponent f text at) refl
      where
        by : (b : Bool) → has_exponent f text at ≡ b → b ≡ false
        by true e = absurd (grind (arith, nat_tests, no, all, e, some))
        by false e = refl

    pub none : length (whole_digits f text at) ≡ 0 → has_digits (parts f text at) ≡ false
    unfolding is_float
    none w = by (has_point f text at) refl
      where
        by : (b : Bool) → has_point f text at ≡ b → has_digits (parts f text at) ≡ false
        by true e = grind (arith, nat_tests, no, all, e)
        by false e = rw (e, w) refl

    pub alone_value : 0 < length (whole_digits f text at) → (format : Format) (negative : Bool)
        → nearest_float format negative (whole_of (word f text) text at)
        ≡ nearest_float format negative (parts f text at)
    alone_value some format negative =
        let none : (parts f text at).fraction ≡ [] = rw (no_point some) refl in
        nearest_alone format negative (whole_of (word f text) text at) refl
        ∙ ap (λ ds. round format negative (digits_value 10 (whole_digits f text at ++ ds))
        (10 ^ length ds)) (sym none)
        ∙ sym (nearest_alone format negative (parts f text at)
        (no_exponent (exponent f text at) (no_power some)))

    pub alone_stop : 0 < length (whole_digits f text at)
        → digits_stop f text at ≡ whole_end f text at
    alone_stop some = rw (no_power some, no_point some) refl

  pub some : 0 < length (whole_digits f text at) → has_digits (parts f text at) ≡ true
  some l = grind (arith, nat_tests, l)

-- ---- a hexadecimal float

module _ (f : Form) (said : ℕ) (text : List ℕ) (at : ℕ) where
  abbrev h : Form
  h = hex_form f said

  abbrev hex_point : Bool
  hex_point = stands (is_point f.marks.point) text (digits_end said text Integer at)

  pub hex_fraction : (hex_point ≡ true → allows_point h text at ≡ true)
      → fraction h text at ≡ (parts h text at).fraction
  hex_fraction = counts_fraction h text at

  pub hex_mark : (hex_point ≡ true → allows_point h text at ≡ true)
      → mantissa_end said text f.marks.point at ≡ mark_at h text at
  hex_mark = counts_end h text at

  pub hex_not_allowed : IsForm f → hex_point ≡ true
      → allows_point h text at ≡ false → is_hex_float h text at ≡ false
  unfolding is_hex_float
  hex_not_allowed form s a =
      let none =
      refused h text at (λ i. refl) (no_letter f.integers f.marks.point form.point) s a in
      hex_refused (has_digits (parts h text at)) (has_exponent h text at) hex_point
      (allows_point h text at) (is_pointed_hex f.hex_floats) (is_always_hex f.hex_floats) none.1 s a

  pub hex_no_digit : length (whole_digits h text at) + length (fraction h text at) ≡ 0
      → is_hex_float h text at ≡ false
  unfolding is_hex_float
  hex_no_digit none = by (has_point h text at) refl
    where
      w : length (whole_digits h text at) ≡ 0
      w = omega (arith, none)

      n : length (fraction h text at) ≡ 0
      n = omega (arith, none)

      by : (b : Bool) → has_point h text at ≡ b → is_hex_float h text at ≡ false
      by true e = rw (e, w, n) refl
      by false e = rw (e, w) refl

  pub hex_is : 0 < length (whole_digits h text at) + length (fraction h text at)
      → fraction h text at ≡ (parts h text at).fraction
      → (hex_point ≡ true
      → allows_point h text at ≡ true)
      → has_exponent h text at
      || (if hex_point
      then is_pointed_hex f.hex_floats else is_always_hex f.hex_floats) ≡ true
      → is_hex_float h text at ≡ true
  unfolding is_hex_float
  hex_is some same all more =
      hex_some (has_digits (parts h text at)) (has_exponent h text at)
      (hex_point) (allows_point h text at)
      (is_pointed_hex f.hex_floats) (is_always_hex f.hex_floats) (all_digits h text at some same)
      all more

  pub hex_is_none : has_exponent h text at ≡ false
      → (if hex_point
      then is_pointed_hex f.hex_floats else is_always_hex f.hex_floats) ≡ false
      → is_hex_float h text at ≡ false
  unfolding is_hex_float
  hex_is_none e none =
      hex_neither (has_digits (parts h text at)) (has_exponent h text at)
      (hex_point) (allows_point h text at)
      (is_pointed_hex f.hex_floats) (is_always_hex f.hex_floats) e none

pub no_zeros : (f : Form) (text : List ℕ) (at : ℕ) → has_byte text at 48 ≡ false
    → has_more_zeros f text at ≡ false
no_zeros f text at h = by f.float_zeros
  where
    by : (b : Bool) → not b && has_byte text at 48 && nat_lt (at + 1) (whole_end f text at) ≡ false
    by true = refl
    by false = rw h refl

pub ruleset hexes =
    (hex_fraction, hex_mark, hex_not_allowed, hex_no_digit, hex_is, hex_is_none)

pub ruleset floats =
    (counts_fraction, counts_end, not_allowed, no_digit, more_zeros, is, is_none)

pub ruleset wholes = (none, alone_value, alone_stop, some, no_zeros, large_plain)
