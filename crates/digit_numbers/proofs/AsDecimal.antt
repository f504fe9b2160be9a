-- Where a decimal number of a form ends, and which one an integer is.
use Rattle.std.proofs.Common.{◌≡◌, ℕ, ◌+◌, ◌-◌, ◌≤◌, Bool, true, false, List, [], ◌++◌, length, refl, sym, ◌∙◌, ap, subst, arith, take}
use Rattle.std.specs.Prelude.{not, ◌&&◌, ◌||◌, ◌==◌, if◌then◌else◌, is_some, pos, Option, None, Some, Result, Ok, Err, ◌^◌}
use Rattle.std.specs.Float.{Float, Format, binary64}
use Rattle.std.specs.Float.Ieee.{round}
use Rattle.std.specs.Float.Numeral.{has_digits}
use Rattle.std.specs.Str.Parse.{digits_value}
use Rattle.std.proofs.lemmas.Bool.Decides.{nat_tests}
use Rattle.std.proofs.lemmas.List.{append-nil, take_all}
use Rattle.lexical_format.specs.Word.{separator}
use Rattle.lexical_digits.specs.Separators.{is_separator}
use Rattle.lexical_digits.specs.State.{rule_of}
use Rattle.lexical_digits.specs.declared.skip.component.Component.TheVariants.{Integer}
use Rattle.digit_values.specs.After.{digits_between}
use Rattle.digit_integers.specs.Integers.{integer_at}
use Rattle.digit_values.specs.Bytes.{has_byte}
use Rattle.digit_values.specs.Significant.{significant}
use Rattle.digit_values.proofs.Significant.{worth_same}
use Rattle.digit_integers.proofs.Texts.{says_some}
use Rattle.digit_floats.specs.Bytes.{stands}
use Rattle.digit_floats.specs.Decimals.{decimal_of}
use Rattle.digit_floats.specs.Float.{IsDecimal}
use Rattle.digit_floats.specs.declared.decimal.Decimal.{Decimal}
use Rattle.digit_languages.specs.declared.literal.Literal.{Literal}
use Rattle.digit_languages.specs.declared.literal.LanguageError.{LanguageError}
use Rattle.digit_languages.specs.declared.literal.LanguageError.TheVariants as literals
use Rattle.digit_languages.specs.Literals.{literal_at, prefix_word}
use Rattle.digit_numbers.specs.declared.form.Form.{Form}
use Rattle.digit_numbers.specs.declared.number.Number.{Number}
use Rattle.digit_numbers.specs.declared.number.Number.TheVariants as numbers
use Rattle.digit_numbers.specs.declared.number.NumberError.{NumberError}
use Rattle.digit_numbers.specs.declared.number.NumberError.TheVariants as errors
use Rattle.digit_numbers.specs.Decimals.{is_named, decimal_end, decimal_to, with_decimal, decimal_of_at}
use Rattle.digit_numbers.specs.Forms.{IsForm, is_always_float, may_be_float}
use Rattle.digit_numbers.specs.Numbers.{Outcome, word, at, parts, is_float, is_minus, has_more_zeros}
use Rattle.digit_numbers.specs.Numbers.{language, special_here, float_here, whole_here}
use Rattle.digit_numbers.specs.Numbers.{zero_here, integer_here, plain_at, or_hex}
use Rattle.digit_numbers.specs.Numbers.{number_of_at}
use Rattle.digit_numbers.proofs.Decimals.{literal_is, lone_zero, no_hex as no_hex_at, right_false}
use Rattle.digit_numbers.proofs.Formats.{alike, same_end, same_integer}

-- ---- the decimal number of an integer's digits

-- where no digit was dropped, it is this number
abbrev Says : ℕ → Decimal → Type 0
Says magnitude d = d.dropped ≡ 0 → (d.value ≡ magnitude) × (d.exponent ≡ pos 0)

of_digits : (negative : Bool) (ds : List ℕ)
    → Says (digits_value 10 ds) (decimal_of negative ds [] (pos 0))
of_digits negative ds none =
    let all : ds ++ [] ≡ ds = append-nil ds in
    let few : length (significant (ds ++ [])) ≤ 19 = omega (arith, none) in
    let kept : take 19 (significant (ds ++ [])) ≡ significant (ds ++ []) =
    take_all 19 (significant (ds ++ [])) few in (
      ap (digits_value 10) kept ∙ worth_same 10 (ds ++ []) ∙ ap (digits_value 10) all,
      rw none refl,
    )

-- ---- of truths

left_false : (a b : Bool) → a || b ≡ false → a ≡ false
left_false true b h = absurd (grind (arith, h))
left_false false b h = refl

none_of : {X : Type 0} (x : Option X) → is_some x ≡ false → x ≡ None
none_of None h = refl
none_of (Some x) h = absurd (grind (arith, h))

module _ (f : Form) (text : List ℕ) (start : ℕ) where
  abbrev here : ℕ
  here = at f text start

  -- the digits of the decimal word up to a position
  abbrev digits_to : ℕ → List ℕ
  digits_to end = digits_between (rule_of (word f text) Integer) text here end

  abbrev decimal_by : Outcome → Result (Decimal × ℕ) NumberError
  decimal_by o = with_decimal f text start (decimal_end f text start o)

  -- ---- what a decimal number says

  is_decimal : (d : Decimal) (stop : ℕ) → decimal_of_at f text start ≡ Ok (d, stop)
      → (is_named f text start ≡ false)
      × (decimal_by (number_of_at f text start binary64) ≡ Ok (d, stop))
  unfolding decimal_of_at
  is_decimal d stop is = by (is_named f text start) is
    where
      by : (named : Bool)
          → (if named then Err (errors.Empty here)
          else decimal_by (number_of_at f text start binary64)) ≡ Ok (d, stop)
          → (named ≡ false) × (decimal_by (number_of_at f text start binary64) ≡ Ok (d, stop))
      by true is = absurd (grind (arith, is))
      by false is = (refl, is)

  ends_there : (o : Outcome) (d : Decimal) (stop : ℕ) (n : Number Float) (end : ℕ)
      → decimal_by o ≡ Ok (d, stop) → o ≡ Ok (n, end) → stop ≡ end
  ends_there o d stop (numbers.Float x) end is number =
      let said = rw number at is in
      grind (arith, said)
  ends_there o d stop (numbers.Integer negative magnitude said) end is number =
      by (said == word f text) (rw number at is)
    where
      by : (same : Bool)
          → with_decimal f text start (if same then Ok end else Err (errors.Empty here))
          ≡ Ok (d, stop) → stop ≡ end
      by true is = grind (arith, is)
      by false is = absurd (grind (arith, is))

  pub same_decimal_end : (format : Format) (n : Number Float) (d : Decimal) (end stop : ℕ)
      → number_of_at f text start format ≡ Ok (n, end)
      → decimal_of_at f text start ≡ Ok (d, stop) → stop ≡ end
  same_decimal_end format n d end stop number decimal =
      by (number_of_at f text start binary64) refl
    where
      by : (o : Outcome) → number_of_at f text start binary64 ≡ o → stop ≡ end
      by (Ok (m, e)) is =
          ends_there _ d stop m e (is_decimal d stop decimal).1 is
          ∙ same_end _ _ m n e end (alike f text start binary64 format) is number
      by (Err error) is =
          let same = rw (is, number) at (alike f text start binary64 format) in
          absurd (grind (arith, same))

  -- ---- what an integer says

  record IsInteger (negative : Bool) (magnitude said end : ℕ) : Type 0 where
    sign : is_minus f text start ≡ negative
    no_float : is_float f text here ≡ false
    value : IsDecimal (word f text) → said ≡ word f text
        → Says magnitude (decimal_of (is_minus f text start) (digits_to end) [] (pos 0))

  module _ (negative : Bool) (magnitude said end : ℕ) where
    abbrev number : Outcome
    number = Ok (numbers.Integer negative magnitude said, end)

    module _ (no_prefix : is_some (prefix_word (language f text start) text here) ≡ false)
        (no_float : is_float f text here ≡ false) where
      of_zero : zero_here f text start binary64 ≡ number → IsInteger negative magnitude said end
      of_zero is = by (has_byte text here 48) refl is
        where
          by : (zero : Bool) → has_byte text here 48 ≡ zero
              → (if zero then Ok (numbers.Integer (is_minus f text start) 0 (word f text), here + 1)
              else Err (errors.Empty here)) ≡ number → IsInteger negative magnitude said end
          by false e is = absurd (grind (arith, is))
          by true e is =
              let none : magnitude ≡ 0 = grind (arith, is) in
              let ends : end ≡ here + 1 = grind (arith, is) in
              record {
                sign = grind (arith, is);
                no_float = no_float;
                value = λ _ _. rw (none, ends) (subst (Says 0)
                    (lone_zero (is_minus f text start) (rule_of (word f text) Integer) text here e)
                    (λ _. (refl, refl)));
              }

      of_literal : (read : Result Literal LanguageError)
          → literal_at (language f text start) text here (2 ^ 128 - 1) ≡ read
          → integer_here f text start binary64 read ≡ number
          → IsInteger negative magnitude said end
      of_literal (Ok read) there is =
          let i = literal_is (language f text start) text here no_prefix (2 ^ 128 - 1) read there in
          record {
            sign = grind (arith, is);
            no_float = no_float;
            value = λ decimal same.
                let value : read.value ≡ magnitude = grind (arith, is) in
                let ends : read.end ≡ end = grind (arith, is) in
                let by_word : read.word ≡ word f text = grind (arith, is, same) in
                let reads : integer_at (rule_of (word f text) Integer) text here (2 ^ 128 - 1)
                ≡ Ok (magnitude, end) = rw (by_word, value, ends) at i in
                let says = says_some (rule_of (word f text) Integer) text here (2 ^ 128 - 1)
                magnitude end reads in
                let worth : digits_value 10 (digits_to end) ≡ magnitude =
                ap (λ (r : ℕ). digits_value r (digits_to end)) (sym decimal.0) ∙ sym says.is in
                subst (λ (m : ℕ).
                Says m (decimal_of (is_minus f text start) (digits_to end) [] (pos 0))) worth
                (of_digits (is_minus f text start) (digits_to end));
          }
      of_literal (Err (literals.Empty e)) there is = of_zero is
      of_literal (Err (literals.Zero e)) there is = of_zero is
      of_literal (Err (literals.Overflow over)) there is =
          by (may_be_float f.whole && not (has_byte text here 48)) is
        where
          by : (b : Bool)
              → (if b then float_here f text start binary64 else Err (errors.Overflow over))
              ≡ number → IsInteger negative magnitude said end
          by true is = absurd (grind (arith, is))
          by false is = absurd (grind (arith, is))

    no_whole : whole_here f text start binary64 ≡ number → ⊥
    no_whole =
        by (round binary64 (is_minus f text start) 0 1) (has_more_zeros f text here)
        (has_digits (parts f text here))
      where
        by : (x : Float) (more some : Bool)
            → (if more then Ok (numbers.Float x, here + 1) else
            if some then float_here f text start binary64 else Err (errors.Empty here)) ≡ number
            → ⊥
        by x true some is = absurd (grind (arith, is))
        by x false true is = absurd (grind (arith, is))
        by x false false is = absurd (grind (arith, is))

    of_plain : is_some (prefix_word (language f text start) text here) ≡ false
        → plain_at f text start binary64 ≡ number → IsInteger negative magnitude said end
    unfolding plain_at
    of_plain no_prefix is = by (is_float f text here) refl (is_always_float f.whole) is
      where
        by : (float : Bool) → is_float f text here ≡ float → (always : Bool)
            → (if float then float_here f text start binary64 else
            if always then whole_here f text start binary64 else
            integer_here f text start binary64
            (literal_at (language f text start) text here (2 ^ 128 - 1))) ≡ number
            → IsInteger negative magnitude said end
        by true e always is = absurd (grind (arith, is))
        by false e true is = absurd (no_whole is)
        by false e false is =
            of_literal no_prefix e
            (literal_at (language f text start) text here (2 ^ 128 - 1)) refl is

    of_hex : is_some (prefix_word (language f text start) text here) ≡ false
        → or_hex f text start binary64 None ≡ number → IsInteger negative magnitude said end
    of_hex no_prefix =
        by (stands (is_separator (separator (word f text))) text here)
      where
        by : (separates : Bool)
            → (if separates then Err (errors.Empty here) else plain_at f text start binary64)
            ≡ number → IsInteger negative magnitude said end
        by true is = absurd (grind (arith, is))
        by false is = of_plain no_prefix is

    of_number : is_named f text start ≡ false → number_of_at f text start binary64 ≡ number
        → IsInteger negative magnitude said end
    unfolding number_of_at
    of_number no_name is =
        let no_prefix = right_false (is_some (special_here f text start))
        (is_some (prefix_word (language f text start) text here)) no_name in
        let special = none_of (special_here f text start)
        (left_false (is_some (special_here f text start))
        (is_some (prefix_word (language f text start) text here)) no_name) in
        let no_hex = no_hex_at (language f text start) text here no_prefix f in
        of_hex no_prefix (rw (special, no_hex) at is)

    integer_of_decimal : (format : Format) (d : Decimal) (stop : ℕ)
        → number_of_at f text start format ≡ number → decimal_of_at f text start ≡ Ok (d, stop)
        → IsInteger negative magnitude said end
    integer_of_decimal format d stop is decimal =
        of_number (is_decimal d stop decimal).0
        (same_integer _ _ negative magnitude said end (alike f text start format binary64) is)

    -- the decimal number of its digits, by its word
    decimal_is : (format : Format) (d : Decimal) (stop : ℕ)
        → number_of_at f text start format ≡ number → decimal_of_at f text start ≡ Ok (d, stop)
        → (said ≡ word f text)
        × (d ≡ decimal_of (is_minus f text start) (digits_to end) [] (pos 0))
    decimal_is format d stop is decimal =
        by (said == word f text) refl
        (rw (same_integer _ _ negative magnitude said end (alike f text start format binary64) is)
        at (is_decimal d stop decimal).1)
      where
        no_float : is_float f text here ≡ false
        no_float = (integer_of_decimal format d stop is decimal).no_float

        by : (same : Bool) → (said == word f text) ≡ same
            → with_decimal f text start (if same then Ok end else Err (errors.Empty here))
            ≡ Ok (d, stop)
            → (said ≡ word f text)
            × (d ≡ decimal_of (is_minus f text start) (digits_to end) [] (pos 0))
        by false e is = absurd (grind (arith, is))
        by true e is =
            let to : decimal_to f text start end ≡ d = grind (arith, is) in
            (grind (arith, nat_tests, e), sym (rw no_float at to))

    pub same_sign : (format : Format) (d : Decimal) (stop : ℕ)
        → number_of_at f text start format ≡ number → decimal_of_at f text start ≡ Ok (d, stop)
        → d.negative ≡ negative
    same_sign format d stop is decimal =
        ap (λ (x : Decimal). x.negative) (decimal_is format d stop is decimal).1
        ∙ (integer_of_decimal format d stop is decimal).sign

    pub same_value : (format : Format) (d : Decimal) (stop : ℕ) → IsForm f
        → number_of_at f text start format ≡ number → decimal_of_at f text start ≡ Ok (d, stop)
        → d.dropped ≡ 0 → (d.value ≡ magnitude) × (d.exponent ≡ pos 0)
    same_value format d stop form is decimal =
        let here = decimal_is format d stop is decimal in
        subst (Says magnitude) (sym here.1)
        ((integer_of_decimal format d stop is decimal).value form.decimal here.0)
