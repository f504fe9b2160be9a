-- The decimal number of a form: where its whole digits end, and what a lone `0` is.
use Rattle.std.proofs.Common.{◌≡◌, ℕ, zero, suc, ◌+◌, ◌<◌, ◌-◌, Bool, true, false, List, [], ◌∷◌, length, refl, sym, ◌∙◌, subst, arith, slice_get}
use Rattle.std.specs.Prelude.{⊤, Option, None, Some, Result, Ok, Err, is_some, slice_index, if◌then◌else◌, pos, ◌==◌}
use Rattle.std.proofs.lemmas.Bool.Decides.{nat_tests}
use Rattle.std.proofs.lemmas.Option.{get_or_from_slice_get, slice_get_within}
use Rattle.lexical_digits.specs.Cursor.{holds_of}
use Rattle.lexical_digits.specs.Separators.{is_digit}
use Rattle.lexical_digits.specs.State.{rule_of}
use Rattle.lexical_digits.specs.declared.skip.rule.Rule.{Rule}
use Rattle.lexical_digits.specs.declared.skip.component.Component.TheVariants.{Integer}
use Rattle.digit_values.specs.After.{digits_between}
use Rattle.digit_integers.specs.Integers.{integer_at}
use Rattle.digit_values.specs.Bytes.{has_byte}
use Rattle.digit_values.specs.Significant.{significant}
use Rattle.digit_values.specs.declared.LiteralError.{LiteralError}
use Rattle.digit_values.specs.declared.LiteralError.TheVariants.{Empty, Overflow}
use Rattle.digit_values.proofs.Between.{more_between, none_between}
use Rattle.digit_floats.specs.Decimals.{decimal_of, signed_exponent}
use Rattle.digit_floats.specs.Float.{digits_end, digits_from}
use Rattle.digit_languages.specs.declared.language.Language.{Language}
use Rattle.digit_languages.specs.declared.literal.Literal.{Literal}
use Rattle.digit_languages.specs.Literals.{has_prefix, prefix_word, word_at, digits_at, literal_at, literal_of}
use Rattle.digit_numbers.specs.declared.form.Form.{Form}
use Rattle.digit_numbers.specs.Forms.{unprefixed, with_hex_only, has_hex, is_always_float, may_be_float}
use Rattle.digit_numbers.specs.Numbers.{word, has_sign, is_minus, hex_word_at, past_sign, language, plain_at, float_here, number_of_at}
use Rattle.digit_numbers.specs.Numbers.{zero_here, whole_here, integer_here, is_float, whole_digits, whole_end}
use Rattle.digit_numbers.specs.Numbers.{digits_stop, has_more_zeros, parts, Outcome}
use Rattle.digit_numbers.specs.declared.number.Number.{Number}
use Rattle.std.specs.Float.{Float}
use Rattle.std.specs.Float.Ieee.{round}
use Rattle.std.specs.Float.Numeral.{has_digits}
use Rattle.digit_numbers.specs.Decimals.{decimal_of_at}
use Rattle.digit_numbers.specs.declared.number.Number.TheVariants as numbers
use Rattle.digit_numbers.specs.declared.number.NumberError.TheVariants as errors
use Rattle.digit_languages.specs.declared.literal.LanguageError.{LanguageError}
use Rattle.digit_languages.specs.declared.literal.LanguageError.TheVariants as literals
use Rattle.digit_numbers.proofs.Digits.{alone_stop, no_zeros}
use Rattle.digit_numbers.proofs.Digits as digits
use Rattle.digit_numbers.proofs.Large.{large_some}
use Rattle.digit_numbers.proofs.Zeros.{large_plain}
use Rattle.std.specs.Float.{binary64}
use Rattle.std.proofs.Common.{◌^◌}
use Rattle.std.specs.Prelude.{◌&&◌, ◌||◌, not}

-- ---- without a prefix

module _ (l : Language) (text : List ℕ) (at : ℕ)
    (none : is_some (prefix_word l text at) ≡ false) where
  -- no hexadecimal float is there
  no_hex_prefix : prefix_word (with_hex_only l) text at ≡ None
  no_hex_prefix =
      by (has_prefix l text at 98) (has_prefix l text at 111) (has_prefix l text at 120)
      l.binary l.octal l.hexadecimal none
    where
      by : (b o x : Bool) (lb lo lx : Option ℕ)
          → is_some (if b then lb else if o then lo else if x then lx else None) ≡ false
          → (if b then None else if o then None else if x then lx else None) ≡ None
      by true o x lb lo lx h = refl
      by false true x lb lo lx h = refl
      by false false true lb lo None h = refl
      by false false true lb lo (Some w) h = absurd (grind (arith, h))
      by false false false lb lo lx h = refl

  pub no_hex : (f : Form) → hex_word_at f l text at ≡ None
  unfolding hex_word_at
  no_hex f = rw no_hex_prefix (by (has_hex f.hex_floats))
    where
      by : (b : Bool) → ◌≡◌ {A = Option ℕ} (if b then None else None) None
      by true = refl
      by false = refl

  -- a literal of the decimal word has the integer's digits
  module _ (most : ℕ) (read : Literal) (is : literal_at l text at most ≡ Ok read) where
    of_read : (o : Result (ℕ × ℕ) LiteralError) → literal_of l text at o ≡ Ok read
        → (o ≡ Ok (read.value, read.end)) × (read.word ≡ word_at l text at)
    of_read (Ok (value, end)) h = grind (arith, h)
    of_read (Err (Empty e)) h = absurd (grind (arith, h))
    of_read (Err (Overflow e)) h = absurd (grind (arith, h))

    pub literal_is : integer_at (rule_of read.word Integer) text at most ≡ Ok (read.value, read.end)
    literal_is =
        let o = of_read _ is in
        let here : digits_at l text at ≡ at = rw none refl in
        rw o.1 (subst
        (λ (p : ℕ).
        integer_at (rule_of (word_at l text at) Integer) text p most ≡ Ok (read.value, read.end))
        here o.0)

    pub literal_ends : (word : ℕ) → read.word ≡ word → read.end ≡ digits_end word text Integer at
    unfolding integer_at digits_end
    literal_ends word same = let i = literal_is in grind (arith, i, same)

-- ---- a lone 0

module _ (negative : Bool) where
  of_zero : (b : Bool) → record { negative = negative; value = 0; dropped = 0; exponent = pos 0 }
      ≡ decimal_of negative (if b then 48 ∷ [] else []) [] (pos 0)
  unfolding significant
  of_zero true = refl
  of_zero false = refl

  module _ (rule : Rule) (text : List ℕ) (at : ℕ) (zero_here : has_byte text at 48 ≡ true) where
    is_there : slice_get text at ≡ Some 48
    is_there = by (slice_get text at) zero_here
      where
        by : (o : Option ℕ) → holds_of (λ there. there == 48) o ≡ true → o ≡ Some 48
        by None h = absurd (grind (arith, h))
        by (Some b) h = grind (arith, nat_tests, h)

    zero_between : digits_between rule text at (at + 1)
        ≡ (if is_digit rule 48 then 48 ∷ [] else [])
    zero_between =
        let l = slice_get_within text at 48 is_there in
        let byte : slice_index text at ≡ 48 = get_or_from_slice_get text at 48 0 is_there in
        more_between rule text at at (omega arith) l ∙ rw (none_between rule text at, byte) refl

    pub lone_zero : record { negative = negative; value = 0; dropped = 0; exponent = pos 0 }
        ≡ decimal_of negative (digits_between rule text at (at + 1)) [] (pos 0)
    lone_zero = rw zero_between (of_zero (is_digit rule 48))

-- ---- an exponent

-- of 0 the sign says nothing
pub same_exponent : (n : ℕ) (a b : Bool) → (0 < n → a ≡ b)
    → signed_exponent a n ≡ signed_exponent b n
same_exponent zero true true h = refl
same_exponent zero true false h = refl
same_exponent zero false true h = refl
same_exponent zero false false h = refl
same_exponent (suc n) a b h = rw (h (omega arith)) refl

-- ---- whole digits

pub digits_are : (word : ℕ) (text : List ℕ) (at end : ℕ) → end ≡ digits_end word text Integer at
    → digits_between (rule_of word Integer) text at end ≡ digits_from word text Integer at
unfolding digits_from digits_end
digits_are word text at end e = rw e refl

some_onward : (rule : Rule) (text : List ℕ) (at end : ℕ)
    → 0 < length (digits_between rule text at end) → at < end
some_onward rule text at end some = by (end - at) refl
  where
    by : (n : ℕ) → end - at ≡ n → at < end
    by zero e = absurd (omega (arith, rw e at some))
    by (suc n) e = omega (arith, e)

pub onward : (word : ℕ) (text : List ℕ) (at : ℕ) → 0 < length (digits_from word text Integer at)
    → at < digits_end word text Integer at
unfolding digits_from digits_end
onward word text at some = some_onward (rule_of word Integer) text at _ some

-- what a number that has neither a point nor an exponent says of its end
module _ (f : Form) (text : List ℕ) (start : ℕ)
    (no : is_float f text (past_sign f text start) ≡ false)
    (no_prefix : is_some (prefix_word (language f text start) text (past_sign f text start))
    ≡ false) where
  abbrev here : ℕ
  here = past_sign f text start

  abbrev literal : Result Literal LanguageError
  literal = literal_at (language f text start) text here (2 ^ 128 - 1)

  -- all digits end there, or a `0` alone
  abbrev EndsAt : ℕ → Type 0
  EndsAt end = (end ≡ whole_end f text here → ⊥)
      → (has_byte text here 48 ≡ true) × (end ≡ here + 1)

  -- whether a number's digits are decimal
  abbrev pub is_decimal : Number Float → Bool
  is_decimal (numbers.Integer negative magnitude said) = said == word f text
  is_decimal (numbers.Float x) = true

  of_float : has_more_zeros f text here ≡ false → 0 < length (whole_digits f text here)
      → (end : ℕ) → digits_stop f text here ≡ end → EndsAt end
  of_float z some end e other =
      absurd (other (sym e ∙ alone_stop f text here no z some))

  many : has_byte text here 48 ≡ false → (over : ℕ) → literal ≡ Err (literals.Overflow over)
      → 0 < length (whole_digits f text here)
  many other over is =
      large_some (word f text) text here over
      (large_plain (language f text start) text here over other (word f text)
      (by (has_sign f text start && not f.signed_prefix)) is)
    where
      by : (b : Bool) → (if b then unprefixed f.integers else f.integers).decimal
          ≡ f.integers.decimal
      by true = refl
      by false = refl

  -- of a number that is one always a float, and of an integer
  ends_whole : (n : Number Float) (end : ℕ) → whole_here f text start binary64 ≡ Ok (n, end)
      → EndsAt end
  ends_whole n end = by (has_more_zeros f text here) (has_digits (parts f text here)) refl refl
    where
      zeros : has_more_zeros f text here ≡ true → has_byte text here 48 ≡ true
      zeros z = grind (arith, z)

      some : has_more_zeros f text here ≡ false → has_digits (parts f text here) ≡ true
          → (k : ℕ) → length (whole_digits f text here) ≡ k → 0 < k
      some z d zero e = absurd (let a = digits.none f text here no z e in cc)
      some z d (suc k) e = omega arith

      by : (z d : Bool) → has_more_zeros f text here ≡ z → has_digits (parts f text here) ≡ d
          → ◌≡◌ {A = Outcome}
          (if z then Ok (numbers.Float (round binary64 (is_minus f text start) 0 1), here + 1)
          else if d then float_here f text start binary64 else Err (errors.Empty here))
          (Ok (n, end)) → EndsAt end
      by true d z e is = λ other. (zeros z, grind (arith, is))
      by false true z e is =
          of_float z (some z e (length (whole_digits f text here)) refl) end (grind (arith, is))
      by false false z e is = absurd (grind (arith, is))

  ends_zero : (n : Number Float) (end : ℕ) → zero_here f text start binary64 ≡ Ok (n, end)
      → EndsAt end
  ends_zero n end = by (has_byte text here 48) refl
    where
      by : (z : Bool) → has_byte text here 48 ≡ z
          → ◌≡◌ {A = Outcome}
          (if z then Ok (numbers.Integer (is_minus f text start) 0 (word f text), here + 1)
          else Err (errors.Empty here)) (Ok (n, end)) → EndsAt end
      by true z is = λ other. (z, grind (arith, is))
      by false z is = absurd (grind (arith, is))

  ends_integer : (o : Result Literal LanguageError) → literal ≡ o → (n : Number Float) (end : ℕ)
      → integer_here f text start binary64 o ≡ Ok (n, end) → is_decimal n ≡ true → EndsAt end
  ends_integer (Ok read) e n end is d = λ other.
      let word_is : read.word ≡ word f text = grind (arith, nat_tests, is, d) in
      let end_is : read.end ≡ end = grind (arith, is) in
      absurd (other (sym end_is
      ∙ literal_ends (language f text start) text here no_prefix (2 ^ 128 - 1) read e (word f text)
      word_is))
  ends_integer (Err (literals.Overflow over)) e n end is d =
      by (may_be_float f.whole) (has_byte text here 48) refl is
    where
      by : (m z : Bool) → has_byte text here 48 ≡ z
          → (if m && not z then float_here f text start binary64 else Err (errors.Overflow over))
          ≡ Ok (n, end) → EndsAt end
      by true false z is =
          of_float (no_zeros f text here z) (many z over e) end (grind (arith, is))
      by true true z is = absurd (grind (arith, is))
      by false z h is = absurd (grind (arith, is))
  ends_integer (Err (literals.Empty i)) e n end is d = ends_zero n end is
  ends_integer (Err (literals.Zero i)) e n end is d = ends_zero n end is

  pub ends : (n : Number Float) (end : ℕ) → plain_at f text start binary64 ≡ Ok (n, end)
      → is_decimal n ≡ true → EndsAt end
  unfolding plain_at
  ends n end = by (is_always_float f.whole) refl
    where
      by : (b : Bool) → is_always_float f.whole ≡ b → plain_at f text start binary64 ≡ Ok (n, end)
          → is_decimal n ≡ true → EndsAt end
      by true e is d = ends_whole n end (rw (no, e) at is)
      by false e is d = ends_integer literal refl n end (rw (no, e) at is) d

  -- above 128 bits it has digits
  of_overflow : (o : Result Literal LanguageError) → literal ≡ o → (over : ℕ)
      → has_byte text here 48 ≡ false
      → integer_here f text start binary64 o ≡ Err (errors.Overflow over)
      → here < whole_end f text here
  of_overflow (Ok read) e over z is = absurd (grind (arith, is))
  of_overflow (Err (literals.Overflow i)) e over z is =
      onward (word f text) text here (many z i e)
  of_overflow (Err (literals.Empty i)) e over z is = absurd (grind (arith, z, is))
  of_overflow (Err (literals.Zero i)) e over z is = absurd (grind (arith, z, is))

  pub large_onward : (over : ℕ) → plain_at f text start binary64 ≡ Err (errors.Overflow over)
      → has_byte text here 48 ≡ false → here < whole_end f text here
  unfolding plain_at
  large_onward over = by (is_always_float f.whole) refl
    where
      by : (b : Bool) → is_always_float f.whole ≡ b
          → plain_at f text start binary64 ≡ Err (errors.Overflow over)
          → has_byte text here 48 ≡ false → here < whole_end f text here
      by true e is z =
          absurd (no_fault (has_more_zeros f text here) (has_digits (parts f text here))
          (rw (no, e) at is))
        where
          no_fault : (z d : Bool)
              → ◌≡◌ {A = Outcome}
              (if z then Ok (numbers.Float (round binary64 (is_minus f text start) 0 1), here + 1)
              else if d then float_here f text start binary64 else Err (errors.Empty here))
              (Err (errors.Overflow over)) → ⊥
          no_fault true d is = grind (arith, is)
          no_fault false true is = grind (arith, is)
          no_fault false false is = grind (arith, is)
      by false e is z = of_overflow literal refl over z (rw (no, e) at is)

-- ---- of truths

pub right_false : (a b : Bool) → a || b ≡ false → b ≡ false
right_false true b h = absurd (grind (arith, h))
right_false false b h = h

-- to be named in an attribute
unfoldable pub both : ⊤
unfolding number_of_at decimal_of_at
both = tt
