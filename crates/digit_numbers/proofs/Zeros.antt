-- An integer of a language: a short one, and one that is too large.
use Rattle.std.proofs.Common.{◌≡◌, ℕ, ◌+◌, ◌-◌, ◌^◌, ◌≤◌, Bool, true, false, List, refl, subst, ap, ◌∙◌, arith}
use Rattle.std.specs.Prelude.{Result, Ok, Err, Option, Some, None, slice_get, ◌==◌, ◌&&◌, ◌||◌, nat_lt, if◌then◌else◌}
use Rattle.std.specs.Char.{is_ascii_alphabetic}
use Rattle.lexical_digits.specs.Cursor.{holds_of}
use Rattle.std.proofs.lemmas.Bool.Decides.{nat_tests}
use Rattle.digit_languages.specs.declared.language.Language.{Language}
use Rattle.digit_languages.specs.Literals.{prefix_word, word_at, digits_at, literal_at, literal_of, refused_by}
use Rattle.digit_languages.specs.declared.language.FirstZero.{FirstZero}
use Rattle.digit_languages.specs.declared.language.FirstZero.TheVariants.{Plain, Octal, Alone, Zeros}
use Rattle.digit_languages.specs.declared.literal.Literal.{Literal}
use Rattle.digit_languages.specs.declared.literal.LanguageError.TheVariants as literals
use Rattle.lexical_digits.specs.declared.skip.component.Component.TheVariants.{Integer}
use Rattle.lexical_digits.specs.State.{rule_of}
use Rattle.digit_integers.specs.Integers.{integer_at}
use Rattle.digit_values.specs.declared.LiteralError.{LiteralError}
use Rattle.digit_values.specs.declared.LiteralError.TheVariants.{Empty, Overflow}
use Rattle.digit_values.specs.Bytes.{has_byte}
use Rattle.digit_numbers.specs.Forms.{with_hex_only}
use Rattle.digit_numbers.specs.Reads.{IsPlain}

-- another byte than a letter is no letter of a prefix
no_letter : (text : List ℕ) (at letter : ℕ)
    → holds_of is_ascii_alphabetic (slice_get text at) ≡ false → is_ascii_alphabetic letter ≡ true
    → has_byte text at letter ≡ false
no_letter text at letter h is = by (slice_get text at) h
  where
    by : (o : Option ℕ) → holds_of is_ascii_alphabetic o ≡ false
        → holds_of (λ b. b == letter) o ≡ false
    by None h = refl
    by (Some b) h = grind (arith, nat_tests, is)

pub no_prefix : (l : Language) (text : List ℕ) (at : ℕ)
    → holds_of is_ascii_alphabetic (slice_get text (at + 1)) ≡ false → prefix_word l text at ≡ None
no_prefix l text at h =
    rw (
      no_letter text (at + 1) 98 h refl,
      no_letter text (at + 1) 66 h refl,
      no_letter text (at + 1) 111 h refl,
      no_letter text (at + 1) 79 h refl,
      no_letter text (at + 1) 120 h refl,
      no_letter text (at + 1) 88 h refl,
    )
    (by (has_byte text at 48) l.upper)
  where
    by : (first upper : Bool)
        → (if first && (false || (upper && false)) then l.binary else
        if first && (false || (upper && false)) then l.octal else
        if first && (false || (upper && false)) then l.hexadecimal else None) ≡ None
    by true true = refl
    by true false = refl
    by false true = refl
    by false false = refl

-- another byte than a `0` begins no prefix
pub no_hex : (l : Language) (text : List ℕ) (at : ℕ) → has_byte text at 48 ≡ false
    → prefix_word (with_hex_only l) text at ≡ None
no_hex l text at h = rw h refl

module _ (l : Language) (text : List ℕ) (at : ℕ) where
  -- ---- a short integer

  -- a language allows a `0` that no digit follows
  allowed : (value end : ℕ) → value ≡ 0 → end ≤ at + 1
      → refused_by l.first_zero (nat_lt (at + 1) end) (nat_lt 0 value) ≡ false
  allowed value end none last = by l.first_zero
    where
      by : (z : FirstZero) → refused_by z (nat_lt (at + 1) end) (nat_lt 0 value) ≡ false
      by Plain = refl
      by (Octal word) = refl
      by Alone = grind (arith, nat_tests)
      by Zeros = grind (arith, nat_tests)

  module _ (value end : ℕ) where
    abbrev literal : Literal
    literal = record { value = value; word = l.decimal; digits = at; end = end }

    pub few_is : IsPlain l text at
        → integer_at (rule_of l.decimal Integer) text at (2 ^ 128 - 1) ≡ Ok (value, end)
        → (has_byte text at 48 ≡ true → (value ≡ 0) × (end ≤ at + 1))
        → literal_at l text at (2 ^ 128 - 1) ≡ Ok literal
    few_is plain read zero = ap (literal_of l text at) here ∙ of_plain
      where
        here : integer_at (rule_of (word_at l text at) Integer) text (digits_at l text at)
            (2 ^ 128 - 1) ≡ Ok (value, end)
        here = rw (plain.word, plain.digits) read

        by : (b : Bool) → has_byte text at 48 ≡ b
            → (if b && refused_by l.first_zero (nat_lt (at + 1) end) (nat_lt 0 value)
            then Err (literals.Zero at) else Ok literal)
            ≡ Ok literal
        by true e = let z = zero e in rw (allowed value end z.0 z.1) refl
        by false e = refl

        of_plain : literal_of l text at (Ok (value, end)) ≡ Ok literal
        of_plain = rw (plain.word, plain.digits, plain.none) (by (has_byte text at 48) refl)

-- digits that begin with another byte than `0` are decimal
module _ (l : Language) (text : List ℕ) (at over : ℕ) (other : has_byte text at 48 ≡ false) where
  of_large : (o : Result (ℕ × ℕ) LiteralError)
      → literal_of l text at o ≡ Err (literals.Overflow over) → o ≡ Err (Overflow over)
  of_large (Ok r) h = absurd (grind (arith, h, other))
  of_large (Err (Empty e)) h = cc
  of_large (Err (Overflow o)) h = grind (arith, h, other)

  pub large_plain : (word : ℕ) → l.decimal ≡ word
      → literal_at l text at (2 ^ 128 - 1) ≡ Err (literals.Overflow over)
      → integer_at (rule_of word Integer) text at (2 ^ 128 - 1) ≡ Err (Overflow over)
  large_plain word same h =
      let plain : word_at l text at ≡ word = rw other same in
      let here : digits_at l text at ≡ at = rw other refl in
      subst
      (λ (v : ℕ). integer_at (rule_of v Integer) text at (2 ^ 128 - 1) ≡ Err (Overflow over)) plain
      (subst
      (λ (p : ℕ).
      integer_at (rule_of (word_at l text at) Integer) text p (2 ^ 128 - 1)
      ≡ Err (Overflow over)) here (of_large _ h))
