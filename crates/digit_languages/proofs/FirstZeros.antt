-- What is read where a `0` begins a literal without a prefix.
use Rattle.std.proofs.Common.{◌≡◌, ℕ, ◌+◌, ◌<◌, Bool, true, false, List, refl, ◌∙◌, ap, arith}
use Rattle.std.specs.Prelude.{⊤, nat_lt, is_some, if◌then◌else◌, ◌&&◌, Option, Some, None, Result, Ok, Err}
use Rattle.std.proofs.lemmas.Bool.Decides.{nat_tests}
use Rattle.lexical_format.specs.Digits.{digit_value}
use Rattle.lexical_digits.specs.Separators.{kept_positions, is_kept, is_dropped, holds_separator, is_digit}
use Rattle.lexical_digits.specs.Stop.{stop}
use Rattle.lexical_digits.specs.declared.skip.component.Component.TheVariants.{Integer}
use Rattle.lexical_digits.specs.State.{rule_of}
use Rattle.digit_integers.specs.Integers.{integer_at}
use Rattle.digit_values.specs.Bytes.{has_byte}
use Rattle.digit_values.specs.declared.LiteralError.{LiteralError}
use Rattle.digit_values.specs.declared.LiteralError.TheVariants as integers
use Rattle.digit_languages.specs.Words.{octal_of}
use Rattle.digit_languages.specs.declared.language.FirstZero.TheVariants.{Plain, Octal, Alone, Zeros}
use Rattle.digit_languages.specs.declared.language.Language.{Language}
use Rattle.digit_languages.specs.declared.literal.LanguageError.TheVariants.{Zero}
use Rattle.digit_languages.specs.Literals.{literal_at, literal_of, prefix_word, word_or, word_at, digits_at, refused_by, is_refused}

module _ (l : Language) (text : List ℕ) (start : ℕ) where
  -- ---- a language that refuses none

  abbrev NeverRefuses : Type 0
  NeverRefuses = (has_more has_other : Bool) → refused_by l.first_zero has_more has_other ≡ false

  plain_never : l.first_zero ≡ Plain → NeverRefuses
  plain_never is has_more has_other = rw is refl

  octal_never : (word : ℕ) → l.first_zero ≡ Octal word → NeverRefuses
  octal_never word is has_more has_other = rw is refl

  none_refused : NeverRefuses → (has_more has_other : Bool)
      → is_refused l text start has_more has_other ≡ false
  none_refused never has_more has_other =
      by (is_some (prefix_word l text start)) (has_byte text start 48)
    where
      by : (prefixed zero : Bool)
          → (if prefixed then false else zero && refused_by l.first_zero has_more has_other)
          ≡ false
      by true zero = refl
      by false true = never has_more has_other
      by false false = refl

  not_zero : NeverRefuses → (at : ℕ) (read : Result (ℕ × ℕ) LiteralError)
      → literal_of l text start read ≡ Err (Zero at) → ⊥
  not_zero never at (Ok (value, end)) is =
      let said = none_refused never (nat_lt (start + 1) end) (nat_lt 0 value) in
      absurd (grind (arith, rw said at is))
  not_zero never at (Err (integers.Overflow over)) is =
      let said = none_refused never true true in
      absurd (grind (arith, rw said at is))
  not_zero never at (Err (integers.Empty i)) is = absurd (grind (arith, is))

  pub plain_is_never_refused : (most at : ℕ) → l.first_zero ≡ Plain
      → literal_at l text start most ≡ Err (Zero at) → ⊥
  plain_is_never_refused most at is =
      not_zero (plain_never is) at
      (integer_at (rule_of (word_at l text start) Integer) text (digits_at l text start) most)

  pub octal_is_never_refused : (most word at : ℕ) → l.first_zero ≡ Octal word
      → literal_at l text start most ≡ Err (Zero at) → ⊥
  octal_is_never_refused most word at is =
      not_zero (octal_never word is) at
      (integer_at (rule_of (word_at l text start) Integer) text (digits_at l text start) most)

  -- ---- a `0` without a prefix

  module _ (zero : has_byte text start 48 ≡ true)
      (none : is_some (prefix_word l text start) ≡ false) where
    no_prefix : prefix_word l text start ≡ None
    no_prefix = by (prefix_word l text start) none
      where
        by : (word : Option ℕ) → is_some word ≡ false → word ≡ None
        by None e = refl
        by (Some word) e = absurd (grind (arith, e))

    begins : digits_at l text start ≡ start
    begins = rw no_prefix refl

    said : (word : ℕ) → word_or (octal_of l.first_zero) l.decimal ≡ word
        → word_at l text start ≡ word
    said word is = rw (no_prefix, zero) is

    module _ (most word value end : ℕ) (same : word_or (octal_of l.first_zero) l.decimal ≡ word)
        (reads : integer_at (rule_of word Integer) text start most ≡ Ok (value, end)) where
      literal_is : literal_at l text start most ≡ literal_of l text start (Ok (value, end))
      literal_is =
          let here : integer_at (rule_of (word_at l text start) Integer) text
          (digits_at l text start) most ≡ Ok (value, end) = rw (said word same, begins) reads in
          ap (literal_of l text start) here

    refused_is : (has_more has_other : Bool) → is_refused l text start has_more has_other
        ≡ refused_by l.first_zero has_more has_other
    refused_is has_more has_other = rw (no_prefix, zero) refl

    module _ (most value end : ℕ) where
      pub octal_is : (word : ℕ) → l.first_zero ≡ Octal word
          → integer_at (rule_of word Integer) text start most ≡ Ok (value, end)
          → literal_at l text start most
          ≡ Ok (record { value = value; word = word; digits = start; end = end })
      octal_is word is reads =
          let same : word_or (octal_of l.first_zero) l.decimal ≡ word = rw is refl in
          literal_is most word value end same reads ∙ rw (
            refused_is (nat_lt (start + 1) end) (nat_lt 0 value),
            octal_never word is (nat_lt (start + 1) end) (nat_lt 0 value),
            said word same,
            begins,
          ) refl

      module _
          (reads : integer_at (rule_of l.decimal Integer) text start most ≡ Ok (value, end))
        where
          pub alone_is_refused : l.first_zero ≡ Alone → start + 1 < end
              → literal_at l text start most ≡ Err (Zero start)
          alone_is_refused is more =
              let same : word_or (octal_of l.first_zero) l.decimal ≡ l.decimal = rw is refl in
              let some : nat_lt (start + 1) end ≡ true = grind (arith, nat_tests, more) in
              let refused :
              is_refused l text start (nat_lt (start + 1) end) (nat_lt 0 value) ≡ true =
              refused_is (nat_lt (start + 1) end) (nat_lt 0 value) ∙ rw is some in
              literal_is most l.decimal value end same reads ∙ rw refused refl

          pub zeros_are_refused : l.first_zero ≡ Zeros → 0 < value
              → literal_at l text start most ≡ Err (Zero start)
          zeros_are_refused is more =
              let same : word_or (octal_of l.first_zero) l.decimal ≡ l.decimal = rw is refl in
              let some : nat_lt 0 value ≡ true = grind (arith, nat_tests, more) in
              let refused :
              is_refused l text start (nat_lt (start + 1) end) (nat_lt 0 value) ≡ true =
              refused_is (nat_lt (start + 1) end) (nat_lt 0 value) ∙ rw is some in
              literal_is most l.decimal value end same reads ∙ rw refused refl

-- What a proof unfolds to compute the integer of a text that is written out.
unfoldable pub on_texts : ⊤
unfolding integer_at stop kept_positions is_kept is_dropped holds_separator is_digit digit_value
on_texts = tt
