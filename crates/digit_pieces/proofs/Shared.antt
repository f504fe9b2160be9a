-- Bytes that may be between two numbers, beside those that may be in one.
use Rattle.std.proofs.Common.{◌≡◌, ℕ, zero, suc, ◌-◌, ◌*◌, ◌/◌, ◌^◌, ◌<◌, ◌≤◌, Bool, true, false, List, [], ◌∷◌, length, get_or, refl, sym, ◌∙◌, arith, inl, inr}
use Rattle.std.specs.Prelude.{◌&&◌, ◌||◌, ◌==◌, nat_lt, not, filter, Some}
use Rattle.std.specs.Char.{is_ascii_alphanumeric}
use Rattle.std.specs.List.{list_all, range_with_len}
use Rattle.std.proofs.Math.Nat.{one-le-pow, pow-le-pow_right}
use Rattle.std.proofs.lemmas.Nat.{div_below}
use Rattle.std.proofs.lemmas.Bool.{and_parts, cases_Bool, cases_lt, eqb-true, false_from_ne_true, not-true, or_cases, or_from, or_left, or_right}
use Rattle.std.proofs.lemmas.Bool.Decides.{nat_tests}
use Rattle.std.proofs.lemmas.List.FromFn.{get_or-range_with_len, length-range_with_len}
use Rattle.lexical_format.specs.Digits.{digit_value, is_digit_of_radix}
use Rattle.lexical_format.specs.Word.{bit, separator}
use Rattle.lexical_digits.specs.ByteSet.{accepts}
use Rattle.lexical_digits.specs.declared.ops.ByteSet.{ByteSet}
use Rattle.lexical_digits.specs.declared.skip.component.Component.TheVariants.{Integer, Fraction, Exponent}
use Rattle.lexical_digits.specs.declared.skip.rule.Rule.{Rule}
use Rattle.lexical_digits.specs.Separators.{is_digit, is_separator}
use Rattle.lexical_digits.specs.State.{rule_of}
use Rattle.digit_literals.specs.declared.list.Gap.{Gap}
use Rattle.digit_floats.specs.Bytes.{is_mark, is_point, is_sign}
use Rattle.digit_floats.specs.Float.{plain_marks}
use Rattle.digit_languages.specs.Follows.{separates}
use Rattle.digit_pieces.specs.Apart.{are_apart, is_between, is_pointed_byte, is_word_byte}
use Rattle.digit_pieces.specs.Both.{is_byte_of_both}
use Rattle.digit_pieces.specs.Cuts.{is_float_byte, is_integer_byte, is_of_rule, is_scaled_byte}
use Rattle.digit_pieces.specs.Texts.{IsApart}

-- ---- only bytes are between two numbers

-- a number has no bit from its width on
none_above : (n width place : ℕ) → n < 2 ^ width → width ≤ place → bit n place ≡ false
none_above n width place low high =
    let some : 0 < 2 ^ place = one-le-pow place 2 (omega arith) in
    let more : 2 ^ width ≤ 2 ^ place = pow-le-pow_right (omega arith) high in
    let few : n < 1 * 2 ^ place = omega (arith, low, more) in
    let none : n / 2 ^ place ≡ 0 = omega (arith, div_below n (2 ^ place) 1 some few) in
    rw none refl

accepts_none : (set : ByteSet) (byte : ℕ) → set.high < 2 ^ 128 → 256 ≤ byte
    → accepts set byte ≡ false
accepts_none set byte fits high =
    let none : bit set.high (byte - 128) ≡ false =
    none_above set.high 128 (byte - 128) fits (omega (arith, high)) in
    grind (arith, nat_tests, none)

-- the sets of a gap are of 256 bytes
pub record IsOfBytes (gap : Gap) : Type 0 where
  pub separators : gap.separators.high < 2 ^ 128
  pub blanks : gap.blanks.high < 2 ^ 128

pub between_is_byte : (gap : Gap) (byte : ℕ) → IsOfBytes gap → 256 ≤ byte
    → is_between gap byte ≡ false
between_is_byte gap byte is high =
    or_from _ _ (accepts_none gap.separators byte is.separators high)
    (accepts_none gap.blanks byte is.blanks high)

-- what is so of each byte is so of each number
pub apart_by_bytes : (has : ℕ → Bool) (gap : Gap) → IsOfBytes gap
    → ((byte : ℕ) → byte < 256 → has byte ≡ true → is_between gap byte ≡ false)
    → IsApart has gap
apart_by_bytes has gap is bytes byte h = elim (cases_lt byte 256) [
  | inl low ↦ bytes byte low h
  | inr high ↦ between_is_byte gap byte is high
]

-- ---- the test

-- what passes for each element of a filtered list passes for each that the filter keeps
kept_pass : (p q : ℕ → Bool) (xs : List ℕ) (i : ℕ) → i < length xs
    → list_all p (filter q xs) ≡ true → q (get_or xs i 0) ≡ true → p (get_or xs i 0) ≡ true
kept_pass p q [] i low all is = absurd (omega arith)
kept_pass p q (x ∷ xs) zero low all is = (and_parts _ _ (rw is at all)).0
kept_pass p q (x ∷ xs) (suc i) low all is = elim (cases_Bool (q x)) [
  | inl kept ↦ kept_pass p q xs i (omega arith) (and_parts _ _ (rw kept at all)).1 is
  | inr left ↦ kept_pass p q xs i (omega arith) (rw left at all) is
]

pub none_shared : (has : ℕ → Bool) (gap : Gap) → are_apart has gap ≡ true → (byte : ℕ)
    → byte < 256 → is_between gap byte ≡ true → has byte ≡ false
none_shared has gap all byte low between =
    let at : get_or (range_with_len 0 256) byte 0 ≡ byte =
    get_or-range_with_len 0 256 byte 0 low ∙ omega arith in
    let size : length (range_with_len 0 256) ≡ 256 = length-range_with_len 0 256 in
    let passes : not (has (get_or (range_with_len 0 256) byte 0)) ≡ true =
    kept_pass (λ b. not (has b)) (is_between gap) (range_with_len 0 256) byte
    (omega (arith, size, low)) all (rw at between) in
    not-true (has byte) (rw at at passes)

-- a test that passes at more bytes than are in a number
pub apart_by_test : (has more : ℕ → Bool) (gap : Gap) → IsOfBytes gap
    → are_apart more gap ≡ true → ((b : ℕ) → has b ≡ true → more b ≡ true) → IsApart has gap
apart_by_test has more gap is all within =
    apart_by_bytes has gap is
    (λ byte low h. false_from_ne_true (is_between gap byte)
    (λ between. let none = none_shared more gap all byte low between in
    let some = within byte h in absurd cc))

-- ---- the bytes of kinds by a word

-- a digit of any radix is a letter or a digit
digit_is : (radix byte : ℕ) → is_digit_of_radix radix byte ≡ true
    → is_ascii_alphanumeric byte ≡ true
unfolding digit_value
digit_is radix byte h = grind (arith, nat_tests)

module _ (word byte : ℕ) where
  abbrev letter : Bool
  letter = is_ascii_alphanumeric byte

  abbrev parts : Bool
  parts = separates (Some word) byte

  word_letter : letter ≡ true → is_word_byte word byte ≡ true
  word_letter h = or_left (letter || is_sign byte) parts (or_left letter (is_sign byte) h)

  word_sign : is_sign byte ≡ true → is_word_byte word byte ≡ true
  word_sign h = or_left (letter || is_sign byte) parts (or_right letter (is_sign byte) h)

  word_separator : parts ≡ true → is_word_byte word byte ≡ true
  word_separator h = or_right (letter || is_sign byte) parts h

  of_rule : (rule : Rule) → rule.separator ≡ separator word → is_of_rule rule byte ≡ true
      → is_word_byte word byte ≡ true
  unfolding is_digit is_separator
  of_rule rule same h =
      elim (or_cases (is_digit rule byte) (is_separator rule.separator byte) h) [
        | inl digit ↦ word_letter (digit_is rule.radix byte digit)
        | inr other ↦
            let o : is_separator (separator word) byte ≡ true = rw same at other in word_separator o
      ]

  pub of_integer : (least : ℕ) → is_integer_byte least word byte ≡ true
      → is_word_byte word byte ≡ true
  of_integer least h =
      elim (or_cases (is_of_rule (rule_of word Integer) byte) (nat_lt 0 least && is_sign byte) h) [
        | inl is ↦ of_rule (rule_of word Integer) refl is
        | inr is ↦ word_sign (and_parts (nat_lt 0 least) (is_sign byte) is).1
      ]

  abbrev whole : Bool
  whole = is_of_rule (rule_of word Integer) byte

  abbrev part : Bool
  part = is_of_rule (rule_of word Fraction) byte

  by_whole : whole || part ≡ true → is_word_byte word byte ≡ true
  by_whole h = elim (or_cases whole part h) [
    | inl is ↦ of_rule (rule_of word Integer) refl is
    | inr is ↦ of_rule (rule_of word Fraction) refl is
  ]

  by_sign : whole || part || is_sign byte ≡ true → is_word_byte word byte ≡ true
  by_sign h = elim (or_cases (whole || part) (is_sign byte) h) [
    | inl is ↦ by_whole is
    | inr is ↦ word_sign is
  ]

  module _ (point : ℕ) where
    pointed : is_word_byte word byte ≡ true → is_pointed_byte word point byte ≡ true
    pointed h = or_left (is_word_byte word byte) (is_point point byte) h

    pub of_scaled : is_scaled_byte word point byte ≡ true → is_pointed_byte word point byte ≡ true
    of_scaled h = elim (or_cases (whole || part || is_sign byte) (is_point point byte) h) [
      | inl is ↦ pointed (by_sign is)
      | inr is ↦ or_right (is_word_byte word byte) (is_point point byte) is
    ]

  of_mark : is_mark 101 byte ≡ true → letter ≡ true
  of_mark h = grind (arith, nat_tests)

  abbrev power : Bool
  power = is_of_rule (rule_of word Exponent) byte

  by_power : is_scaled_byte word 46 byte || power ≡ true → is_pointed_byte word 46 byte ≡ true
  by_power h = elim (or_cases (is_scaled_byte word 46 byte) power h) [
    | inl is ↦ of_scaled 46 is
    | inr is ↦ pointed 46 (of_rule (rule_of word Exponent) refl is)
  ]

  pub of_float : is_float_byte word plain_marks byte ≡ true
      → is_pointed_byte word 46 byte ≡ true
  of_float h =
      elim (or_cases (is_scaled_byte word 46 byte || power) (is_mark 101 byte) h) [
        | inl is ↦ by_power is
        | inr is ↦ pointed 46 (word_letter (of_mark is))
      ]

-- ---- two numbers with a byte between them

pub apart_both : (p q : ℕ → Bool) (between : ℕ) (gap : Gap) → IsApart p gap
    → is_between gap between ≡ false → IsApart q gap → IsApart (is_byte_of_both p between q) gap
apart_both p q between gap first middle second byte h =
    elim (or_cases (p byte || byte == between) (q byte) h) [
      | inl is ↦ elim (or_cases (p byte) (byte == between) is) [
        | inl of ↦ first byte of
        | inr same ↦ rw (eqb-true byte between same) middle
      ]
      | inr of ↦ second byte of
    ]

-- ---- one byte

-- a byte that isn't in both
pub none_here : (x y r : Bool) → r ≡ (x && y) → r ≡ false → x ≡ true → y ≡ false
none_here true true r is none h = absurd cc
none_here false true r is none h = absurd cc
none_here x false r is none h = refl

pub both_here : (x y r : Bool) → r ≡ (x && y) → r ≡ true → (x ≡ true) × (y ≡ true)
both_here x y r is h = and_parts x y (sym is ∙ h)
