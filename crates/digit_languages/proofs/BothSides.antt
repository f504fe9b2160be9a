-- A literal from a position on, in a text and in one that begins there: what is before the
-- position, and what follows a byte that ends the literal, make no difference.
use Rattle.std.proofs.Common.{◌≡◌, ℕ, ◌+◌, ◌-◌, ◌≤◌, Bool, true, false, Option, Some, None, List, length, drop, refl, ◌∙◌, ap, arith}
use Rattle.std.specs.Prelude.{◌==◌, nat_lt, if◌then◌else◌, is_some, IfSome, Result, Ok, Err}
use Rattle.std.proofs.lemmas.Bool.Decides.{nat_tests}
use Rattle.std.specs.Char.{is_ascii_alphanumeric}
use Rattle.lexical_format.specs.Word.{separator}
use Rattle.lexical_digits.specs.declared.skip.component.Component.{Component}
use Rattle.lexical_digits.specs.declared.skip.component.Component.TheVariants.{Integer, Fraction, Exponent, Special}
use Rattle.lexical_digits.specs.Cursor.{holds_of}
use Rattle.lexical_digits.specs.Moves.{IsFresh, outcome_later}
use Rattle.lexical_digits.specs.Separators.{is_separator}
use Rattle.lexical_digits.specs.State.{rule_of}
use Rattle.lexical_digits.proofs.Calls.BothSides.{AreSameFrom, IsOther, weaker, from_rest, cut_if, cut_and, cut_test, cut_before}
use Rattle.digit_values.specs.declared.LiteralError.{LiteralError}
use Rattle.digit_values.specs.declared.LiteralError.TheVariants as integers
use Rattle.digit_integers.specs.Integers.{integer_at}
use Rattle.digit_values.specs.Moves.{literal_later}
use Rattle.digit_values.specs.Bytes.{has_byte}
use Rattle.digit_integers.proofs.BothSides.{cut_integer}
use Rattle.digit_languages.specs.declared.language.Language.{Language}
use Rattle.digit_languages.specs.declared.literal.Literal.{Literal}
use Rattle.digit_languages.specs.declared.literal.LanguageError.{LanguageError}
use Rattle.digit_languages.specs.declared.literal.LanguageError.TheVariants.{Zero}
use Rattle.digit_languages.specs.Words.{octal_of}
use Rattle.digit_languages.specs.Literals.{word_or, has_prefix, prefix_word, plain_word, word_at, digits_at, is_refused, literal_of, literal_at}
use Rattle.digit_languages.specs.Follows.{separates, is_literal_byte}
use Rattle.digit_languages.specs.Moves.{read_later}
use Rattle.digit_languages.proofs.Before.{Fails, ends_class}

-- the rule of a component has the separator of the word
one_separator : (word : ℕ) (k : Component) → (rule_of word k).separator ≡ separator word
one_separator word Integer = refl
one_separator word Fraction = refl
one_separator word Exponent = refl
one_separator word Special = refl

-- a byte that fails is neither a digit of a word nor its separator
pub other_of : (p : ℕ → Bool) → ((b : ℕ) → p b ≡ false → is_ascii_alphanumeric b ≡ false)
    → (word : ℕ) → ((b : ℕ) → p b ≡ false → separates (Some word) b ≡ false)
    → (k : Component) (o : Option ℕ) → Fails p o → IsOther (rule_of word k) o
unfolding is_separator
other_of p digits word separators k =
    ends_class p (rule_of word k) digits
    (λ b h. rw (one_separator word k) (separators b h))

-- ---- the words of a language

if_some : (P : ℕ → Type 0) (b : Bool) (o q : Option ℕ) → IfSome o P → IfSome q P
    → IfSome (if b then o else q) P
if_some P true o q h k = h
if_some P false o q h k = k

or_word : (P : ℕ → Type 0) (o : Option ℕ) (word : ℕ) → IfSome o P → P word → P (word_or o word)
or_word P None word h k = k
or_word P (Some w) word h k = h

if_word : (P : ℕ → Type 0) (b : Bool) (v w : ℕ) → P v → P w → P (if b then v else w)
if_word P true v w h k = h
if_word P false v w h k = k

module _ (P : ℕ → Type 0) (l : Language) (text : List ℕ) (start : ℕ) (binary : IfSome l.binary P)
    (octal : IfSome l.octal P) (hex : IfSome l.hexadecimal P) where
  -- what holds of each word of a prefix holds of that at a position
  pub prefix_has : IfSome (prefix_word l text start) P
  prefix_has =
      let none = if_some P (has_prefix l text start 120) l.hexadecimal None hex tt in
      let or_octal = if_some P (has_prefix l text start 111) l.octal _ octal none in
      if_some P (has_prefix l text start 98) l.binary _ binary or_octal

  -- and of that of a literal, if it holds of the others too
  word_has : P l.decimal → IfSome (octal_of l.first_zero) P → P (word_at l text start)
  word_has decimal zero =
      let first = or_word P (octal_of l.first_zero) l.decimal zero decimal in
      let plain = if_word P (has_byte text start 48) _ l.decimal first decimal in
      or_word P (prefix_word l text start) (plain_word l text start) prefix_has plain

-- digits as a literal, or the first 0 that is refused
abbrev literal_or : Bool → ℕ → ℕ → ℕ → ℕ → ℕ → Result Literal LanguageError
literal_or refused start word digits value end =
    if refused then Err (Zero start)
    else Ok (record { value = value; word = word; digits = digits; end = end })

-- ---- where letters and digits are parts of a number

module _ (p : ℕ → Bool) (one : List ℕ) (from : ℕ) (other : List ℕ) (at : ℕ)
    (both : AreSameFrom (Fails p) one from other at)
    (digits : (b : ℕ) → p b ≡ false → is_ascii_alphanumeric b ≡ false) where
  -- the digits of a word, of which the separator is a part
  pub by_word : (word : ℕ) → ((b : ℕ) → p b ≡ false → separates (Some word) b ≡ false)
      → (k : Component) → AreSameFrom (IsOther (rule_of word k)) one from other at
  by_word word separators k =
      weaker (Fails p) (IsOther (rule_of word k)) (other_of p digits word separators k) one from
      other at both

  no_byte : (byte : ℕ) → is_ascii_alphanumeric byte ≡ true
      → (o : Option ℕ) → Fails p o → holds_of (λ b. b == byte) o ≡ false
  no_byte byte is None h = refl
  no_byte byte is (Some b) h = grind (arith, nat_tests, digits b h)

  pub cut_has : (byte x i : ℕ) → is_ascii_alphanumeric byte ≡ true → x ≡ from + i → i ≤ at
      → has_byte one x byte ≡ has_byte other i byte
  cut_has byte x i is e l =
      cut_test (Fails p) one from other at both (λ b. b == byte) (no_byte byte is) x i e l

  has_before : (byte i : ℕ) → is_ascii_alphanumeric byte ≡ true → i ≤ at
      → has_byte other i byte ≡ true → i + 1 ≤ at
  has_before byte i is l =
      cut_before (Fails p) one from other at both (λ b. b == byte) (no_byte byte is) i l

  module _ (l : Language) (x i : ℕ) (e : x ≡ from + i) (low : i ≤ at) where
    cut_prefix : (letter : ℕ) → is_ascii_alphanumeric letter ≡ true
        → is_ascii_alphanumeric (letter - 32) ≡ true
        → has_prefix l one x letter ≡ has_prefix l other i letter
    cut_prefix letter lower upper =
        let next : x + 1 ≡ from + (i + 1) = omega (arith, e) in
        cut_and _ _ _ _ (cut_has 48 x i refl e low) (λ is.
        let more = has_before 48 i refl low is in
        rw (
          cut_has letter (x + 1) (i + 1) lower next more,
          cut_has (letter - 32) (x + 1) (i + 1) upper next more,
        ) refl)

    prefix_before : (letter : ℕ) → is_ascii_alphanumeric letter ≡ true
        → is_ascii_alphanumeric (letter - 32) ≡ true
        → has_prefix l other i letter ≡ true → i + 2 ≤ at
    prefix_before letter lower upper is =
        grind (
          arith,
          has_before 48 i refl low,
          has_before letter (i + 1) lower,
          has_before (letter - 32) (i + 1) upper,
        )

    pub cut_prefix_word : prefix_word l one x ≡ prefix_word l other i
    cut_prefix_word =
        rw (cut_prefix 98 refl refl, cut_prefix 111 refl refl, cut_prefix 120 refl refl) refl

    pub prefix_upto : is_some (prefix_word l other i) ≡ true → i + 2 ≤ at
    prefix_upto some =
        grind (
          arith,
          prefix_before 98 refl refl,
          prefix_before 111 refl refl,
          prefix_before 120 refl refl,
        )

    word_later : word_at l one x ≡ word_at l other i
    word_later = rw (cut_prefix_word, cut_has 48 x i refl e low) refl

    digits_later : digits_at l one x ≡ from + digits_at l other i
    digits_later =
        cut_if (λ n. from + n) _ _ _ _ _ _ (ap is_some cut_prefix_word) (λ is. omega (arith, e)) e

    digits_upto : digits_at l other i ≤ at
    digits_upto = grind (arith, prefix_upto, low)

    -- ---- the literal

    refused_later : (more other_digit : Bool)
        → is_refused l one x more other_digit ≡ is_refused l other i more other_digit
    refused_later more other_digit = rw (cut_prefix_word, cut_has 48 x i refl e low) refl

    more_later : (end : ℕ) → nat_lt (x + 1) (from + end) ≡ nat_lt (i + 1) end
    more_later end = grind (arith, nat_tests, e)

    refused_or : (t u : Bool) (w v d c value end : ℕ) → t ≡ u → w ≡ v → d ≡ from + c
        → literal_or t x w d value (from + end) ≡ read_later from (literal_or u i v c value end)
    refused_or t true w v d c value end h k m = rw (h, e) refl
    refused_or t false w v d c value end h k m = rw (h, k, m) refl

    of_later : (read : Result (ℕ × ℕ) LiteralError)
        → literal_of l one x (outcome_later literal_later from read)
        ≡ read_later from (literal_of l other i read)
    of_later (Ok (value, end)) =
        refused_or _ _ _ _ _ _ value end
        (refused_later _ _
        ∙ ap (λ more. is_refused l other i more (nat_lt 0 value)) (more_later end))
        word_later digits_later
    of_later (Err (integers.Overflow over)) =
        cut_if (read_later from) _ _ _ _ _ _ (refused_later true true) (λ is. rw e refl) refl
    of_later (Err (integers.Empty at)) = refl

    module _ (none : (b : ℕ) → p b ≡ false → is_literal_byte l b ≡ false) where
      abbrev Same : ℕ → Type 0
      Same word = AreSameFrom (IsOther (rule_of word Integer)) one from other at

      same_by : (o : Option ℕ) → ((b : ℕ) → p b ≡ false → separates o b ≡ false) → IfSome o Same
      same_by None separators = tt
      same_by (Some word) separators = by_word word separators Integer

      rule_here : Same (word_at l other i)
      rule_here =
          word_has Same l other i
          (same_by l.binary (λ b h. let n = none b h in grind arith))
          (same_by l.octal (λ b h. let n = none b h in grind arith))
          (same_by l.hexadecimal (λ b h. let n = none b h in grind arith))
          (same_by (Some l.decimal) (λ b h. let n = none b h in grind arith))
          (same_by (octal_of l.first_zero) (λ b h. let n = none b h in grind arith))

      integer_of : (w v d c most : ℕ) → w ≡ v → d ≡ from + c → Same v → c ≤ at
          → integer_at (rule_of w Integer) one d most
          ≡ outcome_later literal_later from (integer_at (rule_of v Integer) other c most)
      integer_of w v d c most word here same high =
          rw (word, here) (cut_integer (rule_of v Integer) one from other at same c most high)

      pub cut_literal : (most : ℕ) → literal_at l one x most
          ≡ read_later from (literal_at l other i most)
      cut_literal most =
          ap (literal_of l one x)
          (integer_of _ _ _ _ most word_later digits_later rule_here digits_upto)
          ∙ of_later (integer_at (rule_of (word_at l other i) Integer) other (digits_at l other i)
          most)

-- no literal of a language has a byte that its letters, digits and separators are not
pub no_alphanumeric : (l : Language) (b : ℕ) → is_literal_byte l b ≡ false
    → is_ascii_alphanumeric b ≡ false
no_alphanumeric l b h = grind arith

-- ---- what is before

pub moved_literal : (l : Language) (text : List ℕ) (from : ℕ) → from ≤ length text
    → IsFresh (is_literal_byte l) text from → (start most : ℕ)
    → literal_at l text (from + start) most
    ≡ read_later from (literal_at l (drop from text) start most)
moved_literal l text from within fresh start most =
    let p = is_literal_byte l in
    cut_literal p text from (drop from text) (length text + start)
    (from_rest (Fails p) refl text from (length text + start) within (omega arith) fresh)
    (no_alphanumeric l) l (from + start) start refl (omega arith) (λ b h. h) most
