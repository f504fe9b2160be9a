-- The bytes of a float's text, none of which is a separator.
use Rattle.std.proofs.Common.{◌≡◌, ℕ, zero, suc, ◌/◌, ◌^◌, ◌<◌, Bool, true, false, List, [], ◌∷◌, ◌++◌, refl, sym, ap, ◌∙◌, inl, inr, arith}
use Rattle.std.specs.Prelude.{⊤, Option, Some, None, slice_get, ◌||◌, ◌==◌, if◌then◌else◌}
use Rattle.std.specs.Char.{is_ascii_digit, digit_value}
use Rattle.std.specs.Float.Numeral as std
use Rattle.std.specs.Fmt.{sign_text}
use Rattle.std.specs.Str.Parse.{AllDigits}
use Rattle.std.proofs.lemmas.Bool.{cases_eq}
use Rattle.std.proofs.lemmas.Bool.Decides.{nat_tests}
use Rattle.lexical_format.specs.declared.TheConstants.{STANDARD}
use Rattle.lexical_digits.specs.declared.skip.rule.Rule.{Rule}
use Rattle.lexical_digits.specs.declared.skip.rule.Class.TheVariants.{Digit, Separator, Other}
use Rattle.lexical_digits.specs.declared.skip.component.Component.TheVariants.{Integer, Fraction, Exponent, Special}
use Rattle.lexical_digits.specs.Separators.{holds_separator, is_separator, is_separator_class, class, is_digit}
use Rattle.lexical_digits.specs.State.{rule_of}
use Rattle.digit_floats.specs.Separators.{HasNoSeparator}
use Rattle.digit_floats.proofs.Decimals.{same_digit}
use Rattle.decimal_writers.specs.Text.{number_text, last_digits, with_point}
use Rattle.decimal_writers.specs.Value.{IsOfFloats}
use Rattle.decimal_writers.proofs.Values.{number_are, last_are}

-- a digit, a minus, a point or an `e`
abbrev pub is_byte : ℕ → Bool
is_byte byte = is_ascii_digit byte || (byte == 45 || (byte == 46 || byte == 101))

-- all bytes of a text are such
abbrev pub AreBytes : List ℕ → Type 0
AreBytes [] = ⊤
AreBytes (b ∷ bs) = (is_byte b ≡ true) × AreBytes bs

pub both : (one other : List ℕ) → AreBytes one → AreBytes other → AreBytes (one ++ other)
both [] other is are = are
both (b ∷ bs) other is are = (is.0, both bs other is.1 are)

digit_byte : (d : ℕ) → digit_value d < 10 → is_byte d ≡ true
digit_byte d few = grind (arith, nat_tests, few)

digit_bytes : (ds : List ℕ) → AllDigits 10 ds → AreBytes ds
digit_bytes [] are = tt
digit_bytes (d ∷ ds) are = (digit_byte d are.0, digit_bytes ds are.1)

pub sign_bytes : (negative : Bool) → AreBytes (sign_text negative)
sign_bytes true = (refl, tt)
sign_bytes false = tt

pub point_bytes : (places n : ℕ) → AreBytes (with_point places n)
point_bytes zero n = digit_bytes (number_text n) (number_are n)
point_bytes (suc more) n =
    both (number_text (n / 10 ^ suc more)) (46 ∷ last_digits (suc more) n)
    (digit_bytes (number_text (n / 10 ^ suc more)) (number_are (n / 10 ^ suc more)))
    (refl, digit_bytes (last_digits (suc more) n) (last_are (suc more) n))

pub exponent_bytes : (down : Bool) (ds : List ℕ) → AllDigits 10 ds
    → AreBytes (std.exponent_text down ds)
exponent_bytes down [] are = tt
exponent_bytes down (d ∷ ds) are =
    (refl, both (sign_text down) (d ∷ ds) (sign_bytes down) (digit_bytes (d ∷ ds) are))

abbrev IsByteAt : Option ℕ → Type 0
IsByteAt None = ⊤
IsByteAt (Some byte) = is_byte byte ≡ true

byte_at : (text : List ℕ) → AreBytes text → (q : ℕ) → IsByteAt (slice_get text q)
byte_at [] are q = tt
byte_at (b ∷ bs) are zero = are.0
byte_at (b ∷ bs) are (suc q) = byte_at bs are.1 q

apart : (separator byte : ℕ) → is_separator separator 45 ≡ false → is_separator separator 46 ≡ false
    → is_separator separator 101 ≡ false → is_ascii_digit byte ≡ false → is_byte byte ≡ true
    → is_separator separator byte ≡ false
apart separator byte minus point mark other is = elim (cases_eq byte 45) [
  | inl one ↦ ap (is_separator separator) one ∙ minus
  | inr a ↦ elim (cases_eq byte 46) [
    | inl one ↦ ap (is_separator separator) one ∙ point
    | inr b ↦
        let last : byte ≡ 101 = grind (arith, nat_tests, other, is, a, b) in
        ap (is_separator separator) last ∙ mark
  ]
]

by_class : (d s : Bool) → (d ≡ false → s ≡ false)
    → is_separator_class (if d then Digit else (if s then Separator else Other)) ≡ false
by_class true s only = refl
by_class false s only =
    ap (λ (b : Bool). is_separator_class (if b then Separator else Other)) (only refl)

none : (rule : Rule) (byte : Option ℕ) → rule.radix ≡ 10
    → is_separator rule.separator 45 ≡ false → is_separator rule.separator 46 ≡ false
    → is_separator rule.separator 101 ≡ false → IsByteAt byte
    → is_separator_class (class rule byte) ≡ false
none rule None ten minus point mark is = refl
none rule (Some byte) ten minus point mark is =
    by_class (is_digit rule byte) (is_separator rule.separator byte) (λ other.
    apart rule.separator byte minus point mark (sym (same_digit rule byte ten) ∙ other) is)

-- no position of a text of these bytes holds a separator
pub plain : (word : ℕ) → IsOfFloats word → (text : List ℕ) → AreBytes text
    → HasNoSeparator word text
unfolding holds_separator
plain word of text are Integer q =
    none (rule_of word Integer) (slice_get text q) of.decimal.0 of.minus of.point of.mark
    (byte_at text are q)
plain word of text are Fraction q =
    none (rule_of word Fraction) (slice_get text q) of.decimal.0 of.minus of.point of.mark
    (byte_at text are q)
plain word of text are Exponent q =
    none (rule_of word Exponent) (slice_get text q) of.decimal.1 of.minus of.point of.mark
    (byte_at text are q)
plain word of text are Special q =
    none (rule_of word Special) (slice_get text q) of.decimal.0 of.minus of.point of.mark
    (byte_at text are q)

pub standard : IsOfFloats STANDARD
unfolding is_separator
standard = record { decimal = (refl, refl); minus = refl; point = refl; mark = refl }
