-- The text of a float.
use Rattle.std.proofs.Common.{◌≡◌, ℕ, Bool, true, false, T, not, List, ◌++◌, refl, subst}
use Rattle.std.specs.Prelude.{Option, Ok, Some, None, IsTrue, codes, slice_get, if◌then◌else◌}
use Rattle.std.specs.Float.{Float, nan, inf, fin, binary64, float_is_finite, float_is_infinite, is_sign_negative}
use Rattle.std.specs.Float.Numeral.{scan_numeral}
use Rattle.std.specs.Float.Parse.{read_float}
use Rattle.std.specs.Fmt.{sign_text}
use lib.Ieee.{is_nan}
use Rattle.lexical_format.specs.declared.TheConstants.{STANDARD}
use Rattle.lexical_digits.specs.declared.skip.rule.Rule.{Rule}
use Rattle.lexical_digits.specs.declared.skip.rule.Class.TheVariants.{Digit, Separator, Other}
use Rattle.lexical_digits.specs.declared.skip.component.Component.TheVariants.{Integer, Fraction, Exponent, Special}
use Rattle.lexical_digits.specs.Separators.{holds_separator, is_separator, is_separator_class, class, is_digit}
use Rattle.lexical_digits.specs.State.{rule_of}
use Rattle.digit_floats.specs.Float.{plain_marks, parse_at}
use Rattle.digit_floats.specs.Separators.{HasNoSeparator}
use Rattle.digit_floats.proofs.AsStd.{as_parsed}
use Rattle.float_writers.specs.Write as writers
use Rattle.float_writers.specs.declared.write.FloatLayout.TheVariants.{Plain}
use Rattle.digit_totals.specs.Text.{IsShortestText, IsTextOf}

-- ---- no byte is a separator of the standard word

by_digit : (d : Bool)
    → is_separator_class (if d then Digit else (if false then Separator else Other)) ≡ false
by_digit true = refl
by_digit false = refl

none : (rule : Rule) (byte : Option ℕ) → rule.separator ≡ 0
    → is_separator_class (class rule byte) ≡ false
unfolding is_separator is_digit
none rule None e = refl
none rule (Some byte) e = rw e (by_digit (is_digit rule byte))

plain : (text : List ℕ) → HasNoSeparator STANDARD text
unfolding holds_separator
plain text Integer q = none (rule_of STANDARD Integer) (slice_get text q) refl
plain text Fraction q = none (rule_of STANDARD Fraction) (slice_get text q) refl
plain text Exponent q = none (rule_of STANDARD Exponent) (slice_get text q) refl
plain text Special q = none (rule_of STANDARD Special) (slice_get text q) refl

-- ---- the texts

shortest_text : (x : Float) (text : List ℕ) → IsTrue (float_is_finite x)
    → writers.IsTextOf binary64 x Plain text → IsShortestText x text
unfolding float_is_finite
shortest_text nan text finite is = absurd (cc)
shortest_text (inf negative) text finite is = absurd (cc)
shortest_text (fin negative m e) text finite is = is

-- what is written is the text of the float
pub finite_text : (x : Float) (text : List ℕ) → writers.IsTextOf binary64 x Plain text
    → parse_at STANDARD text plain_marks binary64 0 ≡ Ok x → IsTextOf x text
finite_text x text is reads = record {
  shortest = shortest_text x text is.finite is;
  reads = as_parsed STANDARD text (refl, refl) (plain text) binary64 x reads;
}

pub infinite_is_number : (x : Float) → IsTrue (float_is_infinite x) → T (not (is_nan x))
unfolding float_is_infinite is_nan
infinite_is_number nan e = absurd (cc)
infinite_is_number (inf negative) e = tt
infinite_is_number (fin negative m k) e = absurd (cc)

pub infinite_text : (x : Float) (negative : Bool) → IsTrue (float_is_infinite x)
    → is_sign_negative x ≡ negative → IsTextOf x (sign_text negative ++ codes "inf")
unfolding float_is_infinite is_sign_negative read_float scan_numeral
infinite_text nan negative e sign = absurd (cc)
infinite_text (inf true) negative e sign =
    subst (λ (b : Bool). IsTextOf (inf true) (sign_text b ++ codes "inf")) sign
    (record { shortest = refl; reads = refl })
infinite_text (inf false) negative e sign =
    subst (λ (b : Bool). IsTextOf (inf false) (sign_text b ++ codes "inf")) sign
    (record { shortest = refl; reads = refl })
infinite_text (fin s m k) negative e sign = absurd (cc)

pub nan_text : (x : Float) → IsTrue (is_nan x) → IsTextOf x (codes "NaN")
unfolding is_nan read_float scan_numeral
nan_text nan e = record { shortest = refl; reads = refl }
nan_text (inf negative) e = absurd (cc)
nan_text (fin negative m k) e = absurd (cc)

-- what is neither an infinity nor a NaN is finite
pub others_are_finite : (x : Float) → float_is_infinite x ≡ false → is_nan x ≡ false
    → IsTrue (float_is_finite x)
unfolding float_is_infinite is_nan float_is_finite
others_are_finite nan infinite is = absurd (cc)
others_are_finite (inf negative) infinite is = absurd (cc)
others_are_finite (fin negative m k) infinite is = refl
