-- A byte that no number has is neither a digit nor a separator of its rules, nor one of its marks.
use Rattle.std.proofs.Common.{◌≡◌, ℕ, ◌+◌, false, Option, None, Some, refl, arith}
use Rattle.std.specs.Prelude.{◌==◌}
use Rattle.std.proofs.lemmas.Bool.{or_parts}
use Rattle.std.proofs.lemmas.Bool.Decides.{nat_tests}
use Rattle.lexical_digits.specs.declared.skip.rule.Rule.{Rule}
use Rattle.lexical_digits.specs.declared.skip.component.Component.TheVariants.{Integer, Fraction, Exponent}
use Rattle.lexical_digits.specs.State.{rule_of}
use Rattle.lexical_digits.proofs.Calls.BothSides.{IsOther}
use Rattle.digit_floats.specs.declared.parts.Marks.{Marks}
use Rattle.digit_floats.specs.Bytes.{is_sign, is_point, is_mark}
use Rattle.digit_floats.proofs.BothSides as floats
use Rattle.digit_floats.proofs.BothSides.{NoScaled, NoFloat}
use Rattle.digit_pieces.specs.Cuts.{is_of_rule, is_integer_byte, is_scaled_byte, is_float_byte}
use Rattle.digit_languages.proofs.Before.{Fails}
pub use Rattle.digit_languages.proofs.Before.{fails_of}

-- a test of positions that are both so much later
pub same_place : (by a b : ℕ) → (by + a == by + b) ≡ (a == b)
same_place by a b = grind (arith, nat_tests)

-- a byte that is neither a digit nor the separator, or none
pub other_of : (rule : Rule) (o : Option ℕ) → Fails (is_of_rule rule) o → IsOther rule o
other_of rule None h = refl
other_of rule (Some b) h = grind (arith, nat_tests)

-- ---- of an integer

pub no_integer : (least word : ℕ) (o : Option ℕ) → Fails (is_integer_byte least word) o
    → IsOther (rule_of word Integer) o
no_integer least word o h =
    other_of (rule_of word Integer) o
    (fails_of (is_integer_byte least word) _ (λ b none. (or_parts _ _ none).0) o h)

-- ---- of a scaled number

pub record IsNoScaled (word mark b : ℕ) : Type 0 where
  pub whole : is_of_rule (rule_of word Integer) b ≡ false
  pub part : is_of_rule (rule_of word Fraction) b ≡ false
  pub sign : is_sign b ≡ false
  pub point : is_point mark b ≡ false

pub none_of_scaled : (word point b : ℕ) → is_scaled_byte word point b ≡ false
    → IsNoScaled word point b
none_of_scaled word point b h =
    let three = or_parts _ _ h in
    let two = or_parts _ _ three.0 in
    let one = or_parts _ _ two.0 in
    record { whole = one.0; part = one.1; sign = two.1; point = three.1 }

pub no_scaled : (word point : ℕ) (o : Option ℕ) → Fails (is_scaled_byte word point) o
    → NoScaled word point o
no_scaled word point None h = floats.no_scaled word point
no_scaled word point (Some b) h =
    let none = none_of_scaled word point b h in
    record {
      whole = other_of (rule_of word Integer) (Some b) none.whole;
      part = other_of (rule_of word Fraction) (Some b) none.part;
      point = none.point;
      sign = none.sign;
    }

-- ---- of a float

pub record IsNoFloat (word : ℕ) (marks : Marks) (b : ℕ) : Type 0 where
  pub scaled : is_scaled_byte word marks.point b ≡ false
  pub power : is_of_rule (rule_of word Exponent) b ≡ false
  pub mark : is_mark marks.exponent b ≡ false

pub none_of_float : (word : ℕ) (marks : Marks) (b : ℕ) → is_float_byte word marks b ≡ false
    → IsNoFloat word marks b
none_of_float word marks b h =
    let two = or_parts _ _ h in
    let one = or_parts _ _ two.0 in
    record { scaled = one.0; power = one.1; mark = two.1 }

pub no_float : (word : ℕ) (marks : Marks) (o : Option ℕ) → Fails (is_float_byte word marks) o
    → NoFloat word marks o
no_float word marks None h = floats.no_float word marks
no_float word marks (Some b) h =
    let none = none_of_float word marks b h in
    record {
      scaled = no_scaled word marks.point (Some b) none.scaled;
      power = other_of (rule_of word Exponent) (Some b) none.power;
      mark = none.mark;
    }
