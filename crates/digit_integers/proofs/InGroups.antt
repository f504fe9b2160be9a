-- Digits, and groups of three after them.
use Rattle.std.proofs.Common.{◌≡◌, ℕ, ◌+◌, ◌*◌, ◌<◌, ◌≤◌, true, List, length, refl, sym, ap, ◌∙◌, arith}
use Rattle.std.specs.Prelude.{slice_index, Some}
use Rattle.std.specs.Str.Parse.{digits_value_after}
use Rattle.lexical_format.specs.Digits.{digit_of_radix}
use Rattle.lexical_digits.specs.declared.skip.rule.Rule.{Rule}
use Rattle.lexical_digits.specs.Separators.{is_digit, is_separator, IsSupported}
use Rattle.digit_values.specs.After.{digits_between}
use Rattle.lexical_digits.specs.Stop.{stop}
use Rattle.lexical_digits.proofs.Calls.FirstOther.{stop_is_first}
use Rattle.digit_integers.specs.Answered.{IsToEnd}
use Rattle.digit_integers.proofs.Texts.{some_at}
use Rattle.digit_integers.specs.Groups.{DropsLone, IsGroup}
use Rattle.digit_values.proofs.Between.{one_more}
use Rattle.digit_values.proofs.ForCallers.{value_more}
use Rattle.digit_values.proofs.Passed.{HasPassed, passed}
use Rattle.digit_values.proofs.Between.{no_more}

-- a decimal digit is one of the rule
of_rule : (rule : Rule) (byte digit : ℕ) → rule.radix ≡ 10 → digit_of_radix 10 byte ≡ Some digit
    → is_digit rule byte ≡ true
unfolding is_digit
of_rule rule byte digit ten is = rw (ten, is) refl

module _ (rule : Rule) (text : List ℕ) (start : ℕ) where
  abbrev upto : ℕ → List ℕ
  upto at = digits_between rule text start at

  -- a digit is passed
  digit_passed : (at : ℕ) → start ≤ at → at < length text → HasPassed rule text start at
      → is_digit rule (slice_index text at) ≡ true → HasPassed rule text start (at + 1)
  digit_passed at low l before digit = grind (arith, passed)

  -- a lone separator is
  separator_passed : IsSupported rule → rule.internal ≡ true → (at : ℕ) → start ≤ at
      → at + 1 < length text → 0 < length (upto at) → HasPassed rule text start at
      → is_separator rule.separator (slice_index text at) ≡ true
      → is_digit rule (slice_index text (at + 1)) ≡ true
      → HasPassed rule text start (at + 1) × (upto (at + 1) ≡ upto at)
  separator_passed supported internal at low l some before separates digit =
      grind (arith, passed, no_more)

  -- digits and lone separators up to an end, and the value of the digits
  pub record AreGroups (end value : ℕ) : Type 0 where
    pub passed : HasPassed rule text start end
    pub some : 0 < length (upto end)
    pub is : value ≡ digits_value_after rule.radix 0 (upto end)

  -- a group more
  pub group_more : {separator : ℕ} → DropsLone rule separator → (at value group more : ℕ)
      → start ≤ at → AreGroups at value → IsGroup separator text at group
      → more ≡ value * 1000 + group → AreGroups (at + 4) more
  group_more {separator} drops at value group more low all is sum =
      let ten = drops.ten in
      let within = is.within in
      let d1 = of_rule rule _ is.hundreds ten is.first in
      let d2 = of_rule rule _ is.tens ten is.second in
      let d3 = of_rule rule _ is.ones ten is.third in
      let s2 : at + 1 + 1 ≡ at + 2 = omega arith in
      let s3 : at + 2 + 1 ≡ at + 3 = omega arith in
      let s4 : at + 3 + 1 ≡ at + 4 = omega arith in
      let both =
      separator_passed drops.supported drops.internal at low (omega (arith, within)) all.some
      all.passed (rw drops.is is.separates) d1 in
      let p2 =
      rw s2 at (digit_passed (at + 1) (omega (arith, low)) (omega (arith, within)) both.0 d1) in
      let p3 =
      rw s3 at (digit_passed (at + 2) (omega (arith, low)) (omega (arith, within)) p2 d2) in
      let p4 =
      rw s4 at (digit_passed (at + 3) (omega (arith, low)) (omega (arith, within)) p3 d3) in
      let worth_to : ℕ → ℕ = λ n. digits_value_after rule.radix 0 (upto n) in
      let count_to : ℕ → ℕ = λ n. length (upto n) in
      let v1 : worth_to (at + 1) ≡ worth_to at = ap (digits_value_after rule.radix 0) both.1 in
      let c1 : count_to (at + 1) ≡ count_to at = ap length both.1 in
      let v2 =
      ap worth_to (sym s2) ∙ value_more rule text start 0 (at + 1) 10 is.hundreds
      (omega (arith, low)) (omega (arith, within)) (sym ten) is.first in
      let v3 =
      ap worth_to (sym s3) ∙ value_more rule text start 0 (at + 2) 10 is.tens
      (omega (arith, low)) (omega (arith, within)) (sym ten) is.second in
      let v4 =
      ap worth_to (sym s4) ∙ value_more rule text start 0 (at + 3) 10 is.ones
      (omega (arith, low)) (omega (arith, within)) (sym ten) is.third in
      let o2 = one_more rule text start (at + 1) (omega (arith, low)) (omega (arith, within)) in
      let o3 = one_more rule text start (at + 2) (omega (arith, low)) (omega (arith, within)) in
      let o4 = one_more rule text start (at + 3) (omega (arith, low)) (omega (arith, within)) in
      let c2 : count_to (at + 2) ≡ count_to at + 1 =
      ap count_to (sym s2) ∙ grind (arith, o2, d1, c1) in
      let c3 : count_to (at + 3) ≡ count_to at + 2 =
      ap count_to (sym s3) ∙ grind (arith, o3, d2, c2) in
      let c4 : count_to (at + 4) ≡ count_to at + 3 =
      ap count_to (sym s4) ∙ grind (arith, o4, d3, c3) in
      record {
        passed = p4;
        some = omega (arith, c4);
        is = omega (arith, v1, v2, v3, v4, is.is, all.is, sum);
      }

  -- up to the end of the text they are the integer there
  pub groups_to_end : (end value : ℕ) → rule.radix ≡ 10 → start ≤ length text
      → end ≡ length text → AreGroups end value → IsToEnd rule text start value
  groups_to_end end value ten within there all = λ most fits.
      let first = stop_is_first rule text start 0 within in
      let at = stop rule text start 0 in
      let ends : at ≡ end =
      grind (arith, first.within, first.onward, first.at, all.passed.kept 0 at, there) in
      let found = some_at rule text start most (rw ends all.some)
      (rw ends (omega (arith, all.is, fits))) in
      grind (arith, found, ends, there, all.is)
