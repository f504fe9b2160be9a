-- At the end of a text, and of a text of blanks.
use Rattle.std.proofs.Common.{◌≡◌, ℕ, zero, suc, Bool, true, false, List, [], length, refl, arith}
use Rattle.std.specs.Prelude.{◌==◌, nat_eq, Result, Ok, Err}
use Rattle.std.specs.Float.{Format}
use Rattle.std.proofs.lemmas.Bool.{eq-eqb}
use Rattle.std.proofs.lemmas.Bool.Decides.{nat_tests}
use Rattle.std.proofs.lemmas.Option.{slice_get_past}
use Rattle.lexical_digits.specs.declared.skip.rule.Rule.{Rule}
use Rattle.lexical_digits.specs.declared.skip.component.Component.{Component}
use Rattle.lexical_digits.specs.declared.skip.component.Component.TheVariants.{Integer}
use Rattle.lexical_digits.specs.State.{rule_of}
use Rattle.lexical_digits.specs.Stop.{stop}
use Rattle.lexical_digits.proofs.Calls.FirstOther.{stop_is_first}
use Rattle.digit_literals.specs.declared.list.Gap.{Gap}
use Rattle.digit_values.specs.declared.LiteralError.TheVariants as integers
use Rattle.digit_integers.specs.Integers.{integer_at}
use Rattle.digit_literals.specs.Lists.{past_blanks, list_at}
use Rattle.digit_integers.specs.Numbers.{number_at, digits_from, is_negative_from}
use Rattle.digit_values.proofs.Between.{none_between}
use Rattle.digit_floats.specs.Bytes.{stands, is_sign, is_point}
use Rattle.digit_floats.specs.Float.{plain_marks, read_at, past_sign, digits_end, fraction_digits, fraction_end}
use Rattle.digit_floats.specs.Float as floating
use Rattle.digit_amounts.specs.Scaled.{read_scaled_at, scaled_at}
use Rattle.digit_floats.specs.declared.error.FloatError.TheVariants as floats
use Rattle.digit_amounts.specs.declared.scaled.ScaledError.TheVariants as scaled
use Rattle.digit_lists.specs.Lists.{full_list, parsed}
use Rattle.digit_lists.specs.declared.list.ListError.TheVariants as lists

-- ---- a text of blanks

module _ {A E : Type 0} (one : ℕ → Result (A × ℕ) E) (none_at : ℕ → E → Bool) (gap : Gap)
    (text : List ℕ) (error : E) (blank : past_blanks gap text 0 ≡ length text)
    (none : one (length text) ≡ Err error) (there : none_at (length text) error ≡ true) where
  self : nat_eq (length text) (length text) ≡ true
  self = eq-eqb (length text) (length text) refl

  pub may_trail : (room : ℕ) → gap.may_trail ≡ true
      → parsed text (full_list one none_at gap text room 0) ≡ Ok 0
  unfolding list_at
  may_trail zero trails = rw (blank, none, trails, there, self) refl
  may_trail (suc room) trails = rw (blank, none, trails, there, self) refl

  pub no_trail : (room : ℕ) → gap.may_trail ≡ false
      → parsed text (full_list one none_at gap text room 0) ≡ Err (lists.Number error)
  unfolding list_at
  no_trail zero not = rw (blank, none, not) refl
  no_trail (suc room) not = rw (blank, none, not) refl

pub ruleset blanks = (may_trail, no_trail)

-- ---- the end

stop_end : (rule : Rule) (text : List ℕ) → stop rule text (length text) 0 ≡ length text
stop_end rule text =
    let first = stop_is_first rule text (length text) 0 (omega arith) in
    omega (arith, first.onward, first.within)

pub none_stands : (p : ℕ → Bool) (text : List ℕ) → stands p text (length text) ≡ false
none_stands p text = rw (slice_get_past text (length text) (omega arith)) refl

module _ (least most : ℕ) (rule : Rule) (text : List ℕ) where
  pub integer_end : integer_at rule text (length text) most ≡ Err (integers.Empty (length text))
  unfolding integer_at
  integer_end = rw (stop_end rule text, none_between rule text (length text)) refl

  no_minus : is_negative_from least text (length text) ≡ false
  no_minus = grind (arith, nat_tests, none_stands (λ b. b == 45) text)

  no_sign : digits_from least text (length text) ≡ length text
  no_sign =
      grind (arith, nat_tests, none_stands (λ b. b == 45) text, none_stands (λ b. b == 43) text)

pub integer_ends : (least most : ℕ) (rule : Rule) (text : List ℕ)
    → number_at least most rule text (length text) ≡ Err (integers.Empty (length text))
integer_ends least most rule text =
    rw (
      no_minus least most rule text,
      no_sign least most rule text,
      integer_end least most rule text,
    ) refl

module _ (word : ℕ) (text : List ℕ) where
  pub end_end : (k : Component) → digits_end word text k (length text) ≡ length text
  unfolding digits_end
  end_end k = stop_end (rule_of word k) text

  pub no_digits : (k : Component) → floating.digits_from word text k (length text) ≡ []
  unfolding floating.digits_from
  no_digits k = rw (end_end k) (none_between (rule_of word k) text (length text))

  no_fraction : (point : ℕ) → fraction_digits word text point (length text) ≡ []
  unfolding fraction_digits
  no_fraction point = rw (none_stands (is_point point) text) refl

  fraction_end_end : (point : ℕ) → fraction_end word text point (length text) ≡ length text
  unfolding fraction_end
  fraction_end_end point = rw (none_stands (is_point point) text) refl

  past_end : past_sign text (length text) ≡ length text
  past_end = rw (none_stands is_sign text) refl

  pub float_ends : (f : Format)
      → read_at word text plain_marks f (length text) ≡ Err (floats.Empty (length text))
  float_ends f =
      rw (past_end, end_end Integer, no_digits Integer, no_fraction 46, fraction_end_end 46) refl

  scaled_end : (point places most : ℕ)
      → scaled_at word text point places most (length text) ≡ Err (scaled.Empty (length text))
  unfolding scaled_at
  scaled_end point places most =
      rw (end_end Integer, no_digits Integer, no_fraction point, fraction_end_end point) refl

  pub scaled_ends : (point places least most : ℕ)
      → read_scaled_at word text point places least most (length text)
      ≡ Err (scaled.Empty (length text))
  scaled_ends point places least most =
      rw (
        no_minus least most (rule_of word Integer) text,
        no_sign least most (rule_of word Integer) text,
        scaled_end point places most,
      ) refl

pub ruleset ends = (integer_ends, float_ends, scaled_ends)
