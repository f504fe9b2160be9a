-- What a rule reads is read by one with more flags.
use Rattle.std.proofs.Common.{◌≡◌, ℕ, ℤ, Bool, false, List, length, refl, ap, ◌∙◌, arith}
use Rattle.std.specs.Prelude.{Ok}
use Rattle.std.proofs.lemmas.Option.{slice_get_past}
use Rattle.lexical_digits.specs.declared.skip.rule.Rule.{Rule}
use Rattle.lexical_digits.specs.Separators.{IsSupported, GrantsAtLeast}
use Rattle.lexical_digits.specs.Looks.{separator_at}
use Rattle.lexical_digits.specs.Stop.{stop}
use Rattle.lexical_digits.proofs.Rule.Grants.{digit_same}
use Rattle.lexical_digits.proofs.Calls.MoreFlags.{same_stop}
use Rattle.digit_integers.specs.Integers.{integer_at}
use Rattle.digit_integers.specs.Numbers.{digits_from, is_negative_from, with_sign, number_at, to_end}
use Rattle.digit_integers.proofs.Texts.{says_some}

pub same_integer : (lesser greater : Rule) (text : List ℕ) (start most : ℕ)
    → IsSupported lesser → GrantsAtLeast lesser greater
    → separator_at lesser.separator text (stop lesser text start 0) ≡ false
    → integer_at greater text start most ≡ integer_at lesser text start most
unfolding integer_at
same_integer lesser greater text start most fits more other =
    let stops = same_stop lesser greater text start 0 fits more other in
    rw (stops, ← digit_same lesser greater more.radix, ← more.radix) refl

none_at_end : (byte : ℕ) (text : List ℕ) → separator_at byte text (length text) ≡ false
unfolding separator_at
none_at_end byte text = rw (slice_get_past text (length text) (omega arith)) refl

-- so does one that goes on to the end of the text
pub same_at_end : (lesser greater : Rule) (text : List ℕ) (start most value : ℕ)
    → IsSupported lesser → GrantsAtLeast lesser greater
    → integer_at lesser text start most ≡ Ok (value, length text)
    → integer_at greater text start most ≡ Ok (value, length text)
same_at_end lesser greater text start most value fits more is =
    let ends = (says_some lesser text start most value (length text) is).ends in
    same_integer lesser greater text start most fits more
    (rw (← ends) (none_at_end lesser.separator text)) ∙ is

-- ---- a number

module _ (lesser greater : Rule) (text : List ℕ) where
  pub same_number : (least most start : ℕ) → IsSupported lesser → GrantsAtLeast lesser greater
      → separator_at lesser.separator text (stop lesser text (digits_from least text start) 0)
      ≡ false → number_at least most greater text start ≡ number_at least most lesser text start
  same_number least most start fits more other =
      ap (with_sign (is_negative_from least text start))
      (same_integer lesser greater text (digits_from least text start) _ fits more other)

  stops_at_end : (negative : Bool) (start most : ℕ) (value : ℤ)
      → to_end text (with_sign negative (integer_at lesser text start most)) ≡ Ok value
      → stop lesser text start 0 ≡ length text
  unfolding integer_at
  stops_at_end negative start most value is = grind arith

  pub same_whole : (least most start : ℕ) (value : ℤ) → IsSupported lesser
      → GrantsAtLeast lesser greater
      → to_end text (number_at least most lesser text start) ≡ Ok value
      → to_end text (number_at least most greater text start) ≡ Ok value
  same_whole least most start value fits more is =
      let end = stops_at_end (is_negative_from least text start) _ _ value is in
      rw (same_number least most start fits more (rw end (none_at_end lesser.separator text))) is
