-- The value of an integer whose digits are at most 19 significant ones.
use Rattle.std.proofs.Common.{◌≡◌, ℕ, ◌≤◌, List, [], ◌++◌, length, sym, ◌∙◌, ap, arith}
use Rattle.std.proofs.lemmas.Bool.Decides.{nat_tests}
use Rattle.std.proofs.lemmas.List.{append-nil, take_all, nil_from_length}
use Rattle.std.specs.Prelude.{Ok}
use Rattle.lexical_digits.specs.declared.skip.rule.Rule.{Rule}
use Rattle.digit_integers.specs.Integers.{integer_at, IsIntegerFrom}
use Rattle.std.specs.Str.Parse.{digits_value}
use Rattle.lexical_digits.specs.declared.skip.component.Component.TheVariants.{Integer}
use Rattle.digit_values.specs.Significant.{significant, IsOfFirstDigits}
use Rattle.digit_values.proofs.Significant.{worth_same}
use Rattle.digit_floats.specs.Float.{digits_from}
use Rattle.digit_floats.specs.Parts.{integer_of, fraction_of}
use Rattle.digit_floats.specs.declared.parts.Mantissa.{Mantissa}
use Rattle.digit_numbers.specs.Reads.{IsWholeOf}

-- the outcome of an integer that is there
pub integer_is : (rule : Rule) (text : List ℕ) (start most value end : ℕ)
    → IsIntegerFrom rule text start most value end
    → integer_at rule text start most ≡ Ok (value, end)
unfolding integer_at
integer_is rule text start most value end i =
    grind (arith, nat_tests, i.ends, i.some, i.is, i.fits)

-- none was dropped
value_of_few : (ds : List ℕ) (value more : ℕ) → IsOfFirstDigits 10 19 ds value more → more ≡ 0
    → value ≡ digits_value 10 ds
value_of_few ds value more of none =
    let few : length (significant ds) ≤ 19 = omega (arith, of.after, none) in
    of.is ∙ ap (λ t. digits_value 10 t) (take_all 19 (significant ds) few) ∙ worth_same 10 ds

module _ (word : ℕ) (text : List ℕ) (m : Mantissa) (is : IsWholeOf word text m)
    (none : m.places ≡ 0) where
  no_fraction : fraction_of text m ≡ []
  no_fraction = nil_from_length _ (sym is.is.places ∙ none)

  pub digits_of_whole : m.digits ≡ length (digits_from word text Integer m.start)
  digits_of_whole = rw (← is.integer) (omega (arith, is.is.digits, is.is.places, none))

  pub value_of_whole : m.dropped ≡ 0
      → m.value ≡ digits_value 10 (digits_from word text Integer m.start)
  value_of_whole few =
      let all : integer_of text m ++ fraction_of text m ≡ integer_of text m =
      rw no_fraction (append-nil (integer_of text m)) in
      value_of_few _ _ _ is.is.first few ∙ ap (λ t. digits_value 10 t) (all ∙ is.integer)

pub ruleset few = (digits_of_whole, value_of_whole)
