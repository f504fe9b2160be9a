-- The totals of numbers, found one by one.
use Rattle.std.proofs.Common.{◌≡◌, ℕ, ℤ, pos, negsuc, ◌+◌, ◌-◌, ◌^◌, ◌<◌, ◌+ℤ◌, ◌≤ℤ◌, true, false, List, [], ◌∷◌, All, length, map, Ok, Err, refl, sym, ◌∙◌, arith, inl, inr, subst}
use Rattle.std.specs.Prelude.{fold, Contains}
use Rattle.std.specs.Int.{int_min, int_max}
use Rattle.std.proofs.lemmas.Bool.Decides.{nat_tests}
use Rattle.std.proofs.lemmas.Int.{ints, fold-int_min_bounds, fold-int_min_reached, fold-int_max_bounds, fold-int_max_reached}
use Rattle.std.proofs.lemmas.List.Elements.{All-cons, All-head, All-nil}
use Rattle.digit_totals.specs.declared.options.Options.{Options}
use Rattle.digit_totals.specs.declared.totals.Totals.{Totals}
use Rattle.digit_totals.specs.Meaning.{AreTotalsOf, HaveValues, IsSumFault, sum_fits}
use Rattle.digit_totals.specs.Report.{report_of}
use Rattle.digit_totals.specs.declared.fault.LineFault.TheVariants.{Sum}
use Rattle.digit_totals.specs.Totals.{no_numbers, plus, has_128_bits, adding}
use Rattle.digit_totals.specs.Value.{value_of}
use Rattle.digit_totals.proofs.Fits.{value_fits}
use Rattle.digit_totals.proofs.Meaning.{Counts, sum_says}

pub counts : (options : Options) → Counts (adding options)
counts options = record { none = refl; more = λ t value. refl }

counted : (t : Totals) (values : List ℤ) → (fold plus t values).count ≡ t.count + length values
counted t [] = omega arith
counted t (value ∷ values) = omega (arith, counted (plus t value) values)

summed : (t : Totals) (values : List ℤ) → (fold plus t values).sum ≡ fold ◌+ℤ◌ t.sum values
summed t [] = refl
summed t (value ∷ values) = summed (plus t value) values

lowest : (t : Totals) (values : List ℤ) → (fold plus t values).least ≡ fold int_min t.least values
lowest t [] = refl
lowest t (value ∷ values) = lowest (plus t value) values

highest : (t : Totals) (values : List ℤ)
    → (fold plus t values).greatest ≡ fold int_max t.greatest values
highest t [] = refl
highest t (value ∷ values) = highest (plus t value) values

-- the least and the greatest number of 128 bits
abbrev top : ℤ
top = pos (2 ^ 127 - 1)

abbrev bottom : ℤ
bottom = negsuc (2 ^ 127 - 1)

is_top : (value : ℤ) → top ≤ℤ value → has_128_bits value ≡ true → value ≡ top
is_top (pos n) l fits = grind (arith, nat_tests, ints, l, fits)
is_top (negsuc n) l fits = absurd (omega (arith, ints, l))

is_bottom : (value : ℤ) → value ≤ℤ bottom → has_128_bits value ≡ true → value ≡ bottom
is_bottom (pos n) l fits = absurd (omega (arith, ints, l))
is_bottom (negsuc n) l fits = grind (arith, nat_tests, ints, l, fits)

abbrev Fits128 : ℤ → Type 0
Fits128 value = has_128_bits value ≡ true

least_of : (values : List ℤ) (r : ℤ) → All Fits128 values → 0 < length values
    → r ≡ fold int_min top values → Contains values r
least_of [] r fit some e = absurd (omega arith)
least_of (value ∷ values) r fit some e =
    elim (fold-int_min_reached top (value ∷ values) r e) [
      | inl same ↦
          let bound = All-head (λ x. r ≤ℤ x) value values
          (fold-int_min_bounds top (value ∷ values) r e).1 in (
            0,
            some,
            is_top value (subst (λ x. x ≤ℤ value) same bound) (All-head Fits128 value values fit)
                ∙ sym same,
          )
      | inr found ↦ found
    ]

greatest_of : (values : List ℤ) (r : ℤ) → All Fits128 values → 0 < length values
    → r ≡ fold int_max bottom values → Contains values r
greatest_of [] r fit some e = absurd (omega arith)
greatest_of (value ∷ values) r fit some e =
    elim (fold-int_max_reached bottom (value ∷ values) r e) [
      | inl same ↦
          let bound = All-head (λ x. x ≤ℤ r) value values
          (fold-int_max_bounds bottom (value ∷ values) r e).1 in (
            0,
            some,
            is_bottom value (subst (λ x. value ≤ℤ x) same bound)
                (All-head Fits128 value values fit)
                ∙ sym same,
          )
      | inr found ↦ found
    ]

totals_of : (values : List ℤ) → All Fits128 values
    → AreTotalsOf values (fold plus no_numbers values)
totals_of values fit =
    let t : Totals = fold plus no_numbers values in
    let least = lowest no_numbers values in
    let greatest = highest no_numbers values in
    record {
      count = omega (arith, counted no_numbers values);
      sum = summed no_numbers values;
      least = (fold-int_min_bounds top values t.least least).1;
      least_of = λ some. least_of values t.least fit some least;
      greatest = (fold-int_max_bounds bottom values t.greatest greatest).1;
      greatest_of = λ some. greatest_of values t.greatest fit some greatest;
    }

-- ---- of lines

module _ (options : Options) where
  values_fit : (lines : List (List ℕ)) (values : List ℤ)
      → map (value_of options) lines ≡ map Ok values → All Fits128 values
  values_fit [] [] e = All-nil Fits128
  values_fit [] (value ∷ values) e = absurd (cc)
  values_fit (line ∷ lines) [] e = absurd (cc)
  values_fit (line ∷ lines) (value ∷ values) e =
      All-cons Fits128 value values (value_fits options line value (cc))
      (values_fit lines values (cc))

  pub totals_are : (lines : List (List ℕ)) (values : List ℤ)
      → HaveValues (value_of options) lines values
      → AreTotalsOf values (fold plus no_numbers values)
  totals_are lines values have = totals_of values (values_fit lines values have.are)

  pub sum_is : (text : List ℕ) (n : ℕ) → report_of (adding options) text ≡ Err (Sum n)
      → IsSumFault (value_of options) sum_fits text n
  sum_is text n e =
      let s = sum_says (adding options) (counts options) text n e in
      record {
        line = s.line;
        values = s.values;
        first = s.first;
        value = s.value;
        is = s.is;
        large = subst (λ z. has_128_bits (z +ℤ s.value) ≡ false)
            (summed no_numbers s.values) s.large;
      }
