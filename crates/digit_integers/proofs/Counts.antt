-- One turn of a loop that counts digits.
use Rattle.std.proofs.Common.{◌≡◌, ℕ, ℤ, suc, ◌+◌, ◌-◌, ◌*◌, ◌^◌, ◌<◌, ◌≤◌, List, [], ◌∷◌, length, drop, slice_index, refl, sym, ◌∙◌, arith, inl, inr}
use Rattle.std.specs.Prelude.{Bool, nat_le, nat_lt, scan, true, false, Option, Some, None, pos, unsigned_abs}
use Rattle.std.specs.Char.{digit_value}
use Rattle.std.specs.Str.Parse.{AllDigits, digits_value, digits_value_after}
use Rattle.std.proofs.lemmas.Bool.{cases_lt}
use Rattle.std.proofs.lemmas.Bool.Decides.{nat_tests}
use Rattle.std.proofs.lemmas.Int.Digits.{digits_value-lt}
use Rattle.std.proofs.lemmas.List.{drop_more, drop_all}
use Rattle.std.proofs.lemmas.List.Sums.{take_while-cons}
use Rattle.lexical_format.specs.Digits.{digit_of_radix, is_digit_of_radix}
use Rattle.digit_integers.specs.Exactly.{leading_digits, value_and, fitting, IsCounted}
use Rattle.digit_values.proofs.ForCallers.{value_is}

module _ (radix : ℕ) where
  -- before the turn with this index: what is left goes on from the value so far
  pub record CountsOn (bytes : List ℕ) (most value i : ℕ) : Type 0 where
    pub counts : i + fitting radix most value (leading_digits radix (drop i bytes))
        ≡ fitting radix most 0 (leading_digits radix bytes)
    pub digits : i + length (leading_digits radix (drop i bytes)) ≡ length
        (leading_digits radix bytes)
    pub is : digits_value_after radix value (leading_digits radix (drop i bytes))
        ≡ digits_value radix (leading_digits radix bytes)
    pub fits : value ≤ most

  pub counts_begin : (bytes : List ℕ) (most : ℕ) → CountsOn bytes most 0 0
  counts_begin bytes most = record {
    counts = omega arith;
    digits = omega arith;
    is = refl;
    fits = omega arith;
  }

  -- ---- the digits that lead some bytes

  leads : (byte digit : ℕ) (bytes : List ℕ) → digit_of_radix radix byte ≡ Some digit
      → leading_digits radix (byte ∷ bytes) ≡ byte ∷ leading_digits radix bytes
  leads byte digit bytes is =
      rw (take_while-cons (is_digit_of_radix radix) byte bytes, is) refl

  leads_none : (byte : ℕ) (bytes : List ℕ) → digit_of_radix radix byte ≡ None
      → leading_digits radix (byte ∷ bytes) ≡ []
  leads_none byte bytes is = rw (take_while-cons (is_digit_of_radix radix) byte bytes, is) refl

  module _ (most value byte : ℕ) (digits : List ℕ) where
    abbrev next : ℕ
    next = value * radix + digit_value byte

    fits_one : next ≤ most
        → fitting radix most value (byte ∷ digits) ≡ suc (fitting radix most next digits)
    fits_one l =
        let within : nat_le next most ≡ true = grind (arith, nat_tests, l) in
        rw (
          take_while-cons (λ more. nat_le more most) next
              (scan (value_and radix) (value_and radix) next digits),
          within,
        ) refl

    fits_none : most < next → fitting radix most value (byte ∷ digits) ≡ 0
    fits_none l =
        let over : nat_le next most ≡ false = grind (arith, nat_tests, l) in
        rw (
          take_while-cons (λ more. nat_le more most) next
              (scan (value_and radix) (value_and radix) next digits),
          over,
        ) refl

  -- ---- a turn

  module _ (bytes : List ℕ) (most value i : ℕ) (on : CountsOn bytes most value i) where
    -- where no digit follows
    stops : leading_digits radix (drop i bytes) ≡ [] → i ≤ length bytes
        → IsCounted radix bytes most value i false
    stops none within =
        let counts = rw none at on.counts in
        let digits = rw none at on.digits in
        record {
          counts = omega (arith, counts);
          too_large = grind (arith, nat_tests, digits);
          is = λ _. rw none at on.is;
          fits = on.fits;
          within = within;
        }

    -- at the end
    pub counts_all : i ≡ length bytes → IsCounted radix bytes most value i false
    counts_all all = stops (rw (drop_all i bytes (omega (arith, all))) refl) (omega (arith, all))

    module _ (within : i < length bytes) where
      -- at a byte that is no digit
      pub counts_other : digit_of_radix radix (slice_index bytes i) ≡ None
          → IsCounted radix bytes most value i false
      counts_other none =
          stops (rw (drop_more bytes i 0 within)
          (leads_none (slice_index bytes i) (drop (i + 1) bytes) none)) (omega (arith, within))

      module _ (digit : ℕ) (is : digit_of_radix radix (slice_index bytes i) ≡ Some digit) where
        abbrev byte : ℕ
        byte = slice_index bytes i

        abbrev others : List ℕ
        others = leading_digits radix (drop (i + 1) bytes)

        worth : digit_value byte ≡ digit
        worth = value_is radix byte digit is

        led : leading_digits radix (drop i bytes) ≡ byte ∷ others
        led = rw (drop_more bytes i 0 within) (leads byte digit (drop (i + 1) bytes) is)

        -- at a digit with which the value is too large
        pub counts_over : most < value * radix + digit → IsCounted radix bytes most value i true
        counts_over large =
            let none = fits_none most value byte others (rw worth large) in
            let counts = rw (led, none) at on.counts in
            let digits = rw led at on.digits in
            record {
              counts = omega (arith, counts);
              too_large = grind (arith, nat_tests, digits);
              is = λ e. grind (arith, e);
              fits = on.fits;
              within = omega (arith, within);
            }

        -- with one digit more
        pub counts_next : (more : ℕ) → more ≡ value * radix + digit → more ≤ most
            → CountsOn bytes most more (i + 1)
        counts_next more same fits =
            let next : more ≡ value * radix + digit_value byte = rw worth same in
            let one = fits_one most value byte others (rw (← next) fits) in
            let counts = rw (led, one) at on.counts in
            let digits = rw led at on.digits in
            record {
              counts = rw next (omega (arith, counts));
              digits = omega (arith, digits);
              is = rw next (rw led at on.is);
              fits = fits;
            }

  -- ---- so many digits are below a power of the radix

  -- at most all of some digits fit
  fitting_within : (most value : ℕ) (digits : List ℕ)
      → fitting radix most value digits ≤ length digits
  fitting_within most value [] = omega arith
  fitting_within most value (byte ∷ digits) =
      let next : ℕ = value * radix + digit_value byte in
      elim (cases_lt most next) [
        | inl l ↦ omega (arith, fits_none most value byte digits l)
        | inr l ↦
            omega (arith, fits_one most value byte digits l, fitting_within most next digits)
      ]

  -- those that lead some bytes are digits
  lead_all : (bytes : List ℕ) → AllDigits radix (leading_digits radix bytes)
  lead_all [] = tt
  lead_all (byte ∷ bytes) = by (digit_of_radix radix byte) refl (lead_all bytes)
    where
      by : (digit : Option ℕ) → digit_of_radix radix byte ≡ digit
          → AllDigits radix (leading_digits radix bytes)
          → AllDigits radix (leading_digits radix (byte ∷ bytes))
      by None is all = rw (leads_none byte bytes is) tt
      by (Some digit) is all =
          let low : digit_value byte < radix =
          grind (arith, nat_tests, value_is radix byte digit is, is) in
          rw (leads byte digit bytes is) (low, all)

  pub counted_below : (bytes : List ℕ) (most value count : ℕ) (is_too_large : Bool)
      → is_too_large ≡ false → IsCounted radix bytes most value count is_too_large
      → value < radix ^ count
  counted_below bytes most value count is_too_large fits counted =
      let all : nat_lt count (length (leading_digits radix bytes)) ≡ false =
      sym counted.too_large ∙ fits in
      let within = fitting_within most 0 (leading_digits radix bytes) in
      let same : count ≡ length (leading_digits radix bytes) =
      grind (arith, nat_tests, all, counted.counts, within) in
      rw (counted.is fits, same)
      (digits_value-lt radix (leading_digits radix bytes) (lead_all bytes))

-- a number of so many digits
pub number_below : (radix value count start : ℕ) (z : ℤ) → z ≡ pos value → value < radix ^ count
    → unsigned_abs z < radix ^ (start + count - start)
number_below radix value count start z is low =
    let all : start + count - start ≡ count = omega arith in
    rw (is, all) low

pub ruleset turns = (counts_begin, counts_all, counts_other, counts_over, counts_next)
