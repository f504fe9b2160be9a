-- Decimal digits with nothing before them are what std writes.
use Rattle.std.proofs.Common.{◌≡◌, ℕ, suc, ◌+◌, ◌/◌, ◌%◌, ◌^◌, ◌<◌, ◌≤◌, Bool, true, false, List, [], ◌∷◌, ◌++◌, length, sym, ap, ◌∙◌, arith, length-append}
use Rattle.std.specs.Prelude.{decimal, max}
use Rattle.std.specs.Fmt.{digit_glyph}
use Rattle.std.specs.List.{splice}
use Rattle.std.proofs.lemmas.Bool.Decides.{nat_tests}
use Rattle.std.proofs.lemmas.Fmt.{decimal_by_steps_wide}
use Rattle.digit_writers.specs.declared.layout.Layout.{Layout}
use Rattle.digit_writers.specs.Digits.{last_digits}
use Rattle.digit_writers.specs.Layouts.{digit_count, digits_in, grouped, thousands, sign_of, IsLaidOut}
use Rattle.digit_writers.proofs.Counting.{count_one, count_more}
use Rattle.digit_writers.proofs.Grouped.{group_zero, length_group}
use Rattle.digit_writers.proofs.LastDigits.{last_push, last_one}

module _ (upper : Bool) where
  glyph_is : (d : ℕ) → d < 10 → digit_glyph upper d ≡ 48 + d
  glyph_is d l = grind (arith, nat_tests)

  pub decimal_is : (n : ℕ) → n < 10 ^ 64 → last_digits 10 upper (digit_count 10 n) n ≡ decimal n
  decimal_is n few = sym (decimal_by_steps_wide
      (λ (m : ℕ) (ds : List ℕ). ds ≡ last_digits 10 upper (digit_count 10 m) m)
      (λ m l.
      let one = count_one 10 (omega arith) m l in
      let same : m % 10 ≡ m = omega arith in
      sym (ap (λ (k : ℕ). last_digits 10 upper k m) one ∙ last_one 10 upper m
      ∙ ap (λ (d : ℕ). digit_glyph upper d ∷ []) same ∙ ap (λ (d : ℕ). d ∷ []) (glyph_is m l)))
      (λ m ds l is.
      let k : ℕ = digit_count 10 (m / 10) in
      let more : digit_count 10 m ≡ suc k = omega (arith, count_more 10 (omega arith) m l) in
      ap (λ (t : List ℕ). t ++ ((48 + m % 10) ∷ [])) is
      ∙ ap (λ (d : ℕ). last_digits 10 upper k (m / 10) ++ (d ∷ []))
      (sym (glyph_is (m % 10) (omega arith)))
      ∙ sym (ap (λ (c : ℕ). last_digits 10 upper c m) more ∙ last_push 10 upper k m))
      n few)

module _ (layout : Layout) (n : ℕ) (few : n < 10 ^ 64) (ten : layout.radix ≡ 10)
    (no_zeros : layout.digits ≤ 1) where
  digits_are : digits_in layout n ≡ decimal n
  digits_are =
      let count : max layout.digits (digit_count layout.radix n) ≡ digit_count layout.radix n =
      omega arith in
      ap (λ (k : ℕ). last_digits layout.radix layout.is_upper k n) count
      ∙ ap (λ (r : ℕ). last_digits r layout.is_upper (digit_count r n) n) ten
      ∙ decimal_is layout.is_upper n few

  pub ungrouped_is : layout.every ≡ 0
      → grouped layout.separator layout.every (digits_in layout n) ≡ decimal n
  ungrouped_is none =
      ap (grouped layout.separator layout.every) digits_are
      ∙ ap (λ (e : ℕ). grouped layout.separator e (decimal n)) none
      ∙ group_zero layout.separator (decimal n)

  pub thousands_are : layout.every ≡ 3
      → grouped layout.separator layout.every (digits_in layout n) ≡ thousands layout.separator n
  thousands_are three =
      ap (grouped layout.separator layout.every) digits_are
      ∙ ap (λ (e : ℕ). grouped layout.separator e (decimal n)) three

-- how long groups of three are at most
pub thousands_length : (separator n room : ℕ) → length (decimal n) ≤ room
    → length (thousands separator n) ≤ room + room / 3
thousands_length separator n room fits = omega (arith, length_group separator 3 (decimal n), fits)

signs_few : (plus negative : Bool) → length (sign_of plus negative) ≤ 1
signs_few true true = omega arith
signs_few true false = omega arith
signs_few false true = omega arith
signs_few false false = omega arith

pub signs_fit : (plus negative : Bool) (digits : List ℕ) (room : ℕ) → length digits < room
    → length (sign_of plus negative) + length digits ≤ room
signs_fit plus negative digits room fits = omega (arith, signs_few plus negative, fits)

-- a text by its digits
pub laid_by : (layout : Layout) (negative : Bool) (n end : ℕ) (old new digits : List ℕ)
    → grouped layout.separator layout.every (digits_in layout n) ≡ digits
    → length digits < length old → end ≡ length (sign_of layout.has_plus negative ++ digits)
    → new ≡ splice old 0 end (sign_of layout.has_plus negative ++ digits)
    → IsLaidOut layout negative n old new end
laid_by layout negative n end old new digits is room last written =
    let signs : List ℕ = sign_of layout.has_plus negative in
    let joined = length-append signs digits in
    record {
      end_is = last ∙ ap (λ (ds : List ℕ). length (signs ++ ds)) (sym is);
      within = omega (
        arith,
        last,
        joined,
        signs_fit layout.has_plus negative digits (length old)
            room,
      );
      written = written ∙ ap (λ (ds : List ℕ). splice old 0 end (signs ++ ds)) (sym is);
    }
