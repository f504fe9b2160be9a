-- Digits with no separator among them.
use Rattle.std.proofs.Common.{◌≡◌, ℕ, zero, suc, ◌+◌, ◌-◌, ◌*◌, ◌%◌, ◌^◌, ◌<◌, ◌≤◌, Bool, true, false, ◌&&◌, List, length, take, drop, refl, sym, subst, ◌∙◌, ◌⊎◌, inl, inr, arith}
use Rattle.std.specs.Prelude.{slice_index, slice_range, None}
use Rattle.std.specs.Char.{is_ascii_digit}
use Rattle.std.specs.Str.Parse.{digits_value_after}
use Rattle.std.proofs.lemmas.Bool.Decides.{nat_tests}
use Rattle.std.proofs.lemmas.List.{length-drop, length-take, take-take}
use Rattle.lexical_digits.specs.declared.skip.rule.Rule.{Rule}
use Rattle.lexical_digits.specs.Separators.{is_digit, is_separator, IsSupported}
use Rattle.lexical_digits.specs.Stop.{stop}
use Rattle.digit_values.specs.After.{digits_between}
use Rattle.digit_values.specs.First.{ReadsFirst}
use Rattle.digit_values.specs.Reads.{ArePlain, IsOffSlice}
use Rattle.digit_values.proofs.Between.{none_between}
use Rattle.digit_values.proofs.ForCallers.{value_more, all_digits}
use Rattle.digit_values.proofs.Passed.{reading}
use Rattle.digit_values.proofs.PlainDigits.{passed, counted, decimal}
use Rattle.digit_words.proofs.Joined.{lt_or_le}
use Rattle.digit_floats.specs.Eights.{AreDigits}
use Rattle.digit_floats.proofs.Decimals.{same_digit}
use Rattle.digit_floats.proofs.Others.{all_kept}

-- ---- a loop over them

pub first_is : (a b : Bool) → (a && b) ≡ true → a ≡ true
first_is true b e = refl
first_is false b e = e

pub second_is : (a b : Bool) → (a && b) ≡ true → b ≡ true
second_is true b e = e
second_is false true e = refl
second_is false false e = e

-- eight bytes, one after the other
eight : (p : ℕ → Bool) (at d : ℕ) → d < 8 → p at ≡ true → p (at + 1) ≡ true → p (at + 2) ≡ true
    → p (at + 3) ≡ true → p (at + 4) ≡ true → p (at + 5) ≡ true → p (at + 6) ≡ true
    → p (at + 7) ≡ true → p (at + d) ≡ true
eight p at zero l a b c d e f g h = let same : at + 0 ≡ at = omega arith in rw same a
eight p at (suc zero) l a b c d e f g h = b
eight p at (suc (suc zero)) l a b c d e f g h = c
eight p at (suc (suc (suc zero))) l a b c d e f g h = d
eight p at (suc (suc (suc (suc zero)))) l a b c d e f g h = e
eight p at (suc (suc (suc (suc (suc zero))))) l a b c d e f g h = f
eight p at (suc (suc (suc (suc (suc (suc zero)))))) l a b c d e f g h = g
eight p at (suc (suc (suc (suc (suc (suc (suc zero))))))) l a b c d e f g h = h
eight p at (suc (suc (suc (suc (suc (suc (suc (suc n)))))))) l a b c d e f g h =
    absurd (omega (arith, l))

module _ (rule : Rule) (text : List ℕ) (ten : rule.radix ≡ 10) where
  abbrev digit_at : ℕ → Bool
  digit_at q = is_ascii_digit (slice_index text q)

  pub by_ascii : (q : ℕ) (b : Bool) → digit_at q ≡ b → is_digit rule (slice_index text q) ≡ b
  by_ascii q b e = same_digit rule (slice_index text q) ten ∙ e

  pub eight_digits : (at : ℕ) → digit_at at ≡ true → digit_at (at + 1) ≡ true
      → digit_at (at + 2) ≡ true → digit_at (at + 3) ≡ true → digit_at (at + 4) ≡ true
      → digit_at (at + 5) ≡ true → digit_at (at + 6) ≡ true → digit_at (at + 7) ≡ true
      → AreDigits rule text at (at + 8)
  eight_digits at a b c d e f g h q low up =
      let same : at + (q - at) ≡ q = omega (arith, low) in
      by_ascii q true
      (subst (λ z. digit_at z ≡ true) same
      (eight digit_at at (q - at) (omega (arith, low, up)) a b c d e f g h))

pub none_are : (rule : Rule) (text : List ℕ) (at : ℕ) → AreDigits rule text at at
none_are rule text at q low up = absurd (omega (arith, low, up))

pub both_are : (rule : Rule) (text : List ℕ) (start at end : ℕ) → AreDigits rule text start at
    → AreDigits rule text at end → AreDigits rule text start end
both_are rule text start at end h k q low up = by (lt_or_le q at)
  where
    by : (q < at) ⊎ (at ≤ q) → is_digit rule (slice_index text q) ≡ true
    by (inl less) = h q low less
    by (inr more) = k q more up

pub one_is : (rule : Rule) (text : List ℕ) (at : ℕ)
    → is_digit rule (slice_index text at) ≡ true → AreDigits rule text at (at + 1)
one_is rule text at e q low up =
    let same : at ≡ q = omega (arith, low, up) in
    subst (λ z. is_digit rule (slice_index text z) ≡ true) same e

-- ---- their value

-- with one more
pub value_one : (rule : Rule) (text : List ℕ) (start before at : ℕ) → rule.radix ≡ 10
    → start ≤ at → at < length text → is_digit rule (slice_index text at) ≡ true
    → (48 ≤ slice_index text at) × (slice_index text at < 58)
    × (digits_value_after rule.radix before (digits_between rule text start (at + 1))
    ≡ digits_value_after rule.radix before (digits_between rule text start at) * 10
    + (slice_index text at - 48))
value_one rule text start before at ten low l digit =
    let ascii : is_ascii_digit (slice_index text at) ≡ true =
    sym (same_digit rule (slice_index text at) ten) ∙ digit in
    let least : 48 ≤ slice_index text at = grind (arith, nat_tests, ascii) in
    let most : slice_index text at < 58 = grind (arith, nat_tests, ascii) in (
      least,
      most,
      value_more rule text start before at 10 _ low l (sym ten) (decimal _ least most),
    )

-- a digit as a byte
pub ascii_of : (rule : Rule) (byte : ℕ) → rule.radix ≡ 10 → is_digit rule byte ≡ true
    → (48 ≤ byte) × (byte < 58)
ascii_of rule byte ten digit =
    let ascii : is_ascii_digit byte ≡ true = sym (same_digit rule byte ten) ∙ digit in
    (grind (arith, nat_tests, ascii), grind (arith, nat_tests, ascii))

pub some_are : (rule : Rule) (text : List ℕ) (start at next end : ℕ) → start ≤ at → next ≤ end
    → AreDigits rule text start end → AreDigits rule text at next
some_are rule text start at next end low up are q a b =
    are q (omega (arith, low, a)) (omega (arith, up, b))

-- with eight more
module _ (rule : Rule) (text : List ℕ) (start before at : ℕ) (ten : rule.radix ≡ 10)
    (low : start ≤ at) (l : at + 8 ≤ length text) (are : AreDigits rule text at (at + 8)) where
  abbrev worth_to : ℕ → ℕ
  worth_to k = digits_value_after rule.radix before (digits_between rule text start (at + k))

  step : (k : ℕ) → k < 8
      → (48 ≤ slice_index text (at + k)) × (slice_index text (at + k) < 58)
      × (worth_to (k + 1) ≡ worth_to k * 10 + (slice_index text (at + k) - 48))
  step k few =
      let same : at + (k + 1) ≡ at + k + 1 = omega arith in
      let here = are (at + k) (omega arith) (omega (arith, few)) in
      rw same
      (value_one rule text start before (at + k) ten (omega (arith, low)) (omega (arith, l, few))
      here)

  pub value_eight : (a b c d e f g h : ℕ) → a ≡ slice_index text (at + 0) - 48
      → b ≡ slice_index text (at + 1) - 48 → c ≡ slice_index text (at + 2) - 48
      → d ≡ slice_index text (at + 3) - 48 → e ≡ slice_index text (at + 4) - 48
      → f ≡ slice_index text (at + 5) - 48 → g ≡ slice_index text (at + 6) - 48
      → h ≡ slice_index text (at + 7) - 48
      → worth_to 8
      ≡ worth_to 0 * 100000000 + (((a * 10 + b) * 100 + (c * 10 + d)) * 10000
      + ((e * 10 + f) * 100 + (g * 10 + h)))
  value_eight a b c d e f g h p q r s t u v w =
      omega (
        arith,
        (step 0 (omega arith)).2,
        (step 1 (omega arith)).2,
        (step 2 (omega arith)).2,
        (step 3 (omega arith)).2,
        (step 4 (omega arith)).2,
        (step 5 (omega arith)).2,
        (step 6 (omega arith)).2,
        (step 7 (omega arith)).2,
      )

-- two and two of them
pub joined : (value w a b c d e f g h p q r s total : ℕ) → w ≡ value → p ≡ a * 10 + b
    → q ≡ c * 10 + d → r ≡ e * 10 + f → s ≡ g * 10 + h
    → total
    ≡ w * 100000000 + (((a * 10 + b) * 100 + (c * 10 + d)) * 10000
    + ((e * 10 + f) * 100 + (g * 10 + h)))
    → value * 100000000 + ((p * 100 + q) * 10000 + (r * 100 + s)) ≡ total
joined value w a b c d e f g h p q r s total i j k l m n = omega (arith, i, j, k, l, m, n)

-- ---- where they end

module _ (rule : Rule) (text : List ℕ) (start end : ℕ) (supported : IsSupported rule)
    (onward : start ≤ end) (within : end ≤ length text) (are : AreDigits rule text start end) where
  abbrev value : ℕ
  value = digits_value_after rule.radix 0 (digits_between rule text start end) % 2 ^ 64

  plain : ArePlain rule text start 0 None end value
  plain = record { onward = onward; within = within; digits = are; worth = tt; wrapped = refl }

  pub all_count : end ≡ start + length (digits_between rule text start end)
  all_count = counted rule text start plain

  -- as many digits were read as bytes
  off : (end < length text → is_digit rule (slice_index text end) ≡ false)
      → (end < length text → is_separator rule.separator (slice_index text end) ≡ false)
      → IsOffSlice rule text start 0 None
      (record { value = value; count = end - start; end = end; is_too_large = false })
  off other apart =
      let all = counted rule text start plain in
      let kept = passed rule text start plain in
      grind (arith, reading, all, kept, other, apart)

  pub stops : (end < length text → is_digit rule (slice_index text end) ≡ false)
      → (end < length text → is_separator rule.separator (slice_index text end) ≡ false)
      → end ≡ stop rule text start 0
  stops other apart = ((off other apart).reads 0).stops refl

-- ---- the first of them

first_between : (rule : Rule) (text : List ℕ) (start at end : ℕ) → start ≤ at → at ≤ end
    → end ≤ length text → IsSupported rule → AreDigits rule text start end
    → take (at - start) (digits_between rule text start end) ≡ digits_between rule text start at
first_between rule text start at end low up l supported are =
    let all = all_count rule text start end supported (omega (arith, low, up)) l are in
    let some = all_count rule text start at supported low (omega (arith, up, l))
    (λ q a b. are q a (omega (arith, b, up))) in
    let long : length (slice_range text start end) ≡ end - start =
    sliced end (omega (arith, low, up)) l in
    let short : length (slice_range text start at) ≡ at - start =
    sliced at low (omega (arith, up, l)) in
    let whole : digits_between rule text start end ≡ slice_range text start end =
    all_kept (is_digit rule) (slice_range text start end) (omega (arith, all, long)) in
    let part : digits_between rule text start at ≡ slice_range text start at =
    all_kept (is_digit rule) (slice_range text start at) (omega (arith, some, short)) in
    let less : at - start ≤ end - start = omega (arith, low, up) in
    rw (whole, part, take-take (at - start) (end - start) (drop start text) less) refl
  where
    sliced : (e : ℕ) → start ≤ e → e ≤ length text → length (slice_range text start e) ≡ e - start
    sliced e low l =
        length-take (e - start) (drop start text)
        ∙ rw (length-drop start text) (omega (arith, low, l))

module _ (rule : Rule) (text : List ℕ) (start at end before value : ℕ) (ten : rule.radix ≡ 10)
    (supported : IsSupported rule) (low : start ≤ at) (up : at ≤ end) (l : end ≤ length text)
    (are : AreDigits rule text start end) where
  pub reads : value ≡ digits_value_after rule.radix before (digits_between rule text start at)
      → value ≤ 10 ^ 19 - 1
      → (at < end → 10 ^ 19 - 1
      < digits_value_after rule.radix before (digits_between rule text start (at + 1)))
      → ReadsFirst rule.radix (10 ^ 19 - 1) before (digits_between rule text start end)
      (record { value = value; count = end - start; dropped = end - at })
  reads is fits next =
      let all = all_count rule text start end supported (omega (arith, low, up)) l are in
      let some : end - start - (end - at) ≡ at - start = omega (arith, low, up) in
      let more : end - start - (end - at) + 1 ≡ at + 1 - start = omega (arith, low, up) in
      record {
        some = rw ten (omega arith);
        all = all_digits rule (slice_range text start end);
        count = omega (arith, all);
        dropped = omega (arith, low);
        is = rw (some, first_between rule text start at end low up l supported are) is;
        fits = fits;
        next = λ h.
            rw (
              more,
              first_between rule text start (at + 1) end (omega (arith, low)) (omega (arith, h)) l
                  supported are,
            )
            (next (omega (arith, h)));
      }

-- to be named in an attribute
pub ruleset ends = (one_is, both_are, by_ascii)

pub ruleset eights = (some_are, none_between)

pub ruleset ones = (value_one, none_between)
