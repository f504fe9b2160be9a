-- The parts of an amount.
use Rattle.std.proofs.Common.{◌≡◌, ℕ, zero, suc, ◌+◌, ◌/◌, ◌^◌, ◌<◌, ◌≤◌, ◌⊎◌, Bool, true, false, List, [], ◌∷◌, ◌++◌, length, set, refl, sym, ap, ◌∙◌, inl, inr, arith, length-append}
use Rattle.std.specs.Prelude.{decimal}
use Rattle.std.specs.List.{splice}
use Rattle.digit_writers.specs.Amounts.{whole_text, fraction_text, magnitude_text}
use Rattle.digit_writers.specs.Digits.{last_decimals}
use Rattle.digit_writers.specs.Layouts.{digit_count, gaps, sign_of}
use Rattle.digit_writers.proofs.Grouped.{length_group}
use Rattle.digit_writers.proofs.LastDigits.{length_last}
use Rattle.digit_writers.proofs.Plainly.{decimal_is}
use Rattle.digit_writers.proofs.Splices.{both, one_spliced, length_spliced}

-- ---- the integer

decimal_count : (n : ℕ) → n < 10 ^ 64 → length (decimal n) ≡ digit_count 10 n
decimal_count n few =
    ap length (sym (decimal_is false n few)) ∙ length_last 10 false (digit_count 10 n) n

pub whole_length : (separator n count : ℕ) → n < 10 ^ 64 → count ≡ digit_count 10 n
    → (count ≡ length (whole_text false separator n))
    × ((gap : ℕ) → gap ≡ gaps 3 count → count + gap ≡ length (whole_text true separator n))
whole_length separator n count few is =
    let long : length (decimal n) ≡ count = decimal_count n few ∙ sym is in (
      sym long,
      λ gap between. omega
          (arith, length_group separator 3 (decimal n), long, between, ap (gaps 3) long),
    )

-- ---- the fraction

pub fraction_cases : (point places n : ℕ)
    → ((places ≡ 0) × (fraction_text point places n ≡ []))
    ⊎ ((0 < places) × (fraction_text point places n ≡ point ∷ last_decimals places n))
fraction_cases point zero n = inl (refl, refl)
fraction_cases point (suc k) n = inr (omega arith, refl)

fraction_is : (point places n : ℕ) → 0 < places
    → fraction_text point places n ≡ point ∷ last_decimals places n
fraction_is point zero n some = absurd (omega arith)
fraction_is point (suc k) n some = refl

pub fraction_length : (point places n : ℕ) → 0 < places
    → length (fraction_text point places n) ≡ places + 1
fraction_length point places n some =
    omega (arith, ap length (fraction_is point places n some), length_last 10 false places n)

pub fraction_none : (point places n : ℕ) → places ≡ 0 → fraction_text point places n ≡ []
fraction_none point zero n e = refl
fraction_none point (suc k) n e = absurd (omega arith)

pub fraction_written : (out new digits : List ℕ) (at point places n : ℕ) → 0 < places
    → at + 1 + places ≤ length out → digits ≡ last_decimals places n
    → new ≡ splice (set out at point) (at + 1) (at + 1 + places) digits
    → new ≡ splice out at (at + 1 + places) (fraction_text point places n)
fraction_written out new digits at point places n some room same written =
    let low : List ℕ = last_decimals places n in
    written
    ∙ (λ i. splice (one_spliced out at point (omega arith) i) (at + 1) (at + 1 + places) (same i))
    ∙ both out (point ∷ []) low at (at + 1) (at + 1 + places) (omega arith)
    (omega (arith, length_last 10 false places n)) room
    ∙ ap (splice out at (at + 1 + places)) (sym (fraction_is point places n some))

-- ---- an amount

module _ (grouped : Bool) (separator point places : ℕ) (negative : Bool) (n : ℕ) where
  abbrev whole : List ℕ
  whole = whole_text grouped separator (n / 10 ^ places)

  abbrev fraction : List ℕ
  fraction = fraction_text point places n

  abbrev text : List ℕ
  text = magnitude_text grouped separator point places negative n

  pub amount_length : length text
      ≡ length (sign_of false negative) + length whole + length fraction
  amount_length =
      omega (
        arith,
        length-append (sign_of false negative) (whole ++ fraction),
        length-append whole fraction,
      )

  pub amount_written : (out one two three : List ℕ) (start middle end w : ℕ)
      → w ≡ n / 10 ^ places → start ≡ length (sign_of false negative)
      → one ≡ splice out 0 start (sign_of false negative)
      → middle ≡ start + length (whole_text grouped separator w)
      → two ≡ splice one start middle (whole_text grouped separator w)
      → end ≡ middle + length fraction → three ≡ splice two middle end fraction
      → length text ≤ length out
      → (end ≡ length text) × (end ≤ length out) × (three ≡ splice out 0 end text)
  amount_written out one two three start middle end w same first sign second integer third
      places_there room =
      let signs : List ℕ = sign_of false negative in
      let inner = ap (λ (k : ℕ). length (whole_text grouped separator k)) same in
      let long = amount_length in
      let last : end ≡ length text = omega (arith, first, second, third, inner, long) in
      let joined = length-append whole fraction in
      let integer_there : two ≡ splice one start middle whole =
      integer ∙ ap (λ (k : ℕ). splice one start middle (whole_text grouped separator k)) same in
      let rest : three ≡ splice one start end (whole ++ fraction) =
      places_there ∙ ap (λ (xs : List ℕ). splice xs middle end fraction) integer_there
      ∙ both one whole fraction start middle end (omega (arith, second, inner)) third
      (omega (
        arith,
        last,
        room,
        long_one signs start out one first sign
            (omega (arith, first, long, room)),
      )) in (
        last,
        omega (arith, last, room),
        rest ∙ ap (λ (xs : List ℕ). splice xs start end (whole ++ fraction)) sign
            ∙ both out signs (whole ++ fraction) 0 start end (omega (arith, first))
            (omega (arith, last, long, first, joined)) (omega (arith, last, room)),
      )
    where
      long_one : (signs : List ℕ) (start : ℕ) (out one : List ℕ) → start ≡ length signs
          → one ≡ splice out 0 start signs → start ≤ length out → length one ≡ length out
      long_one signs start out one first sign within =
          ap length sign ∙ length_spliced out signs 0 start (omega (arith, first)) within
