-- What is written in a layout.
use Rattle.std.proofs.Common.{◌≡◌, ℕ, ◌+◌, ◌≤◌, List, ◌++◌, length, ap, ◌∙◌, arith, length-append}
use Rattle.std.specs.Prelude.{max}
use Rattle.std.specs.List.{splice}
use Rattle.digit_writers.specs.declared.layout.Layout.{Layout}
use Rattle.digit_writers.specs.Digits.{last_digits}
use Rattle.digit_writers.specs.Layouts.{digit_count, digits_in, gaps, grouped}
use Rattle.digit_writers.proofs.LastDigits.{length_last}
use Rattle.digit_writers.proofs.Grouped.{length_group}
use Rattle.digit_writers.proofs.Splices.{both}

module _ (signs : List ℕ) (layout : Layout) (n : ℕ) where
  abbrev text : List ℕ
  text = grouped layout.separator layout.every (digits_in layout n)

  text_length : length text
      ≡ max layout.digits (digit_count layout.radix n) + gaps layout.every
      (max layout.digits (digit_count layout.radix n))
  text_length =
      let k : ℕ = max layout.digits (digit_count layout.radix n) in
      let long : length (digits_in layout n) ≡ k = length_last layout.radix layout.is_upper k n in
      length_group layout.separator layout.every (digits_in layout n)
      ∙ ap (λ (x : ℕ). x + gaps layout.every x) long

  pub laid_length : (sign count gap : ℕ) → sign ≡ length signs
      → count ≡ max layout.digits (digit_count layout.radix n) → gap ≡ gaps layout.every count
      → sign + count + gap ≡ length (signs ++ text)
  laid_length sign count gap first digits between =
      let joined = length-append signs text in
      let same : gap ≡ gaps layout.every (max layout.digits (digit_count layout.radix n)) =
      between ∙ ap (gaps layout.every) digits in
      omega (arith, joined, text_length, first, digits, same)

  pub laid_written : (start end count : ℕ) (out new newer : List ℕ) → start ≡ length signs
      → new ≡ splice out 0 start signs → count ≡ max layout.digits (digit_count layout.radix n)
      → newer ≡ splice new start end (grouped layout.separator layout.every
      (last_digits layout.radix layout.is_upper count n))
      → end ≡ length (signs ++ text) → end ≤ length out
      → newer ≡ splice out 0 end (signs ++ text)
  laid_written start end count out new newer first one digits other last within =
      let joined = length-append signs text in
      let same : last_digits layout.radix layout.is_upper count n ≡ digits_in layout n =
      ap (λ (k : ℕ). last_digits layout.radix layout.is_upper k n) digits in
      other
      ∙ ap (λ (ds : List ℕ). splice new start end (grouped layout.separator layout.every ds)) same
      ∙ ap (λ (old : List ℕ). splice old start end text) one
      ∙ both out signs text 0 start end (omega (arith, first)) (omega (arith, last, joined, first))
      within
