-- Decimal digits in groups of three, as parts that are written one after another.
use Rattle.std.proofs.Common.{◌≡◌, ℕ, ◌+◌, ◌/◌, ◌%◌, ◌^◌, ◌<◌, ◌≤◌, false, List, [], ◌∷◌, ◌++◌, length, set, sym, ap, ◌∙◌, arith, append_assoc, append-nil, length-append}
use Rattle.std.specs.Prelude.{decimal}
use Rattle.std.specs.List.{splice}
use Rattle.std.proofs.Math.Nat.{div-le_self}
use Rattle.std.proofs.lemmas.Bool.Decides.{nat_tests}
use Rattle.std.proofs.lemmas.Fmt.{decimal_is_IsNumeral_wide, length-decimal-le_wide}
use Rattle.digit_writers.specs.Digits.{last_decimals}
use Rattle.digit_writers.specs.Layouts.{grouped, before, gaps, thousands, thousands_after}
use Rattle.digit_writers.proofs.Decimals.{decimal_parts, three_digits}
use Rattle.digit_writers.proofs.Grouped.{group_none, group_more, group_front, length_group}
use Rattle.digit_writers.proofs.LastDigits.{last_of_rest, last_split, length_last}
use Rattle.digit_writers.proofs.Splices.{both, one_spliced}

module _ (separator : ℕ) where
  abbrev group : List ℕ → List ℕ
  group ds = grouped separator 3 ds

  abbrev tail : ℕ → ℕ → List ℕ
  tail count n = thousands_after separator count n

  -- what stands before some digits is the same where whole groups follow
  same_before : (j k : ℕ) → 0 < j → k % 3 ≡ 0 → before separator 3 (j + k) ≡ before separator 3 j
  same_before j k some whole =
      let rest : (j + k) % 3 ≡ j % 3 = omega (arith, whole) in
      grind (arith, nat_tests, rest)

  -- digits in groups, and whole groups after them
  group_back : (xs ys : List ℕ) → 0 < length xs → length ys % 3 ≡ 0
      → group (xs ++ ys) ≡ group xs ++ (before separator 3 (length ys) ++ group ys)
  group_back [] ys some whole = absurd (omega arith)
  group_back (x ∷ []) ys some whole =
      group_more separator 3 x ys
      ∙ ap (λ (t : List ℕ). t ++ (before separator 3 (length ys) ++ group ys))
      (sym (group_more separator 3 x [] ∙ ap (λ (t : List ℕ). x ∷ t) (group_none separator 3)))
  group_back (x ∷ y ∷ xs) ys some whole =
      let ds : List ℕ = y ∷ xs in
      let long : length (ds ++ ys) ≡ length ds + length ys = length-append ds ys in
      let same : before separator 3 (length (ds ++ ys)) ≡ before separator 3 (length ds) =
      ap (before separator 3) long ∙ same_before (length ds) (length ys) (omega arith) whole in
      let after : List ℕ = before separator 3 (length ys) ++ group ys in
      group_more separator 3 x (ds ++ ys)
      ∙ ap (λ (t : List ℕ). x ∷ (t ++ group (ds ++ ys))) same
      ∙ ap (λ (t : List ℕ). x ∷ (before separator 3 (length ds) ++ t))
      (group_back (y ∷ xs) ys (omega arith) whole)
      ∙ ap (λ (t : List ℕ). x ∷ t)
      (sym (append_assoc (before separator 3 (length ds)) (group ds) after))
      ∙ ap (λ (t : List ℕ). t ++ after) (sym (group_more separator 3 x ds))

  whole_of : (k n : ℕ) → k % 3 ≡ 0 → length (last_decimals k n) % 3 ≡ 0
  whole_of k n whole = ap (λ (l : ℕ). l % 3) (length_last 10 false k n) ∙ whole

  -- ---- whole groups

  tail_parts : (j k n : ℕ) → 0 < j → j % 3 ≡ 0 → k % 3 ≡ 0
      → tail (j + k) n ≡ tail j (n / 10 ^ k) ++ tail k (n % 10 ^ k)
  tail_parts j k n some whole more =
      let high : List ℕ = last_decimals j (n / 10 ^ k) in
      let low : List ℕ = last_decimals k n in
      let rest : last_decimals k (n % 10 ^ k) ≡ low = last_of_rest 10 false k n (omega arith) in
      let split : last_decimals (j + k) n ≡ high ++ low = last_split 10 false k j n in
      let first : before separator 3 (j + k) ≡ before separator 3 j = same_before j k some more in
      let wide : length low ≡ k = length_last 10 false k n in
      (λ i. first i ++ group (split i))
      ∙ ap (λ (t : List ℕ). before separator 3 j ++ t)
      (group_back high low (omega (arith, length_last 10 false j (n / 10 ^ k), some))
      (whole_of k n more)
      ∙ ap (λ (l : ℕ). group high ++ (before separator 3 l ++ group low)) wide
      ∙ ap (λ (ds : List ℕ). group high ++ (before separator 3 k ++ group ds)) (sym rest))
      ∙ sym (append_assoc (before separator 3 j) (group high) (tail k (n % 10 ^ k)))

  pub tail_length : (k n : ℕ) → length (tail k n) ≡ length (before separator 3 k) + (k + gaps 3 k)
  tail_length k n =
      let long = length_last 10 false k n in
      let joined = length-append (before separator 3 k) (group (last_decimals k n)) in
      let text = length_group separator 3 (last_decimals k n) in
      omega (arith, joined, text, long, ap (gaps 3) long)

  -- so many groups, and then others
  pub tails_written : (out new newer : List ℕ) (at mid end j k n : ℕ) → 0 < j → j % 3 ≡ 0
      → k % 3 ≡ 0 → mid ≡ at + length (tail j (n / 10 ^ k))
      → end ≡ mid + length (tail k (n % 10 ^ k)) → end ≤ length out
      → new ≡ splice out at mid (tail j (n / 10 ^ k))
      → newer ≡ splice new mid end (tail k (n % 10 ^ k))
      → newer ≡ splice out at end (tail (j + k) n)
  tails_written out new newer at mid end j k n some whole more after last within first second =
      second ∙ ap (λ (old : List ℕ). splice old mid end (tail k (n % 10 ^ k))) first
      ∙ both out (tail j (n / 10 ^ k)) (tail k (n % 10 ^ k)) at mid end after last within
      ∙ ap (splice out at end) (sym (tail_parts j k n some whole more))

  -- ---- all digits

  abbrev text : ℕ → List ℕ
  text n = thousands separator n

  text_parts : (k n : ℕ) → 10 ^ k ≤ n → n < 10 ^ 64 → k % 3 ≡ 0
      → text n ≡ text (n / 10 ^ k) ++ tail k (n % 10 ^ k)
  text_parts k n least few whole =
      let high : List ℕ = decimal (n / 10 ^ k) in
      let low : List ℕ = last_decimals k n in
      let rest : last_decimals k (n % 10 ^ k) ≡ low = last_of_rest 10 false k n (omega arith) in
      let small : n / 10 ^ k < 10 ^ 64 = quotient_few k n few in
      let begun : 0 < length high = (decimal_is_IsNumeral_wide (n / 10 ^ k) small).0.0 in
      ap group (decimal_parts k n least few)
      ∙ group_back high low begun (whole_of k n whole)
      ∙ ap (λ (l : ℕ). group high ++ (before separator 3 l ++ group low)) (length_last 10 false k n)
      ∙ ap (λ (ds : List ℕ). group high ++ (before separator 3 k ++ group ds)) (sym rest)
    where
      quotient_few : (k n : ℕ) → n < 10 ^ 64 → n / 10 ^ k < 10 ^ 64
      quotient_few k n few =
          let down : n / 10 ^ k ≤ n = div-le_self n (10 ^ k) in
          omega (arith, down, few)

  pub text_length : (k n high low : ℕ) → 10 ^ k ≤ n → n < 10 ^ 64 → k % 3 ≡ 0 → high ≡ n / 10 ^ k
      → low ≡ n % 10 ^ k → length (text n) ≡ length (text high) + length (tail k low)
  text_length k n high low least few whole quotient rest =
      let joined = length-append (text (n / 10 ^ k)) (tail k (n % 10 ^ k)) in
      omega (
        arith,
        ap length (text_parts k n least few whole),
        joined,
        ap (λ (q : ℕ). length (text q)) quotient,
        ap (λ (r : ℕ). length (tail k r)) rest,
      )

  -- a number, and groups after it
  pub text_written : (out new newer : List ℕ) (at next end k n high low : ℕ) → 10 ^ k ≤ n
      → n < 10 ^ 64 → k % 3 ≡ 0 → at + length (text n) ≤ length out → high ≡ n / 10 ^ k
      → low ≡ n % 10 ^ k → next ≡ at + length (text high) → end ≡ next + length (tail k low)
      → new ≡ splice out at next (text high) → newer ≡ splice new next end (tail k low)
      → (end ≡ at + length (text n)) × (newer ≡ splice out at end (text n))
  text_written out new newer at next end k n high low least few whole room quotient rest after last
      first second =
      let long = text_length k n high low least few whole quotient rest in (
        omega (arith, long, after, last),
        second ∙ ap (λ (old : List ℕ). splice old next end (tail k low)) first
            ∙ both out (text high) (tail k low) at next end after last
            (omega (arith, room, long, after, last))
            ∙ ap (splice out at end)
            ((λ i. text (quotient i) ++ tail k (rest i)) ∙ sym (text_parts k n least few whole)),
      )

  -- ---- one group

  pub few_as_is : (ds : List ℕ) → length ds ≤ 3 → group ds ≡ ds
  few_as_is [] few = group_none separator 3
  few_as_is (d ∷ ds) few =
      let nil : (d ∷ ds) ++ [] ≡ d ∷ ds = append-nil (d ∷ ds) in
      ap group (sym nil)
      ∙ group_front separator 3 (d ∷ ds) [] (omega arith) few (omega arith)
      ∙ ap (λ (t : List ℕ). (d ∷ ds) ++ t) (group_none separator 3) ∙ nil

  pub small_text : (n : ℕ) → n < 1000 → text n ≡ decimal n
  small_text n l = few_as_is (decimal n)
      (length-decimal-le_wide 3 n (omega arith) (omega arith) (omega arith))

  pub small_tail : (n : ℕ) → tail 3 n ≡ separator ∷ last_decimals 3 n
  small_tail n =
      ap (λ (t : List ℕ). separator ∷ t)
      (few_as_is (last_decimals 3 n) (omega (arith, length_last 10 false 3 n)))

  pub group_written : (out new : List ℕ) (at n : ℕ) → at + 4 ≤ length out
      → new ≡ splice (set out at separator) (at + 1) (at + 1 + 3) (last_decimals 3 n)
      → new ≡ splice out at (at + 4) (tail 3 n)
  group_written out new at n room written =
      let end : at + 1 + 3 ≡ at + 4 = omega arith in
      let ds : List ℕ = last_decimals 3 n in
      written
      ∙ ap (λ (to : ℕ). splice (set out at separator) (at + 1) to ds) end
      ∙ ap (λ (old : List ℕ). splice old (at + 1) (at + 4) ds)
      (one_spliced out at separator (omega (arith, room)))
      ∙ both out (separator ∷ []) ds at (at + 1) (at + 4) (omega arith)
      (omega (arith, length_last 10 false 3 n)) room
      ∙ ap (splice out at (at + 4)) (sym (small_tail n))

  -- a number of three digits
  pub three_end : (n at : ℕ) → 100 ≤ n → n < 1000 → at + 3 ≡ at + length (text n)
  three_end n at low high =
      omega (
        arith,
        ap length (small_text n high),
        ap length (three_digits n low high),
        length_last 10 false 3 n,
      )

  pub three_text : (out new : List ℕ) (at n : ℕ) → 100 ≤ n → n < 1000
      → new ≡ splice out at (at + 3) (last_decimals 3 n) → new ≡ splice out at (at + 3) (text n)
  three_text out new at n low high written =
      written ∙ ap (splice out at (at + 3)) (three_digits n low high ∙ sym (small_text n high))

  -- a number of fewer
  pub few_room : (n at room : ℕ) → n < 100 → at + length (text n) ≤ room
      → at + length (decimal n) ≤ room
  few_room n at room l fits = omega (arith, fits, ap length (small_text n (omega arith)))
