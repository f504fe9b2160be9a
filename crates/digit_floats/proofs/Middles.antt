-- A number of decimal digits whose first ones are a whole number of fives, in binary digits.
use Rattle.std.proofs.Common.{◌≡◌, ℕ, ◌+◌, ◌-◌, ◌*◌, ◌%◌, ◌^◌, ◌<◌, ◌≤◌, Bool, true, false, List, [], ◌∷◌, ◌++◌, length, take, drop, refl, ap, sym, subst, ◌∙◌, true≢false, arith, mul-le-mul_right, append_assoc}
use Rattle.std.specs.Prelude.{◌==◌}
use mathlib.Core.Bool.{not}
use native.Mathlib.Nat.{mul-lt-mul_of_pos_right, mul-pos}
use lib.Pow.{pow-add, pow_pos}
use Rattle.std.specs.Char.{digit_value}
use Rattle.std.specs.List.{list_all}
use Rattle.std.specs.Str.Parse.{AllDigits, digits_value}
use Rattle.std.proofs.lemmas.Bool.Decides.{nat_tests}
use Rattle.std.proofs.lemmas.Int.Digits.{digits_value-lt}
use Rattle.std.proofs.lemmas.List.{length-drop, take-append-drop}
use Rattle.std.proofs.lemmas.Nat.{mul-pow, mod-mul-add}
use Rattle.std.proofs.Math.Nat.{one-le-pow}
use Rattle.digit_values.specs.Significant.{IsOfFirstDigits}
use Rattle.digit_values.proofs.ForCallers.{value_of_both, value_of_pieces, first_no_more}
use Rattle.digit_floats.specs.Binary.{IsWholePart}
use Rattle.digit_floats.specs.Cut.{IsCut}
use Rattle.digit_floats.proofs.First.{first_and_rest, drop_digits}

-- ---- whether digits are zeros

abbrev are_zeros : List ℕ → Bool
are_zeros ds = list_all (λ d. d == 48) ds

zeros_value : (ds : List ℕ) → are_zeros ds ≡ true → digits_value 10 ds ≡ 0
zeros_value [] h = refl
zeros_value (d ∷ ds) h =
    let first : d ≡ 48 = grind (arith, nat_tests) in
    let others : are_zeros ds ≡ true = grind (arith, nat_tests) in
    rw first (zeros_value ds others)

some_value : (ds : List ℕ) → AllDigits 10 ds → are_zeros ds ≡ false → 0 < digits_value 10 ds
some_value [] all h = absurd (true≢false h)
some_value (d ∷ ds) all h = by (d == 48) refl (some_value ds all.1)
  where
    by : (b : Bool) → (d == 48) ≡ b → (are_zeros ds ≡ false → 0 < digits_value 10 ds)
        → 0 < digits_value 10 (d ∷ ds)
    by true e others =
        let first : d ≡ 48 = grind (arith, nat_tests) in
        let some : are_zeros ds ≡ false = grind (arith, nat_tests) in
        rw first (others some)
    by false e others =
        let some : 0 < digit_value d = grind (arith, nat_tests) in
        let least : 0 * 10 + digit_value d ≤ digits_value 10 (d ∷ ds) =
        first_no_more 10 (0 * 10 + digit_value d) 0 ds (omega arith) in
        omega (arith, some, least)

-- ---- the digits after the first

same_rest : (p v w r s : ℕ) → r < p → s < p → v * p + r ≡ w * p + s → r ≡ s
same_rest p v w r s R S e =
    sym (mod-mul-add v p r R) ∙ ap (λ z. z % p) e ∙ mod-mul-add w p s S

module _ (whole fraction : List ℕ) (value cut : ℕ)
    (h : IsOfFirstDigits 10 19 (whole ++ fraction) value cut) (after : cut ≤ length fraction) where
  abbrev last : List ℕ
  last = drop (length fraction - cut) fraction

  abbrev others : List ℕ
  others = whole ++ take (length fraction - cut) fraction

  all_last : AllDigits 10 last
  all_last = drop_digits _ fraction (drop_both whole fraction h.digits_all)
    where
      drop_both : (xs ys : List ℕ) → AllDigits 10 (xs ++ ys) → AllDigits 10 ys
      drop_both [] ys all = all
      drop_both (x ∷ xs) ys all = drop_both xs ys all.1

  count : length last ≡ cut
  count = length-drop (length fraction - cut) fraction ∙ omega (arith, after)

  both : others ++ last ≡ whole ++ fraction
  both =
      append_assoc whole (take (length fraction - cut) fraction) last
      ∙ ap (λ z. whole ++ z) (take-append-drop (length fraction - cut) fraction)

  number_is : digits_value 10 (whole ++ fraction) ≡ value * 10 ^ cut + digits_value 10 last
  number_is =
      let first = first_and_rest (whole ++ fraction) value cut h in
      let pieces : digits_value 10 (whole ++ fraction)
      ≡ digits_value 10 others * 10 ^ cut + digits_value 10 last =
      ap (λ z. digits_value 10 z) (sym both) ∙ sym (value_of_both 10 others last)
      ∙ value_of_pieces 10 (digits_value 10 others) last
      ∙ ap (λ z. digits_value 10 others * 10 ^ z + digits_value 10 last) count in
      let less : digits_value 10 last < 10 ^ cut =
      subst (λ z. digits_value 10 last < 10 ^ z) count (digits_value-lt 10 last all_last) in
      let same =
      same_rest (10 ^ cut) value (digits_value 10 others) _ (digits_value 10 last) first.1 less
      (sym first.0 ∙ pieces) in
      first.0 ∙ ap (λ z. value * 10 ^ cut + z) same

  pub is_cut : IsCut (digits_value 10 (whole ++ fraction)) value cut (not (are_zeros last))
  is_cut =
      let less : digits_value 10 last < 10 ^ cut =
      subst (λ z. digits_value 10 last < 10 ^ z) count (digits_value-lt 10 last all_last) in
      by (are_zeros last) (zeros_value last) (some_value last all_last) less
    where
      by : (zeros : Bool) → (zeros ≡ true → digits_value 10 last ≡ 0)
          → (zeros ≡ false → 0 < digits_value 10 last) → digits_value 10 last < 10 ^ cut
          → IsCut (digits_value 10 (whole ++ fraction)) value cut (not zeros)
      by true none some less =
          let e : (value + 1) * 10 ^ cut ≡ value * 10 ^ cut + 10 ^ cut = grind arith in
          let z = none refl in
          record {
            least = omega (arith, number_is);
            most = omega (arith, number_is, less, e);
            same = λ _. omega (arith, number_is, z);
            above = λ f. absurd (true≢false (sym f));
          }
      by false none some less =
          let e : (value + 1) * 10 ^ cut ≡ value * 10 ^ cut + 10 ^ cut = grind arith in
          let z = some refl in
          record {
            least = omega (arith, number_is);
            most = omega (arith, number_is, less, e);
            same = λ f. absurd (true≢false f);
            above = λ _. omega (arith, number_is, z);
          }

-- ---- in binary digits

ten_is : (n : ℕ) → 10 ^ n ≡ 5 ^ n * 2 ^ n
ten_is n = mul-pow 5 2 n

module _ (number digits whole cut up down below l : ℕ) (more : Bool)
    (is : IsCut number digits cut more) (fives : digits ≡ whole * 5 ^ below)
    (places : down ≡ cut + up + below) where
  abbrev c : ℕ
  c = 10 ^ up * 2 ^ l * 2 ^ below

  some : 0 < c
  some = mul-pos (mul-pos (one-le-pow up 10 (omega arith)) (pow_pos l)) (pow_pos below)

  left : number * 10 ^ up * 2 ^ l * 2 ^ below ≡ number * c
  left = grind arith

  right : (v : ℕ) → v * (2 ^ l * 10 ^ down) ≡ v * 5 ^ below * 10 ^ cut * c
  right v =
      rw (places, pow-add 10 (cut + up) below, pow-add 10 cut up, ten_is below) (grind arith)

  next : (digits + 1) * 10 ^ cut ≤ (whole + 1) * 5 ^ below * 10 ^ cut
  next =
      let one : 1 ≤ 5 ^ below = one-le-pow below 5 (omega arith) in
      let e : (whole + 1) * 5 ^ below ≡ whole * 5 ^ below + 5 ^ below = grind arith in
      mul-le-mul_right (10 ^ cut) (omega (arith, one, e, fives))

  pub in_binary : IsWholePart (number * 10 ^ up * 2 ^ l * 2 ^ below) (2 ^ l * 10 ^ down) whole more
  in_binary =
      let low : whole * 5 ^ below * 10 ^ cut ≤ number = rw (← fives) is.least in
      let high : number < (whole + 1) * 5 ^ below * 10 ^ cut = omega (arith, is.most, next) in
      record {
        least = rw (left, right whole) (mul-le-mul_right c low);
        most = rw (left, right (whole + 1)) (mul-lt-mul_of_pos_right high some);
        same = λ h. rw (left, right whole, ← fives) (ap (λ z. z * c) (is.same h));
        above = λ h.
            rw (left, right whole, ← fives) (mul-lt-mul_of_pos_right (is.above h) some);
      }
