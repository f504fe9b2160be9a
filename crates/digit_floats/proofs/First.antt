-- What the first significant digits say of the whole number.
use Rattle.std.proofs.Common.{◌≡◌, ℕ, zero, suc, ◌+◌, ◌*◌, ◌^◌, ◌<◌, ◌≤◌, List, [], ◌∷◌, ◌++◌, length, take, drop, refl, ap, sym, ◌∙◌, arith}
use Rattle.std.specs.Prelude.{min}
use Rattle.std.specs.Str.Parse.{AllDigits, digits_value}
use Rattle.std.proofs.lemmas.Int.Digits.{digits_value-lt}
use Rattle.std.proofs.lemmas.List.{length-drop}
use Rattle.digit_values.specs.Significant.{significant, IsOfFirstDigits}
use Rattle.digit_values.proofs.ForCallers.{value_of_both, value_of_pieces}
use Rattle.digit_values.proofs.Significant.{worth_same}
use Rattle.digit_floats.specs.Near.{IsCutAt}

split : (n : ℕ) (xs : List ℕ) → take n xs ++ drop n xs ≡ xs
split zero xs = refl
split (suc n) [] = refl
split (suc n) (x ∷ xs) = ap (λ t. x ∷ t) (split n xs)

pub drop_digits : (n : ℕ) (xs : List ℕ) → AllDigits 10 xs → AllDigits 10 (drop n xs)
drop_digits zero xs h = h
drop_digits (suc n) [] h = h
drop_digits (suc n) (x ∷ xs) h = drop_digits n xs h.1

significant_digits : (ds : List ℕ) → AllDigits 10 ds → AllDigits 10 (significant ds)
unfolding significant
significant_digits ds h = drop_digits _ ds h

module _ (digits : List ℕ) (value more : ℕ) (h : IsOfFirstDigits 10 19 digits value more) where
  abbrev s : List ℕ
  s = significant digits

  whole : digits_value 10 digits
      ≡ digits_value 10 (take 19 s) * 10 ^ length (drop 19 s) + digits_value 10 (drop 19 s)
  whole =
      sym (worth_same 10 digits) ∙ ap (λ t. digits_value 10 t) (sym (split 19 s))
      ∙ sym (value_of_both 10 (take 19 s) (drop 19 s))
      ∙ value_of_pieces 10 (digits_value 10 (take 19 s)) (drop 19 s)

  rest : digits_value 10 (drop 19 s) < 10 ^ length (drop 19 s)
  rest = digits_value-lt 10 (drop 19 s) (drop_digits 19 s (significant_digits digits h.digits_all))

  count : length (drop 19 s) ≡ more
  count = length-drop 19 s ∙ sym h.after

  -- the first ones, and the others with less than a unit of their last
  pub first_and_rest : (digits_value 10 digits
      ≡ value * 10 ^ more + digits_value 10 (drop 19 (significant digits)))
      × (digits_value 10 (drop 19 (significant digits)) < 10 ^ more)
  first_and_rest = (rw (h.is, ← count) whole, rw (← count) rest)

  abbrev n : ℕ
  n = digits_value 10 digits

  below : (more : ℕ) → value * 10 ^ more ≤ n → n < (value + 1) * 10 ^ more
      → n ≤ (value + min more 1) * 10 ^ more
  below zero l h = omega (arith, l, h)
  below (suc more) l h = let one : min (suc more) 1 ≡ 1 = omega arith in rw one (omega (arith, h))

  pub cut_at : IsCutAt n value more
  cut_at =
      let low : value * 10 ^ more ≤ n = rw (h.is, ← count) (omega (arith, whole)) in
      let high : n < (value + 1) * 10 ^ more = rw (h.is, ← count) (omega (arith, whole, rest)) in
      record { from = low; to = below more low high }
