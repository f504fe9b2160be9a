-- How many digits a number has, by a table.
use Rattle.std.proofs.Common.{◌≡◌, ℕ, zero, suc, ◌+◌, ◌-◌, ◌*◌, ◌/◌, ◌^◌, ◌<◌, ◌≤◌, Bool, true, ◌&&◌, leb, ltb, eqb, length, get_or, refl, subst, inl, inr, arith}
use Rattle.std.specs.Prelude.{max, if◌then◌else◌}
use Rattle.std.proofs.Math.Nat.{pow-le-pow_right}
use Rattle.std.proofs.lemmas.Bool.{cases_lt}
use Rattle.std.proofs.lemmas.Bool.Decides.{nat_tests}
use native.Mathlib.Nat.{pow-suc}
use lib.Pow.{pow_pos}
use mir.Val.{bool_byte}
use Rattle.decimal_writers.specs.declared.digits.TheConstants.{POWERS}
use Rattle.decimal_writers.specs.Text.{number_text}
use Rattle.decimal_writers.proofs.Numerals.{counted, few_digits, number_one, word_digits, some_digits}

pub length_is : (n c : ℕ) → 0 < c → 10 ^ (c - 1) ≤ n → n < 10 ^ c → length (number_text n) ≡ c
length_is n c some low high =
    let most : length (number_text n) ≤ c = few_digits n c some high in
    elim (cases_lt (length (number_text n)) c) [
      | inr l ↦ omega arith
      | inl l ↦
          let tens : 10 ^ length (number_text n) ≤ 10 ^ (c - 1) =
          pow-le-pow_right (omega arith) (omega arith) in
          absurd (omega (arith, tens, (counted n).below, low))
    ]

abbrev row_of : ℕ → ℕ
row_of log = (log + 1) * 1233 / 4096

-- a row of the table, for numbers whose highest bit is `log`
record IsRow (row power log : ℕ) : Type 0 where
  fits : row < 20
  above : 2 * 2 ^ log ≤ 10 ^ (row + 1)
  below : 0 < row → 10 ^ (row - 1) ≤ 2 ^ log
  power_is : 0 < row → power ≡ 10 ^ row
  zero_is : row ≡ 0 → power ≡ 0

abbrev test_row : ℕ → ℕ → ℕ → Bool
test_row row power log =
    ltb row 20 && (leb (2 * 2 ^ log)
    (10 ^ (row + 1)) && (leb (10 ^ (row - 1)) (2 ^ log) && eqb power
    (if ltb 0 row then 10 ^ row else 0)))

abbrev tests : (ℕ → Bool) → ℕ → Bool
tests test zero = true
tests test (suc n) = test n && tests test n

each : (test : ℕ → Bool) (n k : ℕ) → tests test n ≡ true → k < n → test k ≡ true
each test zero k h l = absurd (omega arith)
each test (suc n) k h l = elim (cases_lt k n) [
  | inl a ↦ grind (arith, h, each test n k)
  | inr a ↦ let e : n ≡ k = omega arith in subst (λ x. test x ≡ true) e (grind (arith, h))
]

row_is : (log : ℕ) → log < 64 → IsRow (row_of log) (get_or POWERS (row_of log) 0) log
row_is log l =
    let t : test_row (row_of log) (get_or POWERS (row_of log) 0) log ≡ true =
    each (λ k. test_row (row_of k) (get_or POWERS (row_of k) 0) k) 64 log refl l in
    from_test _ _ log t
  where
    from_test : (row power log : ℕ) → test_row row power log ≡ true → IsRow row power log
    from_test row power log t = record {
      fits = grind (arith, nat_tests, t);
      above = grind (arith, nat_tests, t);
      below = λ some. grind (arith, nat_tests, t);
      power_is = λ some. grind (arith, nat_tests, t);
      zero_is = λ none. grind (arith, nat_tests, t);
    }

some_is : (log n : ℕ) → 0 < n → 2 ^ log ≤ n → n < 2 * 2 ^ log → (row power : ℕ)
    → IsRow row power log
    → row + bool_byte (leb power n) ≡ length (number_text n)
some_is log n some low high row power is =
    elim (cases_lt 0 row) [
      | inr none ↦
          let z : row ≡ 0 = omega arith in
          let p : power ≡ 0 = is.zero_is z in
          let one : 2 * 2 ^ log ≤ 10 ^ (0 + 1) =
          subst (λ r. 2 * 2 ^ log ≤ 10 ^ (r + 1)) z is.above in
          let long = length_is n 1 (omega arith) (omega arith) (omega arith) in
          let up : bool_byte (leb power n) ≡ 1 = reached power n (omega arith) in
          omega (arith, up, long)
      | inl more ↦ elim (cases_lt n power) [
        | inl under ↦
            let long = length_is n row more (omega (arith, is.below more))
            (omega (arith, is.power_is more)) in
            let none : bool_byte (leb power n) ≡ 0 = not_reached power n under in
            omega (arith, none, long)
        | inr over ↦
            let back : row + 1 - 1 ≡ row = omega arith in
            let long = length_is n (row + 1) (omega arith)
            (rw back (omega (arith, is.power_is more))) (omega (arith, is.above)) in
            let up : bool_byte (leb power n) ≡ 1 = reached power n over in
            omega (arith, up, long)
      ]
    ]
  where
    reached : (power n : ℕ) → power ≤ n → bool_byte (leb power n) ≡ 1
    reached power n l = grind (arith, nat_tests)

    not_reached : (power n : ℕ) → n < power → bool_byte (leb power n) ≡ 0
    not_reached power n l = grind (arith, nat_tests)

pub count_is : (log n : ℕ) → log < 64 → n < 2 ^ 64 → 2 ^ log ≤ max n 1 → max n 1 < 2 * 2 ^ log
    → row_of log + bool_byte (leb (get_or POWERS (row_of log) 0) n) ≡ length (number_text n)
count_is zero zero l few low high = number_one_back
  where
    number_one_back : row_of 0 + bool_byte (leb (get_or POWERS (row_of 0) 0) 0) ≡ length
        (number_text 0)
    number_one_back = omega (arith, number_one 0 (omega arith))
count_is (suc log) zero l few low high = absurd (omega (arith, low, pow-suc 2 log, pow_pos log))
count_is log (suc n) l few low high =
    let m : max (suc n) 1 ≡ suc n = omega arith in
    some_is log (suc n) (omega arith) (omega arith) (omega arith) (row_of log)
    (get_or POWERS (row_of log) 0) (row_is log l)

pub ruleset counts = (count_is, word_digits, some_digits)
