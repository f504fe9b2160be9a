-- An integer from a position on, in a text and in one that begins there: what is before the
-- position, and what follows a byte that ends the integer, make no difference.
use Rattle.std.proofs.Common.{◌≡◌, ℕ, zero, suc, ◌+◌, ◌-◌, ◌<◌, ◌≤◌, Bool, true, false, cond, List, length, drop, find, unwrap_or, refl, ap, arith, inl, inr}
use Rattle.std.specs.Prelude.{nat_lt, ◌==◌, Result, Ok, Err}
use Rattle.std.specs.List.{range_with_len}
use Rattle.std.proofs.lemmas.Bool.{cases_lt}
use Rattle.std.proofs.lemmas.Bool.Decides.{nat_tests}
use Rattle.lexical_digits.specs.declared.skip.rule.Rule.{Rule}
use Rattle.lexical_digits.specs.declared.skip.rule.Class.TheVariants.{Other}
use Rattle.lexical_digits.specs.Separators.{class}
use Rattle.lexical_digits.specs.Moves.{byte_before, outcome_later}
use Rattle.lexical_digits.specs.Stop.{stop}
use Rattle.lexical_digits.proofs.Calls.BothSides.{AreSameFrom, IsOther, from_rest, moved_range, cut_get, cut_stop, cut_upto, stop_in}
use Rattle.digit_values.specs.declared.LiteralError.{LiteralError}
use Rattle.digit_values.specs.declared.LiteralError.TheVariants.{Empty, Overflow}
use Rattle.digit_values.proofs.BothSides.{cut_between}
use Rattle.digit_values.specs.After.{digits_between}
use Rattle.digit_integers.specs.Integers.{value_to, first_over, integer_at}
use Rattle.digit_values.specs.Moves.{literal_later}
use Rattle.digit_values.specs.Bytes.{has_byte}
use Rattle.digit_integers.specs.Numbers.{digits_from, is_negative_from, most_from, with_sign, number_at}

-- the first of which two tests hold that agree, so much later, as far as one holds
first_later : (from : ℕ) (p q : ℕ → Bool) (m n c a b x y : ℕ) → c ≡ from + a → a ≤ b → b < a + m
    → b < a + n → ((k : ℕ) → a ≤ k → k ≤ b → p (from + k) ≡ q k) → q b ≡ true
    → unwrap_or (find p (range_with_len c m)) x ≡ from + unwrap_or (find q (range_with_len a n)) y
first_later from p q zero n c a b x y e low high more same is = absurd (omega arith)
first_later from p q (suc m) zero c a b x y e low high more same is = absurd (omega arith)
first_later from p q (suc m) (suc n) c a b x y e low high more same is =
    let rest = λ (past : a < b). first_later from p q m n (c + 1) (a + 1) b x y (omega arith)
    (omega arith) (omega arith) (omega arith) (λ k l h. same k (omega arith) h) is in
    grind (arith, rest, e, same a, same b)

no_digits : (rule : Rule) (text : List ℕ) (start end : ℕ) → end ≤ start
    → length (digits_between rule text start end) ≡ 0
no_digits rule text start end l = let none : end - start ≡ 0 = omega arith in rw none refl

module _ (rule : Rule) (one : List ℕ) (from : ℕ) (other : List ℕ) (at : ℕ)
    (both : AreSameFrom (IsOther rule) one from other at) where
  module _ (start most : ℕ) (low : start ≤ at) where
    abbrev end : ℕ
    end = stop rule other start 0

    -- the test of a position, whose digit is before the next
    over_there : (k : ℕ) → k + 1 ≤ at
        → nat_lt most (value_to rule one (from + start) (from + k + 1))
        ≡ nat_lt most (value_to rule other start (k + 1))
    over_there k l =
        let next : from + k + 1 ≡ from + (k + 1) = omega arith in
        rw (next, cut_between rule one from other at both start (k + 1) l) refl

    over_later : (length (digits_between rule other start end) == 0) ≡ false
        → nat_lt most (value_to rule other start end) ≡ true
        → first_over rule one (from + start) most ≡ from + first_over rule other start most
    over_later some large = elim (cases_lt start end) [
      | inl past ↦
          let last : end - 1 + 1 ≡ end = omega (arith, past) in
          let high = cut_upto rule one from other at both start 0 low in
          let in_other = stop_in rule other start 0 in
          let in_one = stop_in rule one (from + start) 0 in
          let ends = cut_stop rule one from other at both start 0 low in
          first_later from _ _ (length one - (from + start)) (length other - start) (from + start)
          start (end - 1) (length one) (length other) refl (omega (arith, past))
          (omega (arith, past, in_one, ends)) (omega (arith, past, in_other))
          (λ k l h. over_there k (omega (arith, h, past, high))) (rw last large)
      | inr none ↦ absurd (grind (arith, nat_tests, some, no_digits rule other start end none))
    ]

    by_cases : (none over : Bool) (e value m n : ℕ)
        → (none ≡ false → over ≡ true → m ≡ from + n)
        → cond none (Err (Empty (from + e))) (cond over (Err (Overflow m)) (Ok (value, from + e)))
        ≡ outcome_later literal_later from
        (cond none (Err (Empty e)) (cond over (Err (Overflow n)) (Ok (value, e))))
    by_cases true over e value m n h = refl
    by_cases false true e value m n h = rw (h refl refl) refl
    by_cases false false e value m n h = refl

    pub cut_integer : integer_at rule one (from + start) most
        ≡ outcome_later literal_later from (integer_at rule other start most)
    unfolding integer_at
    cut_integer =
        rw (
          cut_stop rule one from other at both start 0 low,
          cut_between rule one from other at both start end
              (cut_upto rule one from other at both start 0 low),
        ) (by_cases _ _ end _ _ _ over_later)

  -- ---- a number

  signed_later : (negative : Bool) (read : Result (ℕ × ℕ) LiteralError)
      → with_sign negative (outcome_later literal_later from read)
      ≡ outcome_later literal_later from (with_sign negative read)
  signed_later negative (Ok read) = refl
  signed_later negative (Err error) = refl

  -- the digits from one position on, with one sign
  with_one_sign : (n m : Bool) (d e most more : ℕ) → n ≡ m → d ≡ from + e → most ≡ more
      → e ≤ at → with_sign n (integer_at rule one d most)
      ≡ outcome_later literal_later from (with_sign m (integer_at rule other e more))
  with_one_sign n m d e most more same here up low =
      rw (same, here, up, cut_integer e more low) (signed_later m (integer_at rule other e more))

  module _ (least most x i : ℕ) (e : x ≡ from + i) where
    has_same : (byte : ℕ) → i < at → has_byte one x byte ≡ has_byte other i byte
    has_same byte l = rw (e, cut_get one from other at both.same i l) refl

    -- neither text has a sign of the number at the position
    pub cut_number : digits_from least one x ≤ from + at → digits_from least other i ≤ at
        → number_at least most rule one x
        ≡ outcome_later literal_later from (number_at least most rule other i)
    cut_number high low =
        let minus : is_negative_from least one x ≡ is_negative_from least other i =
        grind (arith, nat_tests, high, low, e, has_same 45) in
        let digits : digits_from least one x ≡ from + digits_from least other i =
        grind (arith, nat_tests, high, low, e, has_same 45, has_same 43) in
        with_one_sign _ _ _ (digits_from least other i) (most_from least most rule one x)
        (most_from least most rule other i) minus digits (ap (λ n. cond n least most) minus) low

-- ---- what is before

module _ (rule : Rule) (text : List ℕ) (from : ℕ) where
  -- between two positions the digits are the same
  pub moved_between : (start end : ℕ)
      → digits_between rule text (from + start) (from + end)
      ≡ digits_between rule (drop from text) start end
  moved_between start end = rw (moved_range text from start end) refl

  module _ (within : from ≤ length text) (fresh : class rule (byte_before text from) ≡ Other) where
    pub moved_integer : (start most : ℕ)
        → integer_at rule text (from + start) most
        ≡ outcome_later literal_later from (integer_at rule (drop from text) start most)
    moved_integer start most =
        cut_integer rule text from (drop from text) (length text + start)
        (from_rest (IsOther rule) refl text from (length text + start) within (omega arith) fresh)
        start most (omega arith)

    pub moved_number : (least most start : ℕ)
        → number_at least most rule text (from + start)
        ≡ outcome_later literal_later from (number_at least most rule (drop from text) start)
    moved_number least most start =
        cut_number rule text from (drop from text) (length text + (start + 1))
        (from_rest (IsOther rule) refl text from (length text + (start + 1)) within (omega arith)
        fresh)
        least most (from + start) start refl (grind (arith, nat_tests)) (grind (arith, nat_tests))
