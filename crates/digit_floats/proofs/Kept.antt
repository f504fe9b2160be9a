-- One digit more: it is kept or cut.
use Rattle.std.proofs.Common.{◌≡◌, ℕ, zero, suc, ◌+◌, ◌*◌, ◌^◌, ◌<◌, ◌≤◌, Bool, true, false, List, [], ◌∷◌, ◌++◌, take, length, get_or, append-nil, refl, true≢false, arith}
use Rattle.std.specs.Prelude.{◌≢◌, slice_set}
use Rattle.std.specs.Char.{is_ascii_digit, digit_value}
use Rattle.std.specs.List.{filter}
use Rattle.std.specs.Str.Parse.{digits_value, digits_value_after}
use Rattle.std.proofs.lemmas.Bool.Decides.{nat_tests}
use Rattle.std.proofs.lemmas.Int.Digits.{digits_value_push, digits_push}
use Rattle.std.proofs.lemmas.List.{take_more_set}
use Rattle.std.proofs.lemmas.List.Elements.{filter_more}
use lib.Pow.{pow-add}
use Rattle.digit_floats.specs.declared.long.Kept.{Kept}
use Rattle.digit_floats.specs.Cut.{room, IsCut, IsKept}

-- ---- the number

module _ (number value cut : ℕ) (more : Bool) (is : IsCut number value cut more) where
  times_ten : (v : ℕ) → v * 10 ^ (cut + 1) ≡ v * 10 ^ cut * 10
  times_ten v = rw (pow-add 10 cut 1) (grind arith)

  cut_zero : IsCut (number * 10 + 0) value (cut + 1) more
  cut_zero = record {
    least = omega (arith, times_ten value, is.least);
    most = omega (arith, times_ten (value + 1), is.most);
    same = λ e. omega (arith, times_ten value, is.same e);
    above = λ e. omega (arith, times_ten value, is.above e);
  }

  cut_other : (d : ℕ) → 0 < d → d < 10 → IsCut (number * 10 + d) value (cut + 1) true
  cut_other d some few = record {
    least = omega (arith, times_ten value, is.least);
    most = omega (arith, times_ten (value + 1), is.most);
    same = λ e. absurd (true≢false e);
    above = λ e. omega (arith, times_ten value, is.least);
  }

one_more : (number value cut : ℕ) (more : Bool) (d : ℕ) → cut ≡ 0 → IsCut number value cut more
    → IsCut (number * 10 + d) (value * 10 + d) cut more
one_more number value zero more d none is =
    let one : 10 ^ 0 ≡ 1 = refl in
    record {
      least = omega (arith, is.least);
      most = omega (arith, is.most);
      same = λ e. omega (arith, is.same e);
      above = λ e. absurd (omega (arith, is.above e, is.most));
    }
one_more number value (suc n) more d none is = absurd (omega arith)

-- ---- the bytes

module _ (bytes : List ℕ) (kept : Kept) (number byte : ℕ) (is : IsKept bytes kept number)
    (digit : is_ascii_digit byte ≡ true) where
  pub zero_cut : kept.len ≡ room → byte ≡ 48
      → IsKept bytes (record { len = kept.len; cut = kept.cut + 1; more = kept.more })
      (number * 10 + digit_value byte)
  zero_cut whole z =
      rw z
      (record {
        digits = is.digits;
        is = cut_zero _ _ _ _ is.is;
        first = is.first;
        fits = is.fits;
        full = λ _. whole;
      })

  pub other_cut : kept.len ≡ room → byte ≢ 48
      → IsKept bytes (record { len = kept.len; cut = kept.cut + 1; more = true })
      (number * 10 + digit_value byte)
  other_cut whole z =
      let some : 0 < digit_value byte = grind (arith, nat_tests) in
      let few : digit_value byte < 10 = grind (arith, nat_tests) in
      record {
        digits = is.digits;
        is = cut_other _ _ _ _ is.is (digit_value byte) some few;
        first = is.first;
        fits = is.fits;
        full = λ _. whole;
      }

  pub one_kept : kept.len < room → room < length bytes → (kept.len ≡ 0 → byte ≢ 48)
      → IsKept (slice_set bytes kept.len byte)
      (record { len = kept.len + 1; cut = kept.cut; more = kept.more })
      (number * 10 + digit_value byte)
  one_kept less wide z =
      let few : digit_value byte < 10 = grind (arith, nat_tests) in
      let none : kept.cut ≡ 0 = no_cut kept.cut is.full in
      let written = take_more_set bytes kept.len byte (omega arith) in
      let value = digits_value_push 10 (take kept.len bytes) byte in
      let ten : 10 ^ (kept.len + 1) ≡ 10 ^ kept.len * 10 = pow-add 10 kept.len 1 in
      record {
        digits = rw written (digits_push 10 _ byte is.digits few);
        is = rw (written, value) (one_more number _ kept.cut kept.more _ none is.is);
        first = λ _. rw (written, value, ten) (first kept.len is.first z);
        fits = omega arith;
        full = λ h. absurd (omega arith);
      }
    where
      no_cut : (n : ℕ) → (0 < n → kept.len ≡ room) → n ≡ 0
      no_cut zero h = refl
      no_cut (suc n) h = absurd (omega (arith, h (omega arith)))

      first : (n : ℕ) → (0 < n → 10 ^ n ≤ digits_value 10 (take kept.len bytes) * 10)
          → (n ≡ 0 → byte ≢ 48)
          → 10 ^ n * 10 ≤ (digits_value 10 (take kept.len bytes) * 10 + digit_value byte) * 10
      first zero h z =
          let other : byte ≢ 48 = z refl in
          let some : 0 < digit_value byte = grind (arith, nat_tests) in
          let one : 10 ^ 0 ≡ 1 = refl in
          omega arith
      first (suc n) h z = omega (arith, h (omega arith))

-- ---- a text

after_push : (radix n : ℕ) (ds : List ℕ) (d : ℕ)
    → digits_value_after radix n (ds ++ d ∷ [])
    ≡ digits_value_after radix n ds * radix + digit_value d
after_push radix n [] d = refl
after_push radix n (x ∷ ds) d = after_push radix (n * radix + digit_value x) ds d

module _ (radix : ℕ) (p : ℕ → Bool) (text : List ℕ) (i number : ℕ) (within : i < length text) where
  abbrev value_of : List ℕ → ℕ
  value_of xs = digits_value_after radix number (filter p xs)

  pub value_more : p (get_or text i 0) ≡ true
      → value_of (take (i + 1) text)
      ≡ value_of (take i text) * radix + digit_value (get_or text i 0)
  value_more e =
      rw (filter_more p text i 0 within, e)
      (after_push radix number (filter p (take i text)) (get_or text i 0))

  pub value_same : p (get_or text i 0) ≡ false
      → value_of (take (i + 1) text) ≡ value_of (take i text)
  value_same e = rw (filter_more p text i 0 within, e, append-nil) refl
