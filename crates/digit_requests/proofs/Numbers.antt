-- A field is read as a number, or as the radixes, exactly if it is spelled so.
use Rattle.std.proofs.Common.{◌≡◌, ◌≢◌, ℕ, true, List, [], ◌∷◌, All, Some, refl, arith}
use mathlib.Core.Logic.{inl, inr}
use Rattle.std.specs.Prelude.{nat_lt}
use Rattle.std.specs.List.{list_all}
use Rattle.std.specs.Char.{digit_value}
use Rattle.std.specs.Str.Parse.{AllDigits}
use Rattle.std.proofs.lemmas.Bool.Decides.{nat_tests}
use Rattle.std.proofs.lemmas.List.Elements.{All-cons, All-nil}
use Rattle.std.proofs.lemmas.Int.Digits.{digits_value-lt}
use Rattle.std.proofs.lemmas.Str.Parse.{digit_from_value}
use Rattle.digit_requests.specs.Line.{IsDecimal, IsHexadecimal, AreRadixes, decimal_of, hexadecimal_of, radixes_of}
use Rattle.digit_requests.proofs.FirstMark.{cut_splits, cut_joined, cut_of_none}

-- ---- numbers

digits_from : (radix : ℕ) (field : List ℕ) →
    list_all (λ b. nat_lt (digit_value b) radix) field ≡ true → AllDigits radix field
digits_from radix [] h = tt
digits_from radix (c ∷ cs) h = grind (arith, nat_tests, digits_from radix cs)

digits_to : (radix : ℕ) (field : List ℕ) →
    AllDigits radix field → list_all (λ b. nat_lt (digit_value b) radix) field ≡ true
digits_to radix [] h = refl
digits_to radix (c ∷ cs) h = grind (arith, nat_tests, digits_to radix cs)

decimal_from : (field : List ℕ) (value : ℕ) → decimal_of field ≡ Some value → IsDecimal field value
decimal_from field value e = grind (arith, nat_tests, digits_from 10 field)

decimal_to : (field : List ℕ) (value : ℕ) → IsDecimal field value → decimal_of field ≡ Some value
decimal_to field value d = grind (arith, nat_tests, digits_to 10 field d.numeral.1)

pub hexadecimal_from : (field : List ℕ) (value : ℕ) → hexadecimal_of field ≡ Some value
    → IsHexadecimal field value
hexadecimal_from field value e = grind (arith, nat_tests, digits_from 16 field)

pub hexadecimal_to : (field : List ℕ) (value : ℕ) → IsHexadecimal field value
    → hexadecimal_of field ≡ Some value
hexadecimal_to field value h =
    let small = digits_value-lt 16 field h.numeral.1 in
    grind (arith, nat_tests, digits_to 16 field h.numeral.1)

-- ---- the radixes

no_slash : (field : List ℕ) → AllDigits 10 field → All (λ b. b ≢ 47) field
no_slash [] h = All-nil (λ b. b ≢ 47)
no_slash (b ∷ bs) h = All-cons (λ b. b ≢ 47) b bs
    (λ e. let range = digit_from_value b h.0 in omega (arith, range, e)) (no_slash bs h.1)

pub radixes_from : (field : List ℕ) (radixes : ℕ × ℕ) → radixes_of field ≡ Some radixes
    → AreRadixes field radixes.0 radixes.1
unfolding radixes_of
radixes_from field radixes e = grind (arith, decimal_from, cut_splits 47 field)

pub radixes_to : (field : List ℕ) (mantissa exponent : ℕ) → AreRadixes field mantissa exponent
    → radixes_of field ≡ Some (mantissa, exponent)
unfolding radixes_of
radixes_to field mantissa exponent (inl one) =
    let none = cut_of_none 47 field (no_slash field one.0.numeral.1) in
    grind (arith, decimal_to field mantissa one.0)
radixes_to field mantissa exponent (inr r) =
    rw (
      r.field_is,
      cut_joined 47 r.before r.after (no_slash r.before r.mantissa_is.numeral.1),
      decimal_to r.before mantissa r.mantissa_is,
      decimal_to r.after exponent r.exponent_is,
    ) refl
