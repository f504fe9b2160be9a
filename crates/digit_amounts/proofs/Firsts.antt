-- The first digits of a fraction, after those of an integer.
use Rattle.std.proofs.Common.{◌≡◌, ℕ, zero, suc, ◌+◌, ◌-◌, ◌*◌, ◌^◌, ◌<◌, ◌≤◌, true, false, List, ◌++◌, length, take, drop, get_or, refl, arith}
use Rattle.std.specs.Char.{is_ascii_digit, digit_value}
use Rattle.std.specs.List.{filter}
use Rattle.std.specs.Str.Parse.{digits_value, digits_value_after}
use Rattle.std.proofs.Math.Nat.{one-le-pow, mul-le-mul_left}
use Rattle.std.proofs.lemmas.List.{drop_more, drop_all, take_all}
use Rattle.digit_values.specs.Significant.{IsOfFirstDigits}
use Rattle.digit_values.proofs.ForCallers.{value_of_both, first_no_more}
use Rattle.digit_amounts.specs.Scaled.{first_value, is_exact}
use Rattle.digit_floats.proofs.First.{cut_at}

-- a value with the first digits of some bytes after it
abbrev pub left_value : ℕ → ℕ → List ℕ → ℕ
left_value value left bytes = digits_value_after 10 value (take left (filter is_ascii_digit bytes))

-- ---- one turn of a loop over the bytes

pub one_more : (value left i : ℕ) (bytes : List ℕ) → i < length bytes → 0 < left
    → is_ascii_digit (get_or bytes i 0) ≡ true
    → left_value value left (drop i bytes)
    ≡ left_value (value * 10 + digit_value (get_or bytes i 0)) (left - 1) (drop (i + 1) bytes)
one_more value zero i bytes l some digit = absurd (omega (arith, some))
one_more value (suc left) i bytes l some digit =
    let same : suc left - 1 ≡ left = omega arith in
    rw (drop_more bytes i 0 l, digit, same) refl

pub no_more : (value left i : ℕ) (bytes : List ℕ) → i < length bytes
    → is_ascii_digit (get_or bytes i 0) ≡ false
    → left_value value left (drop i bytes) ≡ left_value value left (drop (i + 1) bytes)
no_more value left i bytes l digit = rw (drop_more bytes i 0 l, digit) refl

pub none_left : (value left : ℕ) (bytes : List ℕ) → left ≡ 0 → left_value value left bytes ≡ value
none_left value left bytes e = rw e refl

pub no_less : (value left : ℕ) (bytes : List ℕ) → value ≤ left_value value left bytes
no_less value left bytes =
    first_no_more 10 value 0 (take left (filter is_ascii_digit bytes)) (omega arith)

pub ruleset turns = (one_more, no_more, none_left, no_less)

-- ---- of a mantissa

pub same_value : (digits : List ℕ) (value : ℕ) → IsOfFirstDigits 10 19 digits value 0
    → digits_value 10 digits ≡ value
same_value digits value h =
    let cut = cut_at digits value 0 h in
    omega (arith, cut.from, cut.to)

-- all of its digits count
pub all_count : (whole fraction : List ℕ) (places value : ℕ)
    → IsOfFirstDigits 10 19 (whole ++ fraction) value 0 → length fraction ≤ places
    → first_value (digits_value 10 whole) places fraction ≡ value
unfolding first_value
all_count whole fraction places value h l =
    rw (take_all {A = ℕ} places fraction l, value_of_both 10 whole fraction)
    (same_value (whole ++ fraction) value h)

-- in two pieces, the first of which has all digits of the integer
pub firsts_are : (whole fraction : List ℕ) (places count : ℕ) → length whole ≤ count
    → first_value (digits_value 10 whole) places fraction
    ≡ digits_value_after 10 (digits_value_after 10 0 (take count whole)) (take places fraction)
unfolding first_value
firsts_are whole fraction places count l = rw (take_all {A = ℕ} count whole l) refl

-- it is no less than the first
pub firsts_grow : (whole fraction : List ℕ) (places count : ℕ) → length whole ≤ count
    → digits_value_after 10 0 (take count whole)
    ≤ first_value (digits_value 10 whole) places fraction
firsts_grow whole fraction places count l =
    let a = first_no_more 10 (digits_value_after 10 0 (take count whole)) 0 (take places fraction)
    (omega arith) in
    omega (arith, a, firsts_are whole fraction places count l)

pub ruleset firsts = (firsts_are, firsts_grow)

-- times a power of ten it is no less
pub tens_grow : (n k : ℕ) → n ≤ n * 10 ^ k
tens_grow n k =
    let a : n * 1 ≤ n * 10 ^ k = mul-le-mul_left n (one-le-pow k 10 (omega arith)) in
    omega (arith, a)

pub ruleset scales = (all_count, tens_grow)

-- no digit follows so many places
pub none_follows : (fraction : List ℕ) (places : ℕ) → length fraction ≤ places
    → is_exact fraction places ≡ true
none_follows fraction places l = rw (drop_all {X = ℕ} places fraction l) refl
