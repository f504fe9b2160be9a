-- Digits with a point, and with zeros after them.
use Rattle.std.proofs.Common.{◌≡◌, ℕ, zero, suc, ◌+◌, ◌-◌, ◌*◌, ◌/◌, ◌%◌, ◌^◌, ◌<◌, ◌≤◌, List, [], ◌∷◌, ◌++◌, length, drop, set, get_or, refl, sym, ap, ◌∙◌, inl, inr, arith, length-append, append_assoc, append-nil}
use Rattle.std.specs.Prelude.{max, nat_lt}
use Rattle.std.proofs.Math.Nat.{div-one, div-eq_of_lt, pow-le-pow_right}
use Rattle.std.proofs.Math.Seq.{drop-cons}
use Rattle.std.proofs.lemmas.Bool.{cases_lt}
use Rattle.std.proofs.lemmas.Bool.Decides.{nat_tests}
use Rattle.std.proofs.lemmas.List.{drop-set, length-set}
use Rattle.std.proofs.lemmas.Nat.{div_below}
use native.Mathlib.Nat.{pow-suc, mul_assoc, mul-pos, div-div-eq-div-mul}
use lib.Pow.{pow-add}
use mir.Val.{bool_byte}
use Rattle.decimal_writers.specs.Text.{number_text, last_digits, with_point, mantissa_text}
use Rattle.decimal_writers.proofs.Numerals.{ten_pos, length-last, last_none, last_split, last_step, counted, few_digits, number_digit, number_step, number_parts, number_more, number_one, some_digits, word_digits}

-- ---- a point

pub shifted : (n places : ℕ)
    → length (number_text (n / 10 ^ places)) ≡ max (length (number_text n) - places) 1
shifted n zero =
    let same : n / 10 ^ 0 ≡ n = div-one n in
    rw same (omega (arith, some_digits n))
shifted n (suc places) =
    let tens : 10 ^ places * 10 ≡ 10 ^ suc places = omega (arith, pow-suc 10 places) in
    let e : n / 10 ^ suc places ≡ n / 10 ^ places / 10 =
    ap (λ (x : ℕ). n / x) (sym tens) ∙ sym (div-div-eq-div-mul n (10 ^ places) 10) in
    ap (λ (x : ℕ). length (number_text x)) e
    ∙ one (n / 10 ^ places) (length (number_text n)) places (shifted n places)
  where
    one : (front count places : ℕ) → length (number_text front) ≡ max (count - places) 1
        → length (number_text (front / 10)) ≡ max (count - suc places) 1
    one front count places is = elim (cases_lt front 10) [
      | inl few ↦
          let none : front / 10 ≡ 0 = omega arith in
          let here = number_one front few in
          let there : length (number_text (front / 10)) ≡ 1 =
          rw none (number_one 0 (omega arith)) in
          omega (arith, is, here, there)
      | inr many ↦
          let here = number_more front many in
          omega (arith, is, here, some_digits (front / 10))
    ]

pub with_some_point : (n places : ℕ) → 0 < places
    → with_point places n ≡ number_text (n / 10 ^ places) ++ 46 ∷ last_digits places n
with_some_point n zero some = absurd (omega arith)
with_some_point n (suc places) some = refl

pub long_with_point : (n places : ℕ) → 0 < places
    → length (with_point places n) ≡ max (length (number_text n)) (places + 1) + 1
long_with_point n places some =
    ap length (with_some_point n places some)
    ∙ length-append (number_text (n / 10 ^ places)) (46 ∷ last_digits places n)
    ∙ omega (arith, shifted n places, length-last places n)

-- a point before the last places, and the others before it
pub pointed : (n places end start whole : ℕ) (old one new : List ℕ) → 0 < places → places < end
    → end ≤ length old → length one ≡ length old → whole ≡ n / 10 ^ places
    → drop (end - places) one ≡ last_digits places n ++ drop end old
    → drop start new ≡ number_text whole ++ drop (end - places - 1) (set one (end - places - 1) 46)
    → drop start new ≡ with_point places n ++ drop end old
pointed n places end start whole old one new some room within same is last front =
    let next : end - places - 1 + 1 ≡ end - places = omega arith in
    let point : drop (end - places - 1) (set one (end - places - 1) 46) ≡ 46 ∷ drop
    (end - places) one =
    drop-set one (end - places - 1) 46 (omega arith) ∙ ap (λ (x : ℕ). 46 ∷ drop x one) next in
    front ∙ ap (λ (ds : List ℕ). number_text whole ++ ds)
    (point ∙ ap (λ (ds : List ℕ). 46 ∷ ds) last)
    ∙ sym (append_assoc (number_text whole) (46 ∷ last_digits places n) (drop end old))
    ∙ ap (λ (x : ℕ). (number_text x ++ 46 ∷ last_digits places n) ++ drop end old) is
    ∙ ap (λ (ds : List ℕ). ds ++ drop end old) (sym (with_some_point n places some))

pub long_pointed : (n places whole : ℕ) → 0 < places → whole ≡ n / 10 ^ places
    → length (with_point places n) ≡ length (number_text whole) + 1 + places
long_pointed n places whole some is =
    ap length (with_some_point n places some)
    ∙ length-append (number_text (n / 10 ^ places)) (46 ∷ last_digits places n)
    ∙ omega (arith, length-last places n, ap (λ (x : ℕ). length (number_text x)) is)

-- ---- a number below 1

last_short : (n places count : ℕ) → n < 10 ^ count → count ≤ places
    → last_digits places n ≡ last_digits (places - count) 0 ++ last_digits count n
last_short n places count few less =
    let all : places - count + count ≡ places = omega (arith, less) in
    ap (λ (x : ℕ). last_digits x n) (sym all) ∙ last_split (places - count) count n
    ∙ ap (λ (x : ℕ). last_digits (places - count) x ++ last_digits count n) (div-eq_of_lt few)

pub below_long : (n places : ℕ) → 0 < places → n < 10 ^ places
    → length (number_text n) ≤ places
below_long n places some below = few_digits n places some below

pub below_all : (n places : ℕ) → 0 < places → n < 10 ^ places
    → length (with_point places n) ≡ places + 2
below_all n places some below =
    omega (
      arith,
      long_pointed n places 0 some (sym (div-eq_of_lt below)),
      number_one 0 (omega arith),
    )

pub below_put : (n places zeros end start point : ℕ) (old one two : List ℕ) → 0 < places
    → n < 10 ^ places → places + 2 ≤ end → end ≤ length old → length one ≡ length old
    → length two ≡ length one → start + length (number_text n) ≡ end
    → zeros ≡ start - (end - places) → point ≡ end - places - 1
    → drop start one ≡ number_text n ++ drop end old
    → drop (start - zeros) two ≡ last_digits zeros 0 ++ drop start one
    → drop (point - 1) (set (set two point 46) (point - 1) 48) ≡ with_point places n ++ drop end old
below_put n places zeros end start point old one two some below room within long same starts none at
    front back =
    let count = length (number_text n) in
    let few : count ≤ places = few_digits n places some below in
    let is = counted n in
    let from : start - zeros ≡ end - places = omega (arith, starts, none, few, room) in
    let many : zeros ≡ places - count = omega (arith, starts, none, few, room) in
    let digits : drop (end - places) two ≡ last_digits places n ++ drop end old =
    ap (λ (x : ℕ). drop x two) (sym from) ∙ back
    ∙ ap (λ (ds : List ℕ). last_digits zeros 0 ++ ds)
    (front ∙ ap (λ (ds : List ℕ). ds ++ drop end old) is.same)
    ∙ ap (λ (x : ℕ). last_digits x 0 ++ (last_digits count n ++ drop end old)) many
    ∙ sym (append_assoc (last_digits (places - count) 0) (last_digits count n) (drop end old))
    ∙ ap (λ (ds : List ℕ). ds ++ drop end old) (sym (last_short n places count is.below few)) in
    let next : point - 1 + 1 ≡ end - places - 1 = omega (arith, at, room) in
    let size : length (set two point 46) ≡ length two = length-set two point 46 in
    let zero_first : drop (point - 1) (set (set two point 46) (point - 1) 48)
    ≡ number_text 0 ++ drop (end - places - 1) (set two (end - places - 1) 46) =
    drop-set (set two point 46) (point - 1) 48
    (omega (arith, at, room, within, long, same, size))
    ∙ ap (λ (x : ℕ). 48 ∷ drop x (set two point 46)) next
    ∙ ap (λ (x : ℕ). 48 ∷ drop (end - places - 1) (set two x 46)) at
    ∙ ap (λ (ds : List ℕ). ds ++ drop (end - places - 1) (set two (end - places - 1) 46))
    (sym (number_digit 0 (omega arith))) in
    pointed n places end (point - 1) 0 old two (set (set two point 46) (point - 1) 48) some
    (omega (arith, room)) within (same ∙ long) (sym (div-eq_of_lt below)) digits zero_first

-- a word has at most twenty digits
pub below_twenty : (n places : ℕ) → n < 2 ^ 64 → 20 ≤ places → n < 10 ^ places
below_twenty n places few many =
    let tens : 10 ^ 20 ≤ 10 ^ places = pow-le-pow_right (omega arith) many in
    omega (arith, tens, few)

pub ruleset below_one = (below_long, below_all, below_put)

-- ---- a point after the first digit

with_long : (n k : ℕ) → length (number_text n) ≡ k + 1
    → length (with_point k n) ≡ k + 1 + bool_byte (nat_lt 1 (k + 1))
with_long n zero long = omega (arith, long)
with_long n (suc k) long =
    let more : bool_byte (nat_lt 1 (suc k + 1)) ≡ 1 = more_is (suc k + 1) (omega arith) in
    omega (arith, long_with_point n (suc k) (omega arith), long, more)
  where
    more_is : (x : ℕ) → 1 < x → bool_byte (nat_lt 1 x) ≡ 1
    more_is x l = grind (arith, nat_tests)

pub long_mantissa : (n count : ℕ) → length (number_text n) ≡ count
    → length (mantissa_text n) ≡ count + bool_byte (nat_lt 1 count)
long_mantissa n count long =
    let back : count - 1 + 1 ≡ count = omega (arith, long, some_digits n) in
    ap (λ (x : ℕ). length (with_point (x - 1) n)) long
    ∙ with_long n (count - 1) (long ∙ sym back)
    ∙ ap (λ (x : ℕ). x + bool_byte (nat_lt 1 x)) back

pub mantissa_one : (n : ℕ) → n < 10 → mantissa_text n ≡ number_text n
mantissa_one n few =
    let none : length (number_text n) - 1 ≡ 0 = omega (arith, number_one n few) in
    ap (λ (x : ℕ). with_point x n) none

pub mantissa_long : (n : ℕ) → 10 ≤ n → length (mantissa_text n) ≡ length (number_text n) + 1
mantissa_long n many =
    let count = length (number_text n) in
    omega (
      arith,
      long_with_point n (count - 1) (omega (arith, number_more n many, some_digits (n / 10))),
      number_more n many,
      some_digits (n / 10),
    )

pub mantissa_put : (n start end first : ℕ) (old one : List ℕ) → 10 ≤ n → 1 ≤ start
    → start + length (number_text n) ≡ end → end ≤ length old → length one ≡ length old
    → drop start one ≡ number_text n ++ drop end old → first ≡ get_or one start 0
    → drop (start - 1) (set (set one start 46) (start - 1) first)
    ≡ mantissa_text n ++ drop end old
mantissa_put n start end first old one many some ends within long is read =
    let count = length (number_text n) in
    let k = count - 1 in
    let c = counted n in
    let more : 1 < count = omega (arith, number_more n many, some_digits (n / 10)) in
    let all : k + 1 ≡ count = omega (arith, more) in
    let low : 10 ^ k ≤ n = c.least more in
    let tens : 10 ^ count ≡ 10 * 10 ^ k = ap (λ (x : ℕ). 10 ^ x) (sym all)
    ∙ omega (arith, pow-add 10 k 1) in
    let d = n / 10 ^ k in
    let few : d < 10 = div_below n (10 ^ k) 10 (ten_pos k) (omega (arith, c.below, tens)) in
    let digit : number_text d ≡ (48 + d) ∷ [] = number_digit d few in
    let text : drop start one ≡ (48 + d) ∷ (last_digits k n ++ drop end old) =
    is ∙ ap (λ (ds : List ℕ). ds ++ drop end old)
    (number_parts k n low ∙ ap (λ (ds : List ℕ). ds ++ last_digits k n) digit) in
    let next : suc start ≡ start + 1 = omega arith in
    let back : start - 1 + 1 ≡ start = omega (arith, some) in
    let inside : start < length one = omega (arith, ends, more, within, long) in
    let split : drop start one ≡ get_or one start 0 ∷ drop (start + 1) one =
    drop-cons one start 0 inside ∙ ap (λ (x : ℕ). get_or one start 0 ∷ drop x one) next in
    let head : first ≡ 48 + d = read ∙ ap (λ (ds : List ℕ). get_or ds 0 0) (sym split ∙ text) in
    let tail : drop (start + 1) one ≡ last_digits k n ++ drop end old =
    ap (drop 1) (sym split ∙ text) in
    let size : length (set one start 46) ≡ length one = length-set one start 46 in
    drop-set (set one start 46) (start - 1) first (omega (arith, size, inside))
    ∙ ap (λ (x : ℕ). first ∷ drop x (set one start 46)) back
    ∙ ap (λ (ds : List ℕ). first ∷ ds) (drop-set one start 46 inside)
    ∙ (λ i. head i ∷ 46 ∷ tail i)
    ∙ ap (λ (ds : List ℕ). ds ++ drop end old)
    (sym (with_some_point n k (omega (arith, more))
    ∙ ap (λ (ds : List ℕ). ds ++ 46 ∷ last_digits k n) digit))

pub ruleset mantissas = (mantissa_one, mantissa_long, mantissa_put)

-- ---- zeros

pub tens_of : (n zeros : ℕ) → 0 < n
    → number_text (n * 10 ^ zeros) ≡ number_text n ++ last_digits zeros 0
tens_of n zero some =
    let same : n * 10 ^ 0 ≡ n = omega arith in
    rw (same, last_none) (sym (append-nil (number_text n)))
tens_of n (suc zeros) some =
    let tens : 10 ^ suc zeros ≡ 10 ^ zeros * 10 = omega (arith, pow-suc 10 zeros) in
    more (n * 10 ^ zeros) (n * 10 ^ suc zeros)
    (ap (λ (x : ℕ). n * x) tens ∙ sym (mul_assoc n (10 ^ zeros) 10))
    (mul-pos some (ten_pos zeros)) (tens_of n zeros some)
  where
    more : (front all : ℕ) → all ≡ front * 10 → 0 < front
        → number_text front ≡ number_text n ++ last_digits zeros 0
        → number_text all ≡ number_text n ++ last_digits (suc zeros) 0
    more front all e some is =
        let low : all / 10 ≡ front = omega arith in
        let last : all % 10 ≡ 0 = omega arith in
        number_step all (omega arith)
        ∙ (λ i. number_text (low i) ++ (48 + last i) ∷ [])
        ∙ ap (λ (ds : List ℕ). ds ++ 48 ∷ []) is
        ∙ append_assoc (number_text n) (last_digits zeros 0) (48 ∷ [])
        ∙ ap (λ (ds : List ℕ). number_text n ++ ds) (sym (last_step zeros 0))

pub no_tens : (zeros : ℕ) → number_text (0 * 10 ^ zeros) ≡ number_text 0
no_tens zeros = let none : 0 * 10 ^ zeros ≡ 0 = omega arith in ap number_text none

pub long_tens : (n zeros : ℕ) → 0 < n
    → length (number_text (n * 10 ^ zeros)) ≡ length (number_text n) + zeros
long_tens n zeros some =
    ap length (tens_of n zeros some) ∙ length-append (number_text n) (last_digits zeros 0)
    ∙ ap (λ (x : ℕ). length (number_text n) + x) (length-last zeros 0)

pub with_tens : (n zeros end start : ℕ) (old one new : List ℕ) → 0 < n
    → drop (end - zeros) one ≡ last_digits zeros 0 ++ drop end old
    → drop start new ≡ number_text n ++ drop (end - zeros) one
    → drop start new ≡ number_text (n * 10 ^ zeros) ++ drop end old
with_tens n zeros end start old one new some last front =
    front ∙ ap (λ (ds : List ℕ). number_text n ++ ds) last
    ∙ sym (append_assoc (number_text n) (last_digits zeros 0) (drop end old))
    ∙ ap (λ (ds : List ℕ). ds ++ drop end old) (sym (tens_of n zeros some))

pub ruleset lengths = (long_with_point, word_digits)

pub ruleset points = (long_pointed, pointed, below_all, below_twenty)

pub ruleset zeros = (no_tens, long_tens, with_tens, number_one)
