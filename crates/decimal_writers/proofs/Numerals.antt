-- The decimal digits of numbers.
use Rattle.std.proofs.Common.{◌≡◌, ℕ, zero, suc, ◌+◌, ◌-◌, ◌*◌, ◌/◌, ◌%◌, ◌^◌, ◌<◌, ◌≤◌, List, [], ◌∷◌, ◌++◌, length, drop, set, map, refl, sym, ap, subst, ◌∙◌, inl, inr, arith, length-append, append_assoc, append-nil}
use Rattle.std.specs.Prelude.{decimal}
use Rattle.std.specs.Int.Digits.{digits_of}
use Rattle.std.proofs.Math.Arith.{mod-mul}
use Rattle.std.proofs.Math.Nat.{div-one, pow-le-pow_right}
use Rattle.std.proofs.lemmas.Bool.{cases_lt}
use Rattle.std.proofs.lemmas.Fmt.{decimal_by_steps_wide}
use Rattle.std.proofs.lemmas.Int.Digits.{digits_of_step}
use Rattle.std.proofs.lemmas.List.{map-append, drop-set}
use native.Mathlib.Nat.{pow-suc, div-div-eq-div-mul}
use lib.Pow.{pow-add}
use Rattle.decimal_writers.specs.Text.{number_text, last_digits}

-- ---- the last digits of a number

pub length-last : (count n : ℕ) → length (last_digits count n) ≡ count
unfolding last_digits
length-last zero n = refl
length-last (suc count) n =
    length-append (last_digits count (n / 10)) _ ∙ grind (arith, length-last count (n / 10))

pub last_none : (n : ℕ) → last_digits 0 n ≡ []
unfolding last_digits
last_none n = refl

pub last_step : (count n : ℕ)
    → last_digits (suc count) n ≡ last_digits count (n / 10) ++ (48 + n % 10) ∷ []
unfolding last_digits
last_step count n = refl

-- the last so many, and those before them
pub last_split : (before count n : ℕ)
    → last_digits (before + count) n
    ≡ last_digits before (n / 10 ^ count) ++ last_digits count n
last_split before zero n =
    let one : n / 10 ^ 0 ≡ n = div-one n in
    let none : before + 0 ≡ before = omega arith in
    rw (none, one, last_none) (sym (append-nil _))
last_split before (suc count) n =
    let next : before + suc count ≡ suc (before + count) = omega arith in
    let tens : 10 ^ suc count ≡ 10 * 10 ^ count = omega (arith, pow-suc 10 count) in
    let rest : n / 10 / 10 ^ count ≡ n / 10 ^ suc count =
    div-div-eq-div-mul n 10 (10 ^ count) ∙ ap (λ (x : ℕ). n / x) (sym tens) in
    ap (λ (x : ℕ). last_digits x n) next ∙ last_step (before + count) n
    ∙ ap (λ (ds : List ℕ). ds ++ (48 + n % 10) ∷ []) (last_split before count (n / 10))
    ∙ append_assoc (last_digits before (n / 10 / 10 ^ count)) (last_digits count (n / 10)) _
    ∙ ap (λ (x : ℕ). last_digits before x ++ (last_digits count
    (n / 10) ++ (48 + n % 10) ∷ [])) rest
    ∙ ap (λ (ds : List ℕ). last_digits before (n / 10 ^ suc count) ++ ds) (sym (last_step count n))

pub last_more : (count n : ℕ)
    → last_digits (suc count) n ≡ (48 + n / 10 ^ count % 10) ∷ last_digits count n
last_more count n =
    let next : 1 + count ≡ suc count = omega arith in
    ap (λ (x : ℕ). last_digits x n) (sym next) ∙ last_split 1 count n
    ∙ ap (λ (ds : List ℕ). ds ++ last_digits count n)
    (last_step 0 (n / 10 ^ count)
    ∙ ap (λ (ds : List ℕ). ds ++ (48 + n / 10 ^ count % 10) ∷ [])
    (last_none (n / 10 ^ count / 10)))

-- ---- powers of ten

pub ten_pos : (k : ℕ) → 0 < 10 ^ k
ten_pos zero = omega arith
ten_pos (suc k) = omega (arith, pow-suc 10 k, ten_pos k)

-- the last digits are those of the rest after the power
pub last_of_rest : (k n : ℕ) → last_digits k (n % 10 ^ k) ≡ last_digits k n
last_of_rest zero n = last_none (n % 10 ^ 0) ∙ sym (last_none n)
last_of_rest (suc k) n =
    let tens : 10 ^ suc k ≡ 10 ^ k * 10 = pow-suc 10 k in
    let is : n % 10 ^ suc k ≡ n / 10 % 10 ^ k * 10 + n % 10 =
    ap (λ (x : ℕ). n % x) tens ∙ mod-mul n (ten_pos k) (omega arith) in
    let over : n % 10 ^ suc k / 10 ≡ n / 10 % 10 ^ k = omega (arith, is) in
    let last : n % 10 ^ suc k % 10 ≡ n % 10 = omega (arith, is) in
    last_step k (n % 10 ^ suc k)
    ∙ (λ i. last_digits k (over i) ++ (48 + last i) ∷ [])
    ∙ ap (λ (ds : List ℕ). ds ++ (48 + n % 10) ∷ []) (last_of_rest k (n / 10))
    ∙ sym (last_step k n)

-- ---- all digits of a number

pub number_digit : (n : ℕ) → n < 10 → number_text n ≡ (48 + n) ∷ []
unfolding number_text
number_digit zero few = refl
number_digit (suc n) few =
    let none : suc n / 10 ≡ 0 = omega arith in
    let same : suc n % 10 ≡ suc n = omega arith in
    ap (map (λ digit. 48 + digit))
    (digits_of_step 10 (suc n) (omega arith) (omega arith)
    ∙ (λ i. digits_of 10 (none i) ++ (same i) ∷ []))

step_by : (n front : ℕ) → n / 10 ≡ front → 10 ≤ n
    → number_text n ≡ number_text front ++ (48 + n % 10) ∷ []
unfolding number_text
step_by zero front e many = absurd (omega arith)
step_by (suc n) zero e many = absurd (omega arith)
step_by (suc n) (suc front) e many =
    ap (map (λ digit. 48 + digit))
    (digits_of_step 10 (suc n) (omega arith) (omega arith)
    ∙ ap (λ (x : ℕ). digits_of 10 x ++ (suc n % 10) ∷ []) e)
    ∙ map-append (λ digit. 48 + digit) (digits_of 10 (suc front)) ((suc n % 10) ∷ [])

pub number_step : (n : ℕ) → 10 ≤ n → number_text n ≡ number_text (n / 10) ++ (48 + n % 10) ∷ []
number_step n many = step_by n (n / 10) refl many

-- it has as many digits as it needs: no more
pub record IsCounted (n count : ℕ) : Type 0 where
  pub same : number_text n ≡ last_digits count n
  pub some : 1 ≤ count
  pub below : n < 10 ^ count
  pub least : 1 < count → 10 ^ (count - 1) ≤ n

one_digit : (n : ℕ) → n < 10 → IsCounted n (length (number_text n))
one_digit n few =
    let text = number_digit n few in
    let long : length (number_text n) ≡ 1 = ap length text in
    let small : n % 10 ≡ n = omega arith in
    subst (IsCounted n) (sym long)
    record {
      same = text ∙ ap (λ (x : ℕ). (48 + x) ∷ []) (sym small)
          ∙ sym (last_step 0 n
          ∙ ap (λ (ds : List ℕ). ds ++ (48 + n % 10) ∷ []) (last_none (n / 10)));
      some = omega arith;
      below = omega arith;
      least = λ more. absurd (omega arith);
    }

tens_more : (count : ℕ) → 10 ^ (count + 1) ≡ 10 ^ count * 10
tens_more count =
    let next : count + 1 ≡ suc count = omega arith in
    ap (λ (x : ℕ). 10 ^ x) next ∙ omega (arith, pow-suc 10 count)

ten_low : (n count : ℕ) → 10 ≤ n → count ≡ 1 → 10 ^ count ≤ n
ten_low n count many one = subst (λ (x : ℕ). 10 ^ x ≤ n) (sym one) many

more_digits : (n front count : ℕ) → n / 10 ≡ front → 10 ≤ n → IsCounted front count
    → length (number_text front) ≡ count → IsCounted n (length (number_text n))
more_digits n front count e many is counts =
    let next : count + 1 ≡ suc count = omega arith in
    let back : count + 1 - 1 ≡ count = omega arith in
    let step = number_step n many ∙ ap (λ (x : ℕ). number_text x ++ (48 + n % 10) ∷ []) e in
    let long : length (number_text n) ≡ count + 1 =
    ap length step ∙ length-append (number_text front) _ ∙ ap (λ (x : ℕ). x + 1) counts in
    let same : number_text n ≡ last_digits (count + 1) n =
    step ∙ ap (λ (ds : List ℕ). ds ++ (48 + n % 10) ∷ []) (is.same ∙ ap (last_digits count) (sym e))
    ∙ sym (ap (λ (x : ℕ). last_digits x n) next ∙ last_step count n) in
    let low : 10 ^ count ≤ n =
    elim (cases_lt 1 count) [
      | inl l ↦
          let last : count - 1 + 1 ≡ count = omega arith in
          let tens : 10 ^ count ≡ 10 ^ (count - 1) * 10 = ap (λ (x : ℕ). 10 ^ x) (sym last)
          ∙ tens_more (count - 1) in
          omega (arith, is.least l, tens, e)
      | inr l ↦
          let one : count ≡ 1 = omega (arith, is.some) in
          ten_low n count many one
    ] in
    subst (IsCounted n) (sym long)
    record {
      same = same;
      some = omega arith;
      below = omega (arith, tens_more count, is.below, e);
      least = λ more. rw back low;
    }

pub counted : (n : ℕ) → IsCounted n (length (number_text n))
counted n = go n n (omega arith)
  where
    go : (fuel n : ℕ) → n ≤ fuel → IsCounted n (length (number_text n))
    go zero n l = one_digit n (omega arith)
    go (suc fuel) n l = elim (cases_lt n 10) [
      | inl few ↦ one_digit n few
      | inr many ↦ more_digits n (n / 10) (length (number_text (n / 10))) refl many
          (go fuel (n / 10) (omega arith)) refl
    ]

-- what is below a power of ten has no more digits
pub few_digits : (n most : ℕ) → 1 ≤ most → n < 10 ^ most → length (number_text n) ≤ most
few_digits n most some below =
    let count = length (number_text n) in
    let is = counted n in
    elim (cases_lt most count) [
      | inr few ↦ few
      | inl many ↦
          let tens : 10 ^ most ≤ 10 ^ (count - 1) = pow-le-pow_right (omega arith) (omega arith) in
          absurd (omega (arith, tens, is.least (omega arith), below))
    ]

pub word_digits : (n : ℕ) → n < 2 ^ 64 → length (number_text n) ≤ 20
word_digits n below = few_digits n 20 (omega arith) (omega arith)

pub some_digits : (n : ℕ) → 1 ≤ length (number_text n)
some_digits n = (counted n).some

pub number_more : (n : ℕ) → 10 ≤ n → length (number_text n) ≡ length (number_text (n / 10)) + 1
number_more n many = ap length (number_step n many) ∙ length-append (number_text (n / 10)) _

pub number_one : (n : ℕ) → n < 10 → length (number_text n) ≡ 1
number_one n few = ap length (number_digit n few)

-- its last digits, and the number without them before them
pub number_parts : (k n : ℕ) → 10 ^ k ≤ n
    → number_text n ≡ number_text (n / 10 ^ k) ++ last_digits k n
number_parts zero n low =
    let one : n / 10 ^ 0 ≡ n = div-one n in
    rw (one, last_none) (sym (append-nil (number_text n)))
number_parts (suc k) n low =
    let tens : 10 ^ suc k ≡ 10 * 10 ^ k = omega (arith, pow-suc 10 k) in
    let over : n / 10 / 10 ^ k ≡ n / 10 ^ suc k =
    div-div-eq-div-mul n 10 (10 ^ k) ∙ ap (λ (x : ℕ). n / x) (sym tens) in
    number_step n (omega (arith, low, tens, ten_pos k))
    ∙ ap (λ (ds : List ℕ). ds ++ (48 + n % 10) ∷ [])
    (number_parts k (n / 10) (omega (arith, low, tens)))
    ∙ append_assoc (number_text (n / 10 / 10 ^ k)) (last_digits k (n / 10)) _
    ∙ ap (λ (x : ℕ). number_text x ++ (last_digits k (n / 10) ++ (48 + n % 10) ∷ [])) over
    ∙ ap (λ (ds : List ℕ). number_text (n / 10 ^ suc k) ++ ds) (sym (last_step k n))

pub number_length : (k n : ℕ) → 10 ^ k ≤ n
    → length (number_text n) ≡ length (number_text (n / 10 ^ k)) + k
number_length k n low =
    ap length (number_parts k n low) ∙ length-append (number_text (n / 10 ^ k)) (last_digits k n)
    ∙ ap (λ (x : ℕ). length (number_text (n / 10 ^ k)) + x) (length-last k n)

-- ---- digits before the end of a slice

pub record IsPut (n end at left : ℕ) (old new : List ℕ) : Type 0 where
  pub within : at ≤ end
  pub rest : left ≡ n / 10 ^ (end - at)
  pub written : drop at new ≡ last_digits (end - at) n ++ drop end old

pub put_none : (n end : ℕ) (old : List ℕ) → IsPut n end end n old old
put_none n end old =
    let none : end - end ≡ 0 = omega arith in
    record {
      within = omega arith;
      rest = rw none (sym (div-one n));
      written = rw (none, last_none) refl;
    }

-- so many digits of what is left
pub put_more : (n end at left k : ℕ) (old new newer : List ℕ) → k ≤ at
    → drop (at - k) newer ≡ last_digits k left ++ drop at new
    → IsPut n end at left old new → IsPut n end (at - k) (left / 10 ^ k) old newer
put_more n end at left k old new newer room more is =
    let all : end - (at - k) ≡ k + (end - at) = omega (arith, is.within, room) in
    let turned : 10 ^ (end - at) * 10 ^ k ≡ 10 ^ (end - (at - k)) =
    omega (arith, pow-add 10 k (end - at)) ∙ ap (λ (x : ℕ). 10 ^ x) (sym all) in
    record {
      within = omega (arith, is.within);
      rest =
          ap (λ (x : ℕ). x / 10 ^ k) is.rest ∙ div-div-eq-div-mul n (10 ^ (end - at)) (10 ^ k)
          ∙ ap (λ (x : ℕ). n / x) turned;
      written =
          more ∙ ap (λ (ds : List ℕ). last_digits k left ++ ds) is.written
          ∙ sym (append_assoc (last_digits k left) (last_digits (end - at) n) (drop end old))
          ∙ ap (λ (ds : List ℕ). ds ++ drop end old)
          (ap (λ (x : ℕ). last_digits k x ++ last_digits (end - at) n) is.rest
          ∙ sym (last_split k (end - at) n)
          ∙ ap (λ (x : ℕ). last_digits x n) (sym all));
    }

-- one digit
pub put_last : (n end at left : ℕ) (old new : List ℕ) → 1 ≤ at → at ≤ length new
    → IsPut n end at left old new
    → IsPut n end (at - 1) (left / 10) old (set new (at - 1) (48 + left % 10))
put_last n end at left old new some within is =
    let back : at - 1 + 1 ≡ at = omega arith in
    let last : last_digits 1 left ≡ (48 + left % 10) ∷ [] =
    last_step 0 left ∙ ap (λ (ds : List ℕ). ds ++ (48 + left % 10) ∷ []) (last_none (left / 10)) in
    put_more n end at left 1 old new (set new (at - 1) (48 + left % 10)) some
    (drop-set new (at - 1) (48 + left % 10) (omega arith)
    ∙ ap (λ (x : ℕ). (48 + left % 10) ∷ drop x new) back
    ∙ ap (λ (ds : List ℕ). ds ++ drop at new) (sym last)) is

-- where all of so many are written
pub put_done : (n count end at left : ℕ) (old new : List ℕ) → count ≤ end → at ≡ end - count
    → IsPut n end at left old new
    → (left ≡ n / 10 ^ count) × (drop (end - count) new ≡ last_digits count n ++ drop end old)
put_done n count end at left old new room is put =
    let all : end - at ≡ count = omega (arith, is, room) in (
      put.rest ∙ ap (λ (x : ℕ). n / 10 ^ x) all,
      ap (λ (x : ℕ). drop x new) (sym is) ∙ put.written
          ∙ ap (λ (x : ℕ). last_digits x n ++ drop end old) all,
    )

-- a number of which so many digits are written, and the others left
pub record IsBegun (n end at left : ℕ) (old new : List ℕ) : Type 0 where
  pub within : at ≤ end
  pub long : length (number_text n) + at ≡ length (number_text left) + end
  pub written : number_text left ++ drop at new ≡ number_text n ++ drop end old

pub begun_none : (n end : ℕ) (old : List ℕ) → IsBegun n end end n old old
begun_none n end old = record { within = omega arith; long = refl; written = refl }

pub begun_more : (n end at left k low : ℕ) (old new newer : List ℕ) → 10 ^ k ≤ left → k ≤ at
    → low ≡ left % 10 ^ k → drop (at - k) newer ≡ last_digits k low ++ drop at new
    → IsBegun n end at left old new → IsBegun n end (at - k) (left / 10 ^ k) old newer
begun_more n end at left k low old new newer many room rest more is = record {
  within = omega (arith, is.within);
  long = omega (arith, is.long, number_length k left many, room);
  written =
      ap (λ (ds : List ℕ). number_text (left / 10 ^ k) ++ ds)
      (more
      ∙ ap (λ (ds : List ℕ). ds ++ drop at new)
      (ap (last_digits k) rest ∙ last_of_rest k left))
      ∙ sym (append_assoc (number_text (left / 10 ^ k)) (last_digits k left) (drop at new))
      ∙ ap (λ (ds : List ℕ). ds ++ drop at new) (sym (number_parts k left many))
      ∙ is.written;
}

-- what std writes of a number
pub number_is : (n : ℕ) → n < 10 ^ 64 → number_text n ≡ decimal n
number_is =
    decimal_by_steps_wide (λ n ds. number_text n ≡ ds) number_digit
    (λ n ds many is. number_step n many ∙ ap (λ (xs : List ℕ). xs ++ (48 + n % 10) ∷ []) is)

pub ruleset puts = (put_none, put_done)
