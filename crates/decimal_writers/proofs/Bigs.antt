-- Digits in place.
use Rattle.std.proofs.Common.{◌≡◌, ◌⊎◌, ℕ, zero, suc, ◌+◌, ◌-◌, ◌*◌, ◌/◌, ◌%◌, ◌^◌, ◌<◌, ◌≤◌, List, [], ◌∷◌, ◌++◌, length, take, drop, set, get_or, refl, sym, ap, subst, ◌∙◌, inl, inr, arith, get_or-set_same, get_or-set_other}
use Rattle.std.proofs.Math.Nat.{pow-zero, div-one, zero-div, mul-le-mul_left, mul-le-mul_right, pow-le-pow_right}
use Rattle.std.proofs.lemmas.Bool.{cases_eq, cases_lt}
use Rattle.std.proofs.lemmas.List.{take-set, take_all, get_or-drop, drop-set-lt, length-set, get_or_past, set_past, drop-drop, take_at, get_or-take, length-take, drop-set}
use native.Mathlib.Nat.{pow-suc, pow-le-pow_left, mul-pos, div-div-eq-div-mul, mul_assoc, mul_comm}
use lib.Pow.{pow-add}
use Rattle.decimal_writers.specs.Big.{value_of, IsBig}
use Rattle.decimal_writers.specs.Text.{last_digits}
use Rattle.decimal_writers.proofs.Numerals.{last_more}

pub value_nil : value_of [] ≡ 0
unfolding value_of
value_nil = refl

pub value_cons : (d : ℕ) (ds : List ℕ) → value_of (d ∷ ds) ≡ d + 10 * value_of ds
unfolding value_of
value_cons d ds = refl

pub value_more : (ds : List ℕ) (i : ℕ) → i < length ds
    → value_of (take (suc i) ds) ≡ value_of (take i ds) + get_or ds i 0 * 10 ^ i
value_more [] i l = absurd (omega arith)
value_more (d ∷ ds) zero l = value_cons d [] ∙ omega (arith, value_nil)
value_more (d ∷ ds) (suc i) l =
    value_cons d (take (suc i) ds)
    ∙ omega (
      arith,
      value_more ds i (omega arith),
      value_cons d (take i ds),
      ap (λ (x : ℕ). get_or ds i 0 * x) (pow-suc 10 i),
    )

-- a digit that is written
pub value_set : (ds : List ℕ) (i y : ℕ) → i < length ds
    → value_of (take (i + 1) (set ds i y)) ≡ value_of (take i ds) + y * 10 ^ i
value_set ds i y l =
    let next : i + 1 ≡ suc i = omega arith in
    let same : get_or (set ds i y) i 0 ≡ y = get_or-set_same ds i y 0 l in
    ap (λ (x : ℕ). value_of (take x (set ds i y))) next
    ∙ value_more (set ds i y) i (omega (arith, length-set ds i y))
    ∙ (λ j. value_of (take-set ds i y j) + same j * 10 ^ i)

pub digits_set : (ds : List ℕ) (i y : ℕ) → ((k : ℕ) → get_or ds k 0 < 10) → y < 10
    → (k : ℕ) → get_or (set ds i y) k 0 < 10
digits_set ds i y all few k = elim (cases_eq k i) [
  | inl same ↦ elim (cases_lt i (length ds)) [
    | inl l ↦
        let e : get_or (set ds i y) k 0 ≡ y =
        ap (λ (x : ℕ). get_or (set ds i y) x 0) same ∙ get_or-set_same ds i y 0 l in
        omega (arith, e)
    | inr past ↦
        let e : get_or (set ds i y) k 0 ≡ get_or ds k 0 =
        ap (λ (x : List ℕ). get_or x k 0) (set_past ds i y past) in
        omega (arith, e, all k)
  ]
  | inr other ↦ omega (arith, get_or-set_other ds i k y 0 other, all k)
]

-- one turn of a multiplication
pub record IsTimes (old new : List ℕ) (factor i carry : ℕ) : Type 0 where
  pub value : value_of (take i new) + carry * 10 ^ i ≡ factor * value_of (take i old)
  pub rest : drop i new ≡ drop i old
  pub digits : (k : ℕ) → get_or new k 0 < 10
  pub few : carry < factor

pub times_none : (old : List ℕ) (factor : ℕ) → 0 < factor → ((k : ℕ) → get_or old k 0 < 10)
    → IsTimes old old factor 0 0
times_none old factor some digits = record {
  value = ap (λ (x : ℕ). x + 0 * 10 ^ 0) value_nil
      ∙ sym (ap (λ (x : ℕ). factor * x) value_nil ∙ omega arith);
  rest = refl;
  digits = digits;
  few = some;
}

turn : (d f carry all q r P V W : ℕ) → all ≡ d * f + carry → q * 10 + r ≡ all
    → V + carry * P ≡ f * W
    → V + r * P + q * (P * 10) ≡ f * (W + d * P)
turn d f carry all q r P V W e g h =
    omega (arith, ap (λ (x : ℕ). x * P) e, ap (λ (x : ℕ). x * P) g, h)

pub times_one : (old new : List ℕ) (factor i carry : ℕ) → i < length new → length new ≡ length old
    → IsTimes old new factor i carry
    → IsTimes old (set new i ((get_or new i 0 * factor + carry) % 10)) factor (i + 1)
    ((get_or new i 0 * factor + carry) / 10)
times_one old new factor i carry l long is =
    let d = get_or new i 0 in
    let all = d * factor + carry in
    let next : i + 1 ≡ suc i = omega arith in
    let none : i + 0 ≡ i = omega arith in
    let same : get_or old i 0 ≡ d =
    ap (λ (x : ℕ). get_or old x 0) (sym none) ∙ sym (get_or-drop i old 0 0)
    ∙ ap (λ (ds : List ℕ). get_or ds 0 0) (sym is.rest)
    ∙ get_or-drop i new 0 0 ∙ ap (λ (x : ℕ). get_or new x 0) none in
    let tens : 10 ^ (i + 1) ≡ 10 ^ i * 10 = ap (λ (x : ℕ). 10 ^ x) next
    ∙ omega (arith, pow-suc 10 i) in
    let before : value_of (take (i + 1) old) ≡ value_of (take i old) + d * 10 ^ i =
    ap (λ (x : ℕ). value_of (take x old)) next ∙ value_more old i (omega arith)
    ∙ ap (λ (x : ℕ). value_of (take i old) + x * 10 ^ i) same in
    let most : d * factor ≤ 9 * factor = mul-le-mul_right factor (omega (arith, is.digits i)) in
    record {
      value =
          (λ j. value_set new i (all % 10) l j + all / 10 * tens j)
          ∙ turn d factor carry all (all / 10) (all % 10) (10 ^ i) _ (value_of (take i old)) refl
          (omega arith) is.value
          ∙ ap (λ (x : ℕ). factor * x) (sym before);
      rest =
          drop-set-lt (i + 1) new i (all % 10) (omega arith)
          ∙ further new i ∙ ap (drop 1) is.rest ∙ sym (further old i);
      digits = digits_set new i (all % 10) is.digits (omega arith);
      few = omega (arith, most, is.few);
    }
  where
    further : (ds : List ℕ) (i : ℕ) → drop (i + 1) ds ≡ drop 1 (drop i ds)
    further ds i = sym (drop-drop 1 i ds)

pub times_all : (old new : List ℕ) (factor i carry : ℕ) → length old ≤ i → length new ≡ length old
    → IsTimes old new factor i carry
    → i ≤ length old → value_of new + carry * 10 ^ length old ≡ factor * value_of old
times_all old new factor i carry past long is within =
    let end : i ≡ length old = omega arith in
    ap (λ (ds : List ℕ). value_of ds + carry * 10 ^ length old)
    (sym (take_all (length old) new (omega arith)))
    ∙ subst (λ (x : ℕ). value_of (take x new) + carry * 10 ^ x ≡ factor * value_of
    (take x old)) end is.value
    ∙ ap (λ (ds : List ℕ). factor * value_of ds) (take_all (length old) old (omega arith))

pub ruleset turns = (times_none, times_one, times_all)

-- ---- digits before a number

-- so much of a carry is still to be written, at a position
pub record IsCarried (old new : List ℕ) (start carry at left : ℕ) : Type 0 where
  pub value : value_of (take at new) + left * 10 ^ at ≡ value_of
      (take start old) + carry * 10 ^ start
  pub digits : (k : ℕ) → get_or new k 0 < 10
  pub after : start ≤ at
  pub few : at ≤ start + 18
  pub small : left < 10 ^ (start + 18 - at)
  pub none : carry ≡ 0 → (at ≡ start) × (left ≡ 0)
  pub least : start < at → 0 < left ⊎ (10 ^ (at - 1) ≤ value_of (take at new))

pub ten_more : (k : ℕ) → 10 ^ (k + 1) ≡ 10 ^ k * 10
ten_more k = let next : k + 1 ≡ suc k = omega arith in ap (λ (x : ℕ). 10 ^ x) next
    ∙ omega (arith, pow-suc 10 k)

pub carried_none : (old : List ℕ) (start carry : ℕ) → carry < 10 ^ 18
    → ((k : ℕ) → get_or old k 0 < 10)
    → IsCarried old old start carry start carry
carried_none old start carry small digits = record {
  value = refl;
  digits = digits;
  after = omega arith;
  few = omega arith;
  small = let all : start + 18 - start ≡ 18 = omega arith in
      subst (λ (x : ℕ). carry < 10 ^ x) (sym all) small;
  none = λ e. (refl, e);
  least = λ l. absurd (omega arith);
}

pub carried_room : (old new : List ℕ) (start carry at left : ℕ) → 0 < left
    → IsCarried old new start carry at left → at < start + 18
carried_room old new start carry at left some is =
    full (start + 18 - at) left (start + 18) at refl is.small some is.few
  where
    full : (more left top at : ℕ) → top - at ≡ more → left < 10 ^ more → 0 < left → at ≤ top
        → at < top
    full zero left top at e small some few = absurd (omega arith)
    full (suc more) left top at e small some few = omega arith

pub carried_one : (old new : List ℕ) (start carry at left : ℕ) → at < length new → 0 < left
    → IsCarried old new start carry at left
    → IsCarried old (set new at (left % 10)) start carry (at + 1) (left / 10)
carried_one old new start carry at left l some is =
    let room = carried_room old new start carry at left some is in
    let one : start + 18 - at ≡ start + 18 - (at + 1) + 1 = omega arith in
    let small : left < 10 ^ (start + 18 - (at + 1)) * 10 =
    subst (λ (x : ℕ). left < x)
    (ap (λ (x : ℕ). 10 ^ x) one ∙ ten_more (start + 18 - (at + 1))) is.small in
    let written = value_set new at (left % 10) l in
    let tens = ten_more at in
    let parts : left / 10 * 10 + left % 10 ≡ left = omega arith in
    record {
      value =
          (λ j. written j + left / 10 * tens j)
          ∙ (omega (arith, ap (λ (x : ℕ). x * 10 ^ at) parts)
          ∙ is.value);
      digits = digits_set new at (left % 10) is.digits (omega arith);
      after = omega (arith, is.after);
      few = omega arith;
      small = omega arith;
      none = λ e. absurd (omega (arith, (is.none e).1));
      least = λ _. elim (cases_lt 0 (left / 10)) [
        | inl more ↦ inl more
        | inr none ↦
            let same : at + 1 - 1 ≡ at = omega arith in
            let digit : 1 ≤ left % 10 = omega arith in
            let most : 1 * 10 ^ at ≤ left % 10 * 10 ^ at = mul-le-mul_right (10 ^ at) digit in
            inr (subst (λ (x : ℕ). 10 ^ x ≤ value_of (take (at + 1) (set new at (left % 10))))
            (sym same) (omega (arith, written, most)))
      ];
    }

pub carried_all : (old new : List ℕ) (start carry at left : ℕ) → left ≡ 0
    → IsCarried old new start carry at left
    → value_of (take at new) ≡ value_of (take start old) + carry * 10 ^ start
carried_all old new start carry at left e is =
    omega (arith, ap (λ (x : ℕ). x * 10 ^ at) e, is.value)

pub carried_least : (old new : List ℕ) (start carry at left : ℕ) → left ≡ 0 → 0 < carry
    → IsCarried old new start carry at left → 10 ^ (at - 1) ≤ value_of (take at new)
carried_least old new start carry at left e some is = elim (cases_lt start at) [
  | inl more ↦ elim (is.least more) [ inl l ↦ absurd (omega (arith, l, e)) | inr least ↦ least ]
  | inr none ↦
      let same : at ≡ start = omega (arith, none, is.after) in
      let most : 1 * 10 ^ at ≤ carry * 10 ^ at = mul-le-mul_right (10 ^ at) some in
      let tens : 10 ^ (at - 1) ≤ 10 ^ at = pow-le-pow_right (omega arith) (omega arith) in
      omega (
        arith,
        carried_all old new start carry at left e is,
        ap (λ (x : ℕ). carry * 10 ^ x) same,
        most,
        tens,
      )
]

pub carried_digits : (old new : List ℕ) (start carry at left : ℕ)
    → IsCarried old new start carry at left
    → (k : ℕ) → get_or new k 0 < 10
carried_digits old new start carry at left is = is.digits

pub ruleset carries = (carried_all, carried_least, carried_digits, carried_room)

-- ---- a number times a factor

pub value_below : (ds : List ℕ) → ((k : ℕ) → get_or ds k 0 < 10) → value_of ds < 10 ^ length ds
value_below [] digits = omega (arith, value_nil)
value_below (d ∷ ds) digits =
    let first : d < 10 = digits 0 in
    omega (
      arith,
      first,
      value_cons d ds,
      pow-suc 10 (length ds),
      value_below ds (λ k. digits (suc k)),
    )

digits_both : (first second : List ℕ) → ((k : ℕ) → get_or first k 0 < 10)
    → ((k : ℕ) → get_or second k 0 < 10)
    → (k : ℕ) → get_or (first ++ second) k 0 < 10
digits_both [] second f s k = s k
digits_both (d ∷ ds) second f s zero = f 0
digits_both (d ∷ ds) second f s (suc k) = digits_both ds second (λ k. f (suc k)) s k

digits_drop : (n : ℕ) (ds : List ℕ) → ((k : ℕ) → get_or ds k 0 < 10) → (k : ℕ)
    → get_or (drop n ds) k 0 < 10
digits_drop n ds all k = subst (λ (x : ℕ). x < 10) (sym (get_or-drop n ds k 0)) (all (n + k))

pub digits_take : (n : ℕ) (ds : List ℕ) → ((k : ℕ) → get_or ds k 0 < 10) → (k : ℕ)
    → get_or (take n ds) k 0 < 10
digits_take zero ds all k = omega arith
digits_take (suc n) [] all k = omega arith
digits_take (suc n) (d ∷ ds) all zero = all 0
digits_take (suc n) (d ∷ ds) all (suc k) = digits_take n ds (λ k. all (suc k)) k

-- the first digits are others, and the rest is as it was
pub digits_front : (old front whole : List ℕ) (len : ℕ) → ((k : ℕ) → get_or old k 0 < 10)
    → ((k : ℕ) → get_or front k 0 < 10)
    → whole ≡ front ++ drop len old → (k : ℕ) → get_or whole k 0 < 10
digits_front old front whole len all few is k =
    subst (λ (ds : List ℕ). get_or ds k 0 < 10) (sym is)
    (digits_both front (drop len old) few (digits_drop len old all) k)

pub multiplied : (old front whole new : List ℕ) (len factor carry after number : ℕ) → 0 < factor
    → IsBig old len number
    → length front ≡ len → whole ≡ front ++ drop len old
    → value_of front + carry * 10 ^ len ≡ factor * value_of (take len old)
    → value_of (take after new) ≡ value_of (take len whole) + carry * 10 ^ len
    → ((k : ℕ) → get_or new k 0 < 10) → after ≤ length new → (carry ≡ 0 → after ≡ len)
    → (0 < carry → 10 ^ (after - 1) ≤ value_of (take after new)) → IsBig new after (number * factor)
multiplied old front whole new len factor carry after number some is long joined times carried
    digits within none least =
    let kept : take len whole ≡ front = ap (take len) joined
    ∙ take_at front (drop len old) len long in
    let all : value_of (take after new) ≡ number * factor =
    carried ∙ ap (λ (ds : List ℕ). value_of ds + carry * 10 ^ len) kept ∙ times
    ∙ ap (λ (x : ℕ). factor * x) is.value ∙ mul_comm factor number in
    record {
      digits = digits;
      within = within;
      value = all;
      least = λ l. elim (cases_lt 0 carry) [
        | inl more ↦ subst (λ (x : ℕ). 10 ^ (after - 1) ≤ x) all (least more)
        | inr nothing ↦
            let same = none (omega (arith, nothing)) in
            let most : number * 1 ≤ number * factor = mul-le-mul_left number some in
            subst (λ (x : ℕ). 10 ^ (x - 1) ≤ number * factor) (sym same)
            (omega (arith, is.least (omega (arith, l, same)), most))
      ];
    }

pub ruleset products = (digits_take, digits_front, multiplied)

-- ---- a number times a power

pub record IsScaling (old new : List ℕ) (from len base exponent left : ℕ) : Type 0 where
  pub is : IsBig new len (value_of (take len new))
  pub value : value_of (take len new) * base ^ left ≡ value_of (take from old) * base ^ exponent
  pub few : len + 18 * ((left + 24) / 25) ≤ from + 18 * ((exponent + 24) / 25)

pub same_big : (bytes : List ℕ) (len number : ℕ) → IsBig bytes len number
    → IsBig bytes len (value_of (take len bytes))
same_big bytes len number is = subst (IsBig bytes len) (sym is.value) is

pub scaled_one : (old mid new : List ℕ) (from len after base exponent left step : ℕ) → 0 < left
    → step ≤ left → step ≤ 25 → (step < 25 → step ≡ left)
    → IsScaling old mid from len base exponent left
    → IsBig new after (value_of (take len mid) * base ^ step) → after ≤ len + 18
    → IsScaling old new from after base exponent (left - step)
scaled_one old mid new from len after base exponent left step some most few last is big fits =
    let back : step + (left - step) ≡ left = omega (arith, most) in
    record {
      is = same_big new after _ big;
      value =
          ap (λ (x : ℕ). x * base ^ (left - step)) big.value
          ∙ mul_assoc (value_of (take len mid)) (base ^ step) (base ^ (left - step))
          ∙ ap (λ (x : ℕ). value_of (take len mid) * x)
          (sym (pow-add base step (left - step)) ∙ ap (λ (x : ℕ). base ^ x) back)
          ∙ is.value;
      few = elim (cases_lt step 25) [
        | inl l ↦ omega (arith, is.few, fits, some, last l)
        | inr whole ↦ omega (arith, is.few, fits, most, few, whole)
      ];
    }

pub scaled_all : (old new : List ℕ) (from len base exponent left : ℕ) → left ≡ 0
    → IsScaling old new from len base exponent left
    → IsBig new len (value_of (take from old) * base ^ exponent)
scaled_all old new from len base exponent left none is =
    let one : base ^ left ≡ 1 = ap (λ (x : ℕ). base ^ x) none ∙ pow-zero base in
    subst (IsBig new len)
    (omega (arith, ap (λ (x : ℕ). value_of (take len new) * x) one) ∙ is.value)
    is.is

pub power_fits : (base step : ℕ) → 0 < base → base ≤ 5 → step ≤ 25 → (0 < base ^ step)
    × (base ^ step ≤ 2 ^ 59)
power_fits base step some few short =
    let a : base ^ step ≤ 5 ^ step = pow-le-pow_left few step in
    let b : 5 ^ step ≤ 5 ^ 25 = pow-le-pow_right (omega arith) short in
    (power_pos base step some, omega (arith, a, b))
  where
    power_pos : (base step : ℕ) → 0 < base → 0 < base ^ step
    power_pos base zero some = omega (arith, pow-zero base)
    power_pos base (suc step) some =
        subst (λ (x : ℕ). 0 < x) (sym (pow-suc base step)) (mul-pos (power_pos base step some) some)

-- ---- digits by position

pub digit_at : (ds : List ℕ) (k : ℕ) → ((j : ℕ) → get_or ds j 0 < 10)
    → value_of ds / 10 ^ k % 10 ≡ get_or ds k 0
digit_at [] k all = ap (λ (x : ℕ). x / 10 ^ k % 10) value_nil
    ∙ ap (λ (x : ℕ). x % 10) (zero-div (10 ^ k))
digit_at (d ∷ ds) zero all =
    let first : d < 10 = all 0 in
    ap (λ (x : ℕ). x % 10) (div-one (value_of (d ∷ ds))) ∙ omega (arith, first, value_cons d ds)
digit_at (d ∷ ds) (suc k) all =
    let first : d < 10 = all 0 in
    let tens : 10 ^ suc k ≡ 10 * 10 ^ k = omega (arith, pow-suc 10 k) in
    let rest : value_of (d ∷ ds) / 10 ≡ value_of ds = omega (arith, first, value_cons d ds) in
    ap (λ (x : ℕ). value_of (d ∷ ds) / x % 10) tens
    ∙ ap (λ (x : ℕ). x % 10) (sym (div-div-eq-div-mul (value_of (d ∷ ds)) 10 (10 ^ k)))
    ∙ ap (λ (x : ℕ). x / 10 ^ k % 10) rest
    ∙ digit_at ds k (λ j. all (suc j))

pub digit_within : (bytes : List ℕ) (len k : ℕ) → ((j : ℕ) → get_or bytes j 0 < 10) → k < len
    → get_or bytes k 0 ≡ value_of (take len bytes) / 10 ^ k % 10
digit_within bytes len k all l =
    sym (digit_at (take len bytes) k (digits_take len bytes all) ∙ get_or-take len bytes k 0 l)

pub digit_past : (bytes : List ℕ) (len k : ℕ) → ((j : ℕ) → get_or bytes j 0 < 10) → len ≤ k
    → 0 ≡ value_of (take len bytes) / 10 ^ k % 10
digit_past bytes len k all past =
    sym (digit_at (take len bytes) k (digits_take len bytes all)
    ∙ get_or_past (take len bytes) k 0 (omega (arith, length-take len bytes)))

pub ruleset positions = (digit_within, digit_past)

pub put_at : (n i d end : ℕ) (old new : List ℕ) → i < end → end ≤ length old
    → length new ≡ length old
    → d ≡ n / 10 ^ i % 10 → drop (end - i) new ≡ last_digits i n ++ drop end old
    → drop (end - (i + 1)) (set new (end - 1 - i) (48 + d)) ≡ last_digits (i + 1) n ++ drop end old
put_at n i d end old new l within same is written =
    let next : i + 1 ≡ suc i = omega arith in
    let place : end - (i + 1) ≡ end - 1 - i = omega arith in
    let back : end - 1 - i + 1 ≡ end - i = omega (arith, l) in
    ap (λ (x : ℕ). drop x (set new (end - 1 - i) (48 + d))) place
    ∙ drop-set new (end - 1 - i) (48 + d) (omega (arith, l, within, same))
    ∙ ap (λ (x : ℕ). (48 + d) ∷ drop x new) back
    ∙ ap (λ (ds : List ℕ). (48 + d) ∷ ds) written
    ∙ ap (λ (x : ℕ). (48 + x) ∷ (last_digits i n ++ drop end old)) is
    ∙ ap (λ (ds : List ℕ). ds ++ drop end old) (sym (last_more i n))
    ∙ ap (λ (x : ℕ). last_digits x n ++ drop end old) (sym next)

-- the digits before others that were written
pub further : (n from i : ℕ) → n / 10 ^ (from + i) % 10 ≡ n / 10 ^ from / 10 ^ i % 10
further n from i =
    ap (λ (x : ℕ). n / x % 10) (pow-add 10 from i)
    ∙ ap (λ (x : ℕ). x % 10) (sym (div-div-eq-div-mul n (10 ^ from) (10 ^ i)))

pub scaled_none : (old : List ℕ) (len base exponent : ℕ) → IsBig old len (value_of (take len old))
    → IsScaling old old len len base exponent exponent
scaled_none old len base exponent is = record { is = is; value = refl; few = omega arith }

pub ruleset scales = (scaled_none, same_big, scaled_one, scaled_all, power_fits)
