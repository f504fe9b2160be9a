-- Digits that are rounded off.
use Rattle.std.proofs.Common.{◌≡◌, ◌≢◌, ℕ, zero, suc, ◌+◌, ◌-◌, ◌*◌, ◌/◌, ◌%◌, ◌^◌, ◌<◌, ◌≤◌, List, [], ◌∷◌, length, take, drop, set, get_or, refl, sym, ap, subst, ◌∙◌, arith}
use Prim.Native.Nat.{compare, Ordering}
use native.Mathlib.Omega.{compare-eq, compare-gt, compare-lt}
use Rattle.std.specs.Float.Ieee.{nearest}
use Rattle.std.proofs.Math.Nat.{div-one, mul-le-mul_right, pow-le-pow_right}
use Rattle.std.proofs.lemmas.List.{length-take, length-set, get_or-take, take_all, take-take}
use native.Mathlib.Nat.{mod-eq_of_lt, add-mul-mod_self_right, pow-suc}
use lib.Ieee.Nearest.{closest}
use Rattle.decimal_writers.specs.Big.{value_of, IsBig}
use Rattle.decimal_writers.proofs.Numerals.{ten_pos}
use Rattle.decimal_writers.proofs.Bigs.{value_nil, value_cons, value_more, value_set, digits_set, digits_take, value_below, ten_more}

-- ---- which side of a half

is_below : (a b : ℕ) → a < b → compare a b ≡ Ordering.lt
is_below a b l = go (compare a b) refl
  where
    go : (o : Ordering) → compare a b ≡ o → o ≡ Ordering.lt
    go Ordering.lt e = refl
    go Ordering.eq e = absurd (omega (arith, compare-eq a b e, l))
    go Ordering.gt e = absurd (omega (arith, compare-gt a b e, l))

is_same : (a b : ℕ) → a ≡ b → compare a b ≡ Ordering.eq
is_same a b same = go (compare a b) refl
  where
    go : (o : Ordering) → compare a b ≡ o → o ≡ Ordering.eq
    go Ordering.lt e = absurd (omega (arith, compare-lt a b e, same))
    go Ordering.eq e = refl
    go Ordering.gt e = absurd (omega (arith, compare-gt a b e, same))

is_above : (a b : ℕ) → b < a → compare a b ≡ Ordering.gt
is_above a b l = go (compare a b) refl
  where
    go : (o : Ordering) → compare a b ≡ o → o ≡ Ordering.gt
    go Ordering.lt e = absurd (omega (arith, compare-lt a b e, l))
    go Ordering.eq e = absurd (omega (arith, compare-eq a b e, l))
    go Ordering.gt e = refl

pub closest_down : (a b : ℕ) → a % b * 2 < b → closest a b ≡ a / b + 0
closest_down a b l = ap (nearest (a / b)) (is_below (a % b * 2) b l) ∙ omega arith

pub closest_up : (a b : ℕ) → b < a % b * 2 → closest a b ≡ a / b + 1
closest_up a b l = ap (nearest (a / b)) (is_above (a % b * 2) b l) ∙ omega arith

pub closest_even : (a b : ℕ) → a % b * 2 ≡ b → closest a b ≡ a / b + a / b % 2
closest_even a b e = ap (nearest (a / b)) (is_same (a % b * 2) b e)

pub closest_whole : (a : ℕ) → closest a 1 ≡ a
closest_whole a =
    let none : a % 1 ≡ 0 = omega arith in
    closest_down a 1 (omega (arith, none)) ∙ omega (arith, div-one a)

-- ---- the digits that are left and the others

value_split : (ds : List ℕ) (i : ℕ)
    → value_of ds ≡ value_of (take i ds) + value_of (drop i ds) * 10 ^ i
value_split ds zero = omega (arith, value_nil)
value_split [] (suc i) = omega (arith, value_nil, ap (λ (x : ℕ). x * 10 ^ suc i) value_nil)
value_split (d ∷ ds) (suc i) =
    omega (
      arith,
      value_cons d ds,
      value_cons d (take i ds),
      value_split ds i,
      ap (λ (x : ℕ). value_of (drop i ds) * x) (pow-suc 10 i),
    )

pub front_below : (ds : List ℕ) (i : ℕ) → ((k : ℕ) → get_or ds k 0 < 10)
    → value_of (take i ds) < 10 ^ i
front_below ds i all =
    let below = value_below (take i ds) (digits_take i ds all) in
    let tens : 10 ^ length (take i ds) ≤ 10 ^ i =
    pow-le-pow_right (omega arith) (omega (arith, length-take i ds)) in
    omega (arith, below, tens)

rest_of : (ds : List ℕ) (i : ℕ) → ((k : ℕ) → get_or ds k 0 < 10)
    → value_of ds % 10 ^ i ≡ value_of (take i ds)
rest_of ds i all =
    ap (λ (x : ℕ). x % 10 ^ i) (value_split ds i)
    ∙ add-mul-mod_self_right (value_of (take i ds)) (value_of (drop i ds)) (10 ^ i)
    ∙ mod-eq_of_lt (front_below ds i all)

-- what is rounded off: its first digit, and what is below it
pub record IsDropped (number dropped first low : ℕ) : Type 0 where
  pub rest : number % 10 ^ dropped ≡ low + first * 10 ^ (dropped - 1)
  pub tens : 10 ^ dropped ≡ 10 ^ (dropped - 1) * 10
  pub small : low < 10 ^ (dropped - 1)

pub dropped_is : (bytes : List ℕ) (len dropped : ℕ) → ((k : ℕ) → get_or bytes k 0 < 10)
    → len ≤ length bytes
    → 0 < dropped → dropped ≤ len
    → IsDropped (value_of (take len bytes)) dropped (get_or bytes (dropped - 1) 0)
    (value_of (take (dropped - 1) bytes))
dropped_is bytes len zero all within some few = absurd (omega arith)
dropped_is bytes len (suc d) all within some few =
    let ds = take len bytes in
    let long : length ds ≡ len = omega (arith, length-take len bytes, within) in
    let back : suc d - 1 ≡ d = omega arith in
    let front : take d ds ≡ take d bytes = take-take d len bytes (omega arith) in
    let first : get_or ds d 0 ≡ get_or bytes d 0 = get_or-take len bytes d 0 (omega arith) in
    subst (λ (x : ℕ). IsDropped (value_of ds) (suc d) (get_or bytes x 0) (value_of (take x bytes)))
    (sym back)
    record {
      rest =
          rest_of ds (suc d) (digits_take len bytes all) ∙ value_more ds d (omega (arith, long))
          ∙ (λ i. value_of (front i) + first i * 10 ^ back_of d i);
      tens = omega (arith, pow-suc 10 d, ap (λ (x : ℕ). 10 ^ x) back);
      small = subst (λ (x : ℕ). value_of (take d bytes) < 10 ^ x) (sym back)
          (front_below bytes d all);
    }
  where
    back_of : (d : ℕ) → d ≡ suc d - 1
    back_of d = omega arith

module _ (number dropped first low : ℕ) (is : IsDropped number dropped first low) where
  pub goes_down : first < 5 → closest number (10 ^ dropped) ≡ number / 10 ^ dropped + 0
  goes_down few =
      let most : first * 10 ^ (dropped - 1) ≤ 4 * 10 ^ (dropped - 1) =
      mul-le-mul_right (10 ^ (dropped - 1)) (omega arith) in
      closest_down number (10 ^ dropped) (omega (arith, is.rest, is.tens, is.small, most))

  pub goes_up : 5 < first → closest number (10 ^ dropped) ≡ number / 10 ^ dropped + 1
  goes_up many =
      let least : 6 * 10 ^ (dropped - 1) ≤ first * 10 ^ (dropped - 1) =
      mul-le-mul_right (10 ^ (dropped - 1)) many in
      closest_up number (10 ^ dropped)
      (omega (arith, is.rest, is.tens, least, ten_pos (dropped - 1)))

  pub goes_over : first ≡ 5 → 0 < low → closest number (10 ^ dropped) ≡ number / 10 ^ dropped + 1
  goes_over five some =
      let half = ap (λ (x : ℕ). x * 10 ^ (dropped - 1)) five in
      closest_up number (10 ^ dropped) (omega (arith, is.rest, is.tens, half, some))

  pub goes_even : first ≡ 5 → low ≡ 0
      → closest number (10 ^ dropped) ≡ number / 10 ^ dropped + number / 10 ^ dropped % 2
  goes_even five none =
      let half = ap (λ (x : ℕ). x * 10 ^ (dropped - 1)) five in
      closest_even number (10 ^ dropped) (omega (arith, is.rest, is.tens, half, none))

pub drops_none : (number : ℕ) → closest number (10 ^ 0) ≡ number / 10 ^ 0 + 0
drops_none number = closest_whole number ∙ omega (arith, div-one number)

pub drops_all : (bytes : List ℕ) (len dropped : ℕ) → ((k : ℕ) → get_or bytes k 0 < 10)
    → len < dropped
    → closest (value_of (take len bytes)) (10 ^ dropped) ≡ value_of
    (take len bytes) / 10 ^ dropped + 0
drops_all bytes len zero all few = absurd (omega arith)
drops_all bytes len (suc d) all few =
    let number = value_of (take len bytes) in
    let below : number < 10 ^ len = front_below bytes len all in
    let tens : 10 ^ len ≤ 10 ^ d = pow-le-pow_right (omega arith) (omega arith) in
    let small : number * 2 < 10 ^ suc d = omega (arith, below, tens, pow-suc 10 d) in
    let same : number % 10 ^ suc d ≡ number = mod-eq_of_lt (omega arith) in
    closest_down number (10 ^ suc d) (omega (arith, same, small))

-- ---- one more

value_change : (ds : List ℕ) (i y len : ℕ) → i < len → len ≤ length ds
    → value_of (take len (set ds i y)) + get_or ds i 0 * 10 ^ i ≡ value_of
    (take len ds) + y * 10 ^ i
value_change ds i y zero l within = absurd (omega arith)
value_change [] i y (suc len) l within = absurd (omega arith)
value_change (d ∷ ds) zero y (suc len) l within =
    omega (arith, value_cons y (take len ds), value_cons d (take len ds))
value_change (d ∷ ds) (suc i) y (suc len) l within =
    omega (
      arith,
      value_cons d (take len (set ds i y)),
      value_cons d (take len ds),
      value_change ds i y len (omega arith) (omega arith),
      ap (λ (x : ℕ). get_or ds i 0 * x) (pow-suc 10 i),
      ap (λ (x : ℕ). y * x) (pow-suc 10 i),
    )

pub record IsAdding (old new : List ℕ) (len place at : ℕ) : Type 0 where
  pub value : value_of (take len new) + 10 ^ at ≡ value_of (take len old) + 10 ^ place
  pub digits : (k : ℕ) → get_or new k 0 < 10
  pub after : place ≤ at
  pub within : at ≤ len

pub added_none : (old : List ℕ) (len place : ℕ) → ((k : ℕ) → get_or old k 0 < 10) → place ≤ len
    → IsAdding old old len place place
added_none old len place digits l =
    record { value = refl; digits = digits; after = omega arith; within = l }

pub added_nine : (old new : List ℕ) (len place at : ℕ) → at < len → len ≤ length new
    → get_or new at 0 ≡ 9
    → IsAdding old new len place at → IsAdding old (set new at 0) len place (at + 1)
added_nine old new len place at l within nine is = record {
  value = omega (
    arith,
    value_change new at 0 len l within,
    ap (λ (x : ℕ). x * 10 ^ at) nine,
    ten_more at,
    is.value,
  );
  digits = digits_set new at 0 is.digits (omega arith);
  after = omega (arith, is.after);
  within = omega arith;
}

pub added_here : (old new : List ℕ) (len place at number : ℕ) → at < len → len ≤ length new
    → get_or new at 0 ≢ 9
    → IsAdding old new len place at → IsBig old len number
    → IsBig (set new at (get_or new at 0 + 1)) len (number + 10 ^ place)
added_here old new len place at number l within other is big =
    record {
      digits = digits_set new at (get_or new at 0 + 1) is.digits
          (omega (arith, is.digits at, other));
      within = omega (arith, length-set new at (get_or new at 0 + 1), within);
      value = omega (
        arith,
        value_change new at (get_or new at 0 + 1) len l within,
        is.value,
        big.value,
      );
      least = λ some. omega (arith, big.least some);
    }

pub added_before : (old new : List ℕ) (len place at number : ℕ) → len ≤ at → len < length new
    → IsAdding old new len place at → IsBig old len number
    → IsBig (set new len 1) (len + 1) (number + 10 ^ place)
added_before old new len place at number past room is big =
    let same : at ≡ len = omega (arith, past, is.within) in
    let back : len + 1 - 1 ≡ len = omega arith in
    let value : value_of (take (len + 1) (set new len 1)) ≡ number + 10 ^ place =
    omega (arith, value_set new len 1 room, is.value, ap (λ (x : ℕ). 10 ^ x) same, big.value) in
    record {
      digits = digits_set new len 1 is.digits (omega arith);
      within = omega (arith, length-set new len 1, room);
      value = value;
      least = λ _. subst (λ (x : ℕ). 10 ^ x ≤ number + 10 ^ place) (sym back)
          (omega (arith, value, value_set new len 1 room));
    }

-- ---- zeros

pub zeros_more : (ds : List ℕ) (i : ℕ) → i < length ds → get_or ds i 0 ≡ 0
    → value_of (take i ds) ≡ 0 → value_of (take (i + 1) ds) ≡ 0
zeros_more ds i l digit none =
    let next : i + 1 ≡ suc i = omega arith in
    ap (λ (x : ℕ). value_of (take x ds)) next
    ∙ omega (arith, value_more ds i l, ap (λ (x : ℕ). x * 10 ^ i) digit, none)

pub zeros_not : (ds : List ℕ) (i : ℕ) → i < length ds → get_or ds i 0 ≢ 0 → 0 < value_of ds
zeros_not ds i l digit =
    let least : 1 * 10 ^ i ≤ get_or ds i 0 * 10 ^ i =
    mul-le-mul_right (10 ^ i) (omega (arith, digit)) in
    omega (arith, value_split ds (suc i), value_more ds i l, least, ten_pos i)

pub ruleset tests = (zeros_more, zeros_not, take_all)

pub ruleset rounds = (dropped_is, goes_down, goes_up, goes_over, goes_even, drops_none, drops_all)

pub ruleset adds = (added_none, added_nine, added_here, added_before)
