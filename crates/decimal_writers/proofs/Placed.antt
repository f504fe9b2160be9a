-- Numbers with a fixed number of places.
use Rattle.std.proofs.Common.{◌≡◌, ℕ, ℤ, zero, suc, ◌+◌, ◌-◌, ◌*◌, ◌/◌, ◌%◌, ◌^◌, ◌<◌, ◌≤◌, Bool, true, List, [], ◌∷◌, ◌++◌, length, take, drop, get_or, refl, sym, ap, subst, ◌∙◌, inl, inr, arith, lit<, replicate, append_assoc, append-nil, length-append}
use Rattle.std.specs.Prelude.{pos, neg_ℤ, max, nat_lt}
use Rattle.std.specs.Float.{Float, nan, inf, fin}
use Rattle.std.specs.Float.Ieee.{up, down}
use Rattle.std.specs.Fmt.{sign_text}
use Rattle.std.proofs.Math.Nat.{div-one, pow-le-pow_right}
use Rattle.std.proofs.lemmas.Bool.{cases_lt}
use Rattle.std.proofs.lemmas.Bool.Decides.{nat_tests}
use native.Mathlib.Nat.{pow-suc, mul_assoc, mul_comm, mul-one, mul_right_comm, eq_of_mul-eq-mul_right, add-mul-div_right, mul-div_cancel, div-div-eq-div-mul}
use lib.Pow.{pow-add, pow_pos}
use lib.Ieee.Exact.{HasValue}
use lib.Ieee.Fits.{down_pos}
use lib.Ieee.Nearest.{closest, closest_same}
use mir.Val.{bool_byte}
use Rattle.decimal_writers.specs.Big.{value_of, IsBig}
use Rattle.decimal_writers.specs.Fixed.{fixed_text, point_of}
use Rattle.decimal_writers.specs.Places.{IsPlaces, places_text}
use Rattle.decimal_writers.specs.declared.places.Places.{Places}
use Rattle.decimal_writers.specs.Text.{number_text, last_digits, with_point, places_of, units_of, plain_text}
use Rattle.decimal_writers.proofs.Numerals.{ten_pos, counted, few_digits, number_one, length-last, last_none, last_step, last_split}
use Rattle.decimal_writers.proofs.Points.{shifted}
use Rattle.decimal_writers.proofs.Rounding.{closest_whole, front_below}

-- ---- how many digits

big_count : (bytes : List ℕ) (len : ℕ) → IsBig bytes len (value_of (take len bytes))
    → (0 < value_of (take len bytes) → length (number_text (value_of (take len bytes))) ≡ len)
    × (value_of (take len bytes) ≡ 0 → len ≡ 0)
big_count bytes len is =
    let n = value_of (take len bytes) in
    let below : n < 10 ^ len = front_below bytes len is.digits in
    let count = length (number_text n) in
    let c = counted n in (
      λ some. elim (cases_lt 0 len) [
        | inr none ↦
            let same : len ≡ 0 = omega (arith, none) in
            absurd (omega (arith, some, subst (λ (x : ℕ). n < 10 ^ x) same below))
        | inl more ↦
            let most = few_digits n len more below in
            elim (cases_lt count len) [
              | inr all ↦ omega (arith, most, all)
              | inl fewer ↦
                  let tens : 10 ^ count ≤ 10 ^ (len - 1) =
                  pow-le-pow_right (omega arith) (omega (arith, fewer)) in
                  absurd (omega (arith, tens, c.below, is.least more))
            ]
      ],
      λ none. elim (cases_lt 0 len) [
        | inr nothing ↦ omega (arith, nothing)
        | inl more ↦ absurd (omega (arith, is.least more, none, ten_pos (len - 1)))
      ],
    )

pub whole_count : (bytes : List ℕ) (len k : ℕ) → IsBig bytes len (value_of (take len bytes))
    → length (number_text (value_of (take len bytes) / 10 ^ k)) ≡ max (len - k) 1
whole_count bytes len k is =
    let n = value_of (take len bytes) in
    let both = big_count bytes len is in
    shifted n k ∙ elim (cases_lt 0 n) [
      | inl some ↦ ap (λ (x : ℕ). max (x - k) 1) (both.0 some)
      | inr none ↦
          let zero_is : n ≡ 0 = omega (arith, none) in
          let one : length (number_text n) ≡ 1 = number_one n (omega (arith, zero_is)) in
          omega (arith, both.1 zero_is, one)
    ]

-- ---- the digits after the point

tens_last : (zeros n : ℕ) → last_digits zeros (n * 10 ^ zeros) ≡ last_digits zeros 0
tens_last zero n = last_none (n * 10 ^ 0) ∙ sym (last_none 0)
tens_last (suc zeros) n =
    let tens : n * 10 ^ suc zeros ≡ n * 10 ^ zeros * 10 =
    ap (λ (x : ℕ). n * x) (pow-suc 10 zeros) ∙ sym (mul_assoc n (10 ^ zeros) 10) in
    let front : n * 10 ^ zeros * 10 / 10 ≡ n * 10 ^ zeros = omega arith in
    let digit : n * 10 ^ zeros * 10 % 10 ≡ 0 = omega arith in
    ap (last_digits (suc zeros)) tens ∙ last_step zeros (n * 10 ^ zeros * 10)
    ∙ (λ i. last_digits zeros (front i) ++ (48 + digit i) ∷ [])
    ∙ ap (λ (ds : List ℕ). ds ++ 48 ∷ []) (tens_last zeros n)
    ∙ sym (last_step zeros 0)

pub point_long : (places : ℕ) → length (point_of places) ≡ bool_byte (nat_lt 0 places)
point_long zero = refl
point_long (suc more) = let yes : nat_lt 0 (suc more) ≡ true = grind (arith, nat_tests) in
    ap bool_byte (sym yes)

module _ (n dropped fraction zeros : ℕ) where
  abbrev rest : ℕ
  rest = n / 10 ^ dropped

  whole_is : rest * 10 ^ zeros / 10 ^ (fraction + zeros) ≡ n / 10 ^ (dropped + fraction)
  whole_is =
      let sum : fraction + zeros ≡ zeros + fraction = omega arith in
      ap (λ (x : ℕ). rest * 10 ^ zeros / x) (ap (λ (x : ℕ). 10 ^ x) sum ∙ pow-add 10 zeros fraction)
      ∙ sym (div-div-eq-div-mul (rest * 10 ^ zeros) (10 ^ zeros) (10 ^ fraction))
      ∙ ap (λ (x : ℕ). x / 10 ^ fraction) (mul-div_cancel rest (ten_pos zeros))
      ∙ div-div-eq-div-mul n (10 ^ dropped) (10 ^ fraction)
      ∙ ap (λ (x : ℕ). n / x) (sym (pow-add 10 dropped fraction))

  last_is : last_digits (fraction + zeros) (rest * 10 ^ zeros)
      ≡ last_digits fraction rest ++ last_digits zeros 0
  last_is =
      last_split fraction zeros (rest * 10 ^ zeros)
      ∙ (λ i. last_digits fraction
      (mul-div_cancel rest (ten_pos zeros) i) ++ tens_last zeros rest i)

  abbrev pub body : List ℕ
  body =
      number_text (n / 10 ^ (dropped + fraction))
      ++ (point_of (fraction + zeros) ++ (last_digits fraction rest ++ last_digits zeros 0))

  pub body_is : with_point (fraction + zeros) (rest * 10 ^ zeros) ≡ body
  body_is = go (fraction + zeros) refl
    where
      go : (places : ℕ) → fraction + zeros ≡ places
          → with_point places (rest * 10 ^ zeros)
          ≡ number_text
          (n / 10 ^ (dropped + fraction))
          ++ (point_of places ++ (last_digits fraction rest ++ last_digits zeros 0))
      go zero e =
          let number : rest * 10 ^ zeros ≡ n / 10 ^ (dropped + fraction) =
          sym (ap (λ (x : ℕ). rest * 10 ^ zeros / 10 ^ x) e ∙ div-one (rest * 10 ^ zeros))
          ∙ whole_is in
          let no_fraction : fraction ≡ 0 = omega arith in
          let no_zeros : zeros ≡ 0 = omega arith in
          let nothing : last_digits fraction rest ++ last_digits zeros 0 ≡ [] =
          (λ i. last_digits (no_fraction i) rest ++ last_digits (no_zeros i) 0)
          ∙ (λ i. last_none rest i ++ last_none 0 i) in
          ap number_text number ∙ sym (append-nil (number_text (n / 10 ^ (dropped + fraction))))
          ∙ ap (λ (ds : List ℕ). number_text (n / 10 ^ (dropped + fraction)) ++ ds) (sym nothing)
      go (suc more) e =
          (λ i. number_text (ap (λ (x : ℕ). rest * 10 ^ zeros / 10 ^ x) (sym e) i) ++ 46 ∷ ap
          (λ (x : ℕ). last_digits x (rest * 10 ^ zeros)) (sym e) i)
          ∙ (λ i. number_text (whole_is i) ++ 46 ∷ last_is i)

  pub body_long : (whole : ℕ) → length (number_text (n / 10 ^ (dropped + fraction))) ≡ whole
      → length body ≡ whole + bool_byte (nat_lt 0 (fraction + zeros)) + (fraction + zeros)
  body_long whole is =
      let a = length-append (number_text (n / 10 ^ (dropped + fraction)))
      (point_of (fraction + zeros) ++ (last_digits fraction rest ++ last_digits zeros 0)) in
      let b = length-append (point_of (fraction + zeros))
      (last_digits fraction rest ++ last_digits zeros 0) in
      let c = length-append (last_digits fraction rest) (last_digits zeros 0) in
      omega (
        arith,
        a,
        b,
        c,
        is,
        point_long (fraction + zeros),
        length-last fraction rest,
        length-last zeros 0,
      )

  pub text_long : (whole : ℕ) → length (number_text (n / 10 ^ (dropped + fraction))) ≡ whole
      → length (with_point (fraction + zeros) (rest * 10 ^ zeros))
      ≡ whole + bool_byte (nat_lt 0 (fraction + zeros)) + (fraction + zeros)
  text_long whole is = ap length body_is ∙ body_long whole is

  pub text_put : (whole point end : ℕ) (one two three four old : List ℕ)
      → length (number_text (n / 10 ^ (dropped + fraction))) ≡ whole
      → drop (end - zeros) one ≡ last_digits zeros 0 ++ drop end old
      → drop (end - zeros - fraction) two ≡ last_digits fraction rest ++ drop (end - zeros) one
      → drop point three ≡ point_of (fraction + zeros) ++ drop (end - (fraction + zeros)) two
      → drop (point - whole) four ≡ last_digits whole
      (n / 10 ^ (dropped + fraction)) ++ drop point three
      → drop (point - whole) four
      ≡ with_point (fraction + zeros) (rest * 10 ^ zeros) ++ drop end old
  text_put whole point end one two three four old count is_zeros is_fraction is_point is_whole =
      let place : end - (fraction + zeros) ≡ end - zeros - fraction = omega arith in
      let numerals : last_digits whole (n / 10 ^ (dropped + fraction)) ≡ number_text
      (n / 10 ^ (dropped + fraction)) =
      ap (λ (x : ℕ). last_digits x (n / 10 ^ (dropped + fraction))) (sym count)
      ∙ sym (counted (n / 10 ^ (dropped + fraction))).same in
      is_whole
      ∙ (λ i. numerals i ++ is_point i)
      ∙ ap (λ (x : ℕ). number_text
      (n / 10 ^ (dropped + fraction)) ++ (point_of (fraction + zeros) ++ drop x two)) place
      ∙ ap (λ (ds : List ℕ). number_text
      (n / 10 ^ (dropped + fraction)) ++ (point_of (fraction + zeros) ++ ds))
      (is_fraction ∙ ap (λ (ds : List ℕ). last_digits fraction rest ++ ds) is_zeros
      ∙ sym (append_assoc (last_digits fraction rest) (last_digits zeros 0) (drop end old)))
      ∙ ap (λ (ds : List ℕ). number_text (n / 10 ^ (dropped + fraction)) ++ ds)
      (sym (append_assoc (point_of (fraction + zeros))
      (last_digits fraction rest ++ last_digits zeros 0) (drop end old)))
      ∙ sym (append_assoc (number_text (n / 10 ^ (dropped + fraction)))
      (point_of (fraction + zeros) ++ (last_digits fraction rest ++ last_digits zeros 0))
      (drop end old))
      ∙ ap (λ (ds : List ℕ). ds ++ drop end old) (sym body_is)

pub places_long : (bytes : List ℕ) (p : Places) → IsPlaces bytes p
    → length (places_text bytes p)
    ≡ p.whole + bool_byte (nat_lt 0 (p.fraction + p.zeros)) + (p.fraction + p.zeros)
places_long bytes p is =
    text_long (value_of (take p.len bytes)) p.dropped p.fraction p.zeros p.whole is.whole

-- ---- rounded off

pub carried_up : (number dropped : ℕ)
    → (number + 10 ^ dropped) / 10 ^ dropped ≡ number / 10 ^ dropped + 1
carried_up number dropped =
    let one : 10 ^ dropped ≡ 1 * 10 ^ dropped = omega arith in
    ap (λ (x : ℕ). (number + x) / 10 ^ dropped) one ∙ add-mul-div_right number 1 (ten_pos dropped)

-- ---- the float

module _ (q value places wanted t : ℕ) (same : q * 10 ^ places ≡ value * t) (some : 0 < t) where
  pub fixed_is : (x : Float) (negative : Bool) → HasValue x negative q t
      → fixed_text x wanted ≡ sign_text negative ++ with_point wanted
      (closest (value * 10 ^ wanted) (10 ^ places))
  fixed_is nan negative has = absurd has
  fixed_is (inf s) negative has = absurd has
  fixed_is (fin s m e) negative has =
      let u = m * up e in
      let d = down e in
      let scaled : u * 10 ^ places * t ≡ value * d * t =
      swap u (10 ^ places) t ∙ ap (λ (y : ℕ). y * 10 ^ places) has.1 ∙ swap q d (10 ^ places)
      ∙ ap (λ (y : ℕ). y * d) same ∙ swap value t d in
      let equal : u * 10 ^ places ≡ value * d =
      eq_of_mul-eq-mul_right t some (u * 10 ^ places) (value * d) scaled in
      let cross : u * 10 ^ wanted * 10 ^ places ≡ value * 10 ^ wanted * d =
      swap u (10 ^ wanted) (10 ^ places) ∙ ap (λ (y : ℕ). y * 10 ^ wanted) equal
      ∙ swap value d (10 ^ wanted) in
      (λ i. sign_text (has.0 i) ++ with_point wanted
      (closest_same (u * 10 ^ wanted) d (value * 10 ^ wanted) (10 ^ places) (down_pos e)
      (ten_pos places) cross i))
    where
      swap : (a b c : ℕ) → a * b * c ≡ a * c * b
      swap a b c = omega arith

-- with places enough the number is exact
pub fixed_more : (value places wanted : ℕ) → places ≤ wanted
    → closest (value * 10 ^ wanted) (10 ^ places) ≡ value / 10 ^ 0 * 10 ^ (wanted - places)
fixed_more value places wanted l =
    let sum : places + (wanted - places) ≡ wanted = omega (arith, l) in
    let tens : 10 ^ wanted ≡ 10 ^ (wanted - places) * 10 ^ places =
    ap (λ (x : ℕ). 10 ^ x) (sym sum) ∙ pow-add 10 places (wanted - places)
    ∙ mul_comm (10 ^ places) (10 ^ (wanted - places)) in
    let cross : value * 10 ^ wanted * 1 ≡ value * 10 ^ (wanted - places) * 10 ^ places =
    mul-one (value * 10 ^ wanted) ∙ ap (λ (x : ℕ). value * x) tens
    ∙ sym (mul_assoc value (10 ^ (wanted - places)) (10 ^ places)) in
    closest_same (value * 10 ^ wanted) (10 ^ places) (value * 10 ^ (wanted - places)) 1
    (ten_pos places) (omega arith) cross
    ∙ closest_whole (value * 10 ^ (wanted - places))
    ∙ ap (λ (x : ℕ). x * 10 ^ (wanted - places)) (sym (div-one value))

-- and else rounded
pub fixed_fewer : (value places wanted : ℕ) → wanted ≤ places
    → closest (value * 10 ^ wanted) (10 ^ places) ≡ closest value (10 ^ (places - wanted))
fixed_fewer value places wanted l =
    let sum : wanted + (places - wanted) ≡ places = omega (arith, l) in
    let tens : 10 ^ wanted * 10 ^ (places - wanted) ≡ 10 ^ places =
    sym (pow-add 10 wanted (places - wanted)) ∙ ap (λ (x : ℕ). 10 ^ x) sum in
    closest_same (value * 10 ^ wanted) (10 ^ places) value (10 ^ (places - wanted)) (ten_pos places)
    (ten_pos (places - wanted))
    (mul_assoc value (10 ^ wanted) (10 ^ (places - wanted)) ∙ ap (λ (x : ℕ). value * x) tens)

pub zeros_are : (n k : ℕ) → get_or (replicate n 0) k 0 < 10
zeros_are zero k = omega arith
zeros_are (suc n) zero = omega arith
zeros_are (suc n) (suc k) = zeros_are n k

pub least_some : 0 < 2 ^ 1074
least_some = lit< tt

-- ---- in units of the last place, by an integer

quick_same : (x : Float) (negative : Bool) (significand shift places : ℕ)
    → HasValue x negative (significand * 2 ^ shift) (2 ^ 1074) → shift ≤ 1074
    → fixed_text x places
    ≡ sign_text negative ++ with_point places
    (closest (significand * 10 ^ places) (2 ^ (1074 - shift)))
quick_same nan negative significand shift places has low = absurd has
quick_same (inf s) negative significand shift places has low = absurd has
quick_same (fin s m e) negative significand shift places has low =
    let u = m * up e in
    let d = down e in
    let back : 1074 - shift + shift ≡ 1074 = omega (arith, low) in
    let twos : 2 ^ (1074 - shift) * 2 ^ shift ≡ 2 ^ 1074 = sym (pow-add 2 (1074 - shift) shift)
    ∙ ap (λ (y : ℕ). 2 ^ y) back in
    let scaled : u * 2 ^ (1074 - shift) * 2 ^ shift ≡ significand * d * 2 ^ shift =
    mul_assoc u (2 ^ (1074 - shift)) (2 ^ shift) ∙ ap (λ (y : ℕ). u * y) twos ∙ has.1
    ∙ mul_right_comm significand (2 ^ shift) d in
    let equal : u * 2 ^ (1074 - shift) ≡ significand * d =
    eq_of_mul-eq-mul_right (2 ^ shift) (pow_pos shift) (u * 2 ^ (1074 - shift))
    (significand * d) scaled in
    let cross : u * 10 ^ places * 2 ^ (1074 - shift) ≡ significand * 10 ^ places * d =
    mul_right_comm u (10 ^ places) (2 ^ (1074 - shift)) ∙ ap (λ (y : ℕ). y * 10 ^ places) equal
    ∙ mul_right_comm significand d (10 ^ places) in
    (λ i. sign_text (has.0 i) ++ with_point places
    (closest_same (u * 10 ^ places) d (significand * 10 ^ places) (2 ^ (1074 - shift))
    (down_pos e) (pow_pos (1074 - shift)) cross i))

minus_places : (places units : ℕ)
    → with_point places units ≡ with_point (places_of (neg_ℤ (pos places)))
    (units_of units (neg_ℤ (pos places)))
minus_places zero units = ap number_text (omega arith)
minus_places (suc n) units = let next : suc n ≡ n + 1 = omega arith in
    ap (λ (y : ℕ). with_point y units) next

pub quick_text : (x : Float) (negative : Bool) (significand shift places units : ℕ) (power : ℤ)
    → HasValue x negative (significand * 2 ^ shift) (2 ^ 1074) → shift ≤ 1074
    → units ≡ closest (significand * 10 ^ places) (2 ^ (1074 - shift)) → power ≡ neg_ℤ (pos places)
    → fixed_text x places ≡ plain_text negative units power
quick_text x negative significand shift places units power has low is down =
    quick_same x negative significand shift places has low
    ∙ ap (λ (y : ℕ). sign_text negative ++ with_point places y) (sym is)
    ∙ ap (λ (ds : List ℕ). sign_text negative ++ ds) (minus_places places units)
    ∙ ap (λ (z : ℤ). plain_text negative units z) (sym down)
