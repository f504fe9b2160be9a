-- The significant digits of a list, of which some were read before, and what digits are worth.
use Rattle.std.proofs.Common.{◌≡◌, ℕ, zero, suc, ◌+◌, ◌-◌, ◌*◌, ◌^◌, ◌<◌, ◌≤◌, min, false, eqb, if◌then◌else◌, List, [], ◌∷◌, ◌++◌, length, take, refl, arith, one-add, length-append}
use Rattle.std.specs.Char.{digit_value}
use Rattle.std.specs.Str.Parse.{AllDigits, digits_value, digits_value_after}
use Rattle.std.proofs.Math.Nat.{pow-zero, pow-suc, one-le-pow, pow-le-pow_right, mul-le-mul_left, mul-le-mul_right}
use Rattle.std.proofs.lemmas.List.{take_all, take_min}
use Rattle.lexical_digits.specs.Laws.Terms.{nat_tests}
use Rattle.digit_values.specs.Significant.{significant, IsOfFirstDigits}

-- more digits are worth no less
pub value_grows : (radix i : ℕ) (ds : List ℕ) (v : ℕ) → 1 ≤ radix
    → digits_value_after radix v (take i ds) ≤ digits_value_after radix v ds
value_grows radix zero [] v one = omega arith
value_grows radix zero (d ∷ ds) v one =
    grind (arith, mul-le-mul_left v one, value_grows radix zero ds (v * radix + digit_value d) one)
value_grows radix (suc i) [] v one = omega arith
value_grows radix (suc i) (d ∷ ds) v one = value_grows radix i ds (v * radix + digit_value d) one

-- n digits after a value of a digits and one more
between_powers : (radix n a v : ℕ) (ds : List ℕ) → AllDigits radix ds → n ≤ length ds
    → radix ^ a ≤ v
    → v < radix ^ suc a → (radix ^ (a + n) ≤ digits_value_after radix v (take n ds))
    × (digits_value_after radix v (take n ds) < radix ^ suc (a + n))
between_powers radix zero a v ds all l low high = grind arith
between_powers radix (suc n) a v [] all l low high = absurd (omega arith)
between_powers radix (suc n) a v (d ∷ ds) all l low high =
    let least = mul-le-mul_right radix low in
    let most = mul-le-mul_right radix high in
    grind (
      arith,
      between_powers radix n (suc a) (v * radix + digit_value d) ds all.1,
      pow-suc radix,
    )

-- where the first n of two lists stand
value_of_take : (radix n v : ℕ) (ds es : List ℕ) → digits_value_after radix v (take n (ds ++ es))
    ≡ digits_value_after radix (digits_value_after radix v (take n ds)) (take (n - length ds) es)
value_of_take radix zero v ds es = grind arith
value_of_take radix (suc n) v [] es = let all : suc n - 0 ≡ suc n = omega arith in rw all refl
value_of_take radix (suc n) v (d ∷ ds) es = grind (arith, value_of_take radix n)

-- of these digits k were read after a value, as many as leave it below the power n
pub record Reads (radix n v k : ℕ) (ds : List ℕ) : Type 0 where
  pub within : k ≤ length ds
  pub all : AllDigits radix ds
  pub below : digits_value_after radix v (take k ds) < radix ^ n
  pub over : k < length ds → radix ^ n ≤ digits_value_after radix v (take (suc k) ds)

all_both : (radix : ℕ) (ds es : List ℕ) → AllDigits radix ds → AllDigits radix es
    → AllDigits radix (ds ++ es)
all_both radix [] es h i = i
all_both radix (d ∷ ds) es h i = (h.0, all_both radix ds es h.1 i)

-- a zero at the head is no significant digit
pub of_none : significant [] ≡ []
unfolding significant
of_none = refl

pub of_one_more : (d : ℕ) (ds : List ℕ)
    → significant (d ∷ ds) ≡ (if eqb d 48 then significant ds else d ∷ ds)
unfolding significant
of_one_more d ds = grind (arith, one-add)

ruleset heads = (of_none, of_one_more)

-- zeros that lead are worth nothing
pub worth_same : (radix : ℕ) (ds : List ℕ)
    → digits_value radix (significant ds) ≡ digits_value radix ds
worth_same radix [] = rw of_none refl
worth_same radix (d ∷ ds) = rw (of_one_more d ds) (grind (arith, nat_tests, worth_same radix ds))

-- after others, the first of which is no zero
after_significant : (radix p k d v more : ℕ) (os ds : List ℕ) → 1 ≤ radix → eqb d 48 ≡ false
    → IsOfFirstDigits radix (suc p) (d ∷ os) v more → Reads radix (suc p) v k ds
    → IsOfFirstDigits radix (suc p) (d ∷ os ++ ds) (digits_value_after radix v (take k ds))
    (more + (length ds - k))
after_significant radix p k d v more os ds one e of so =
    let some : 1 ≤ digit_value d = grind (arith, nat_tests) in
    let is = rw (of_one_more d os, e) at of.is in
    let a : ℕ = min p (length os) in
    let from = between_powers radix a 0 (0 * radix + digit_value d) os of.digits_all.1 (omega arith)
    (grind (arith, pow-zero)) (grind (arith, pow-zero, pow-suc)) in
    let few : suc p ≤ a + k → radix ^ suc p ≤ radix ^ (a + k) = pow-le-pow_right one in
    let many : suc (a + suc k) ≤ suc p → radix ^ suc (a + suc k) ≤ radix ^ suc p =
    pow-le-pow_right one in
    let next : k ≡ min (p - length os) (length ds) = grind (
      arith,
      take_min p os,
      between_powers radix k a v ds so.all,
      between_powers radix (suc k) a v ds so.all,
    ) in
    grind (arith, heads, all_both, value_of_take, length-append os ds, take_min (p - length os) ds)

-- after none
pub after_none : (radix p k : ℕ) (ds : List ℕ) → 1 ≤ radix → Reads radix (suc p) 0 k ds
    → IsOfFirstDigits radix (suc p) ds (digits_value radix (take k ds)) (length ds - k)
after_none radix p k [] one so = grind (arith, heads, take_all {A = ℕ} k [])
after_none radix p zero (d ∷ ds) one so =
    grind (arith, mul-le-mul_right radix (one-le-pow p radix one), pow-suc radix p)
after_none radix p (suc k) (d ∷ ds) one so =
    let v : ℕ = 0 * radix + digit_value d in
    let rest : Reads radix (suc p) v k ds = grind arith in
    let rest_of_one = take_all {A = ℕ} p [] in
    grind (
      arith,
      heads,
      nat_tests,
      after_none radix p k ds one,
      after_significant radix p k d v 0 [] ds one,
    )

-- after others, of which the first significant digits were read
pub after_some : (radix p k v more : ℕ) (os ds : List ℕ) → 1 ≤ radix
    → IsOfFirstDigits radix (suc p) os v more → Reads radix (suc p) v k ds
    → IsOfFirstDigits radix (suc p) (os ++ ds) (digits_value_after radix v (take k ds))
    (more + (length ds - k))
after_some radix p k v more [] ds one of so = grind (arith, heads, after_none radix p k ds one)
after_some radix p k v more (o ∷ os) ds one of so =
    grind (
      arith,
      heads,
      after_some radix p k v more os ds one,
      after_significant radix p k o v more os ds one,
    )
