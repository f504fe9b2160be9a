-- The digits of a number in a radix.
use Rattle.std.proofs.Common.{◌≡◌, ℕ, zero, suc, ◌+◌, ◌*◌, ◌/◌, ◌%◌, ◌^◌, ◌<◌, Bool, List, [], ◌∷◌, ◌++◌, length, refl, sym, ap, ◌∙◌, arith, append_assoc, append-nil}
use Rattle.std.specs.Fmt.{digit_glyph}
use Rattle.std.proofs.Math.Nat.{div-div-eq-div-mul, pow-suc, pow-zero, div-one, one-le-pow}
use Rattle.std.proofs.lemmas.Nat.{pow-add, div-add-mod', div-mul-add, mod-mul-add, div_below, mod_below}
use Rattle.std.proofs.lemmas.List.{length_push}
use Rattle.digit_writers.specs.Digits.{last_digits}

-- the rest after a product, divided by one of its factors
pub rest_of_product : (n k r : ℕ) → 0 < k → 0 < r
    → (n % (k * r) / r ≡ n / r % k) × (n % (k * r) % r ≡ n % r)
rest_of_product n k r some positive =
    let q = n / (k * r) in
    let m = n % (k * r) in
    let a = m / r in
    let b = m % r in
    let both : 0 < k * r = grind (arith, some, positive) in
    let whole : q * (k * r) + m ≡ n = div-add-mod' n (k * r) in
    let parts : a * r + b ≡ m = div-add-mod' m r in
    let small : b < r = mod_below m r positive in
    let few : a < k = div_below m r k positive (mod_below n (k * r) both) in
    let all : (q * k + a) * r + b ≡ n = grind (arith, whole, parts) in
    let over : n / r ≡ q * k + a = ap (λ (x : ℕ). x / r) (sym all)
    ∙ div-mul-add (q * k + a) r b small in (
      sym (ap (λ (x : ℕ). x % k) over ∙ mod-mul-add q k a few),
      sym (ap (λ (x : ℕ). x % r) (sym all) ∙ mod-mul-add (q * k + a) r b small),
    )

module _ (radix : ℕ) (upper : Bool) where
  abbrev pub last : ℕ → ℕ → List ℕ
  last count n = last_digits radix upper count n

  pub no_digits : (n : ℕ) → last 0 n ≡ []
  unfolding last_digits
  no_digits n = refl

  pub last_push : (k n : ℕ)
      → last (suc k) n ≡ last k (n / radix) ++ (digit_glyph upper (n % radix) ∷ [])
  unfolding last_digits
  last_push k n = refl

  pub length_last : (k n : ℕ) → length (last k n) ≡ k
  length_last zero n = ap length (no_digits n)
  length_last (suc k) n =
      ap length (last_push k n) ∙ length_push (last k (n / radix)) (digit_glyph upper (n % radix))
      ∙ omega (arith, length_last k (n / radix))

  -- the first ones are those of the quotient
  pub last_split : (k j n : ℕ) → last (j + k) n ≡ last j (n / radix ^ k) ++ last k n
  last_split zero j n =
      let none : j + 0 ≡ j = omega arith in
      rw (none, pow-zero radix, div-one, no_digits n) (sym (append-nil (last j n)))
  last_split (suc k) j n =
      let next : j + suc k ≡ suc (j + k) = omega arith in
      let over : n / radix / radix ^ k ≡ n / radix ^ suc k =
      div-div-eq-div-mul n radix (radix ^ k)
      ∙ ap (λ (x : ℕ). n / x) (grind (arith, pow-suc radix k)) in
      rw (next, last_push (j + k) n, last_push k n, last_split k j (n / radix), over)
      (append_assoc (last j (n / radix ^ suc k)) (last k (n / radix))
      (digit_glyph upper (n % radix) ∷ []))

  -- they are those of the rest after the power
  pub last_of_rest : (k n : ℕ) → 0 < radix → last k (n % radix ^ k) ≡ last k n
  last_of_rest zero n some = no_digits (n % radix ^ 0) ∙ sym (no_digits n)
  last_of_rest (suc k) n some =
      let product : radix ^ suc k ≡ radix ^ k * radix = pow-suc radix k in
      let rest = rest_of_product n (radix ^ k) radix (power some k) some in
      rw (
        last_push k (n % radix ^ suc k),
        last_push k n,
        product,
        rest.0,
        rest.1,
        last_of_rest k
            (n / radix) some,
      ) refl
    where
      power : {r : ℕ} → 0 < r → (k : ℕ) → 0 < r ^ k
      power {r} some k = one-le-pow k r some

  pub last_one : (n : ℕ) → last 1 n ≡ digit_glyph upper (n % radix) ∷ []
  last_one n =
      last_push 0 n
      ∙ ap (λ (ds : List ℕ). ds ++ (digit_glyph upper (n % radix) ∷ [])) (no_digits (n / radix))

  -- the first of them
  pub last_front : (k n : ℕ)
      → last (k + 1) n ≡ digit_glyph upper (n / radix ^ k % radix) ∷ last k n
  last_front k n =
      let turned : k + 1 ≡ 1 + k = omega arith in
      ap (λ (c : ℕ). last c n) turned ∙ last_split k 1 n
      ∙ ap (λ (ds : List ℕ). ds ++ last k n) (last_one (n / radix ^ k))

-- one power more
pub quotient_more : (n radix k : ℕ) → n / radix ^ k / radix ≡ n / radix ^ (k + 1)
quotient_more n radix k =
    let next : radix ^ (k + 1) ≡ radix ^ k * radix =
    (let one : k + 1 ≡ suc k = omega arith in ap (λ (x : ℕ). radix ^ x) one ∙ pow-suc radix k) in
    div-div-eq-div-mul n (radix ^ k) radix ∙ ap (λ (x : ℕ). n / x) (sym next)

-- more powers
pub quotient_both : (n radix j k : ℕ) → n / radix ^ j / radix ^ k ≡ n / radix ^ (j + k)
quotient_both n radix j k =
    div-div-eq-div-mul n (radix ^ j) (radix ^ k) ∙ ap (λ (x : ℕ). n / x) (sym (pow-add radix j k))
