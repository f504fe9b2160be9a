-- The bits of a number to which a lowest bit was added.
use Rattle.std.proofs.Common.{◌≡◌, ℕ, zero, suc, ◌+◌, ◌-◌, ◌*◌, ◌/◌, ◌^◌, ◌<◌, ◌≤◌, Bool, true, false, cond, refl, sym, ap, ◌∙◌, arith, add-zero}
use Rattle.std.proofs.Math.Nat.{div-div-eq-div-mul, pow-succ', pow-le-pow_right}
use Rattle.lexical_format.specs.Word.{bit}

half : (v b : ℕ) → b < 2 → (v * 2 + b) / 2 ≡ v
half v b l = omega (arith, l)

pub bit_first : (v : ℕ) (b : Bool) → bit (v * 2 + cond b 1 0) 0 ≡ b
bit_first v true = grind arith
bit_first v false = grind arith

pub bit_rest : (v : ℕ) (b : Bool) (j : ℕ) → bit (v * 2 + cond b 1 0) (suc j) ≡ bit v j
bit_rest v b j =
    let n = v * 2 + cond b 1 0 in
    let low : cond b 1 0 < 2 = grind arith in
    let same : n / 2 ^ suc j ≡ v / 2 ^ j =
    ap (λ m. n / m) (pow-succ' 2 j) ∙ sym (div-div-eq-div-mul n 2 (2 ^ j))
    ∙ ap (λ m. m / 2 ^ j) (half v (cond b 1 0) low) in
    rw same refl

-- a bit more below, for the byte before i
module _ (v i : ℕ) (b : Bool) (some : 0 < i) (most : i ≤ 128) where
  abbrev next : ℕ
  next = v * 2 + cond b 1 0

  pub next_small : v < 2 ^ (128 - i) → next < 2 ^ (128 - (i - 1))
  next_small small =
      let more : 128 - (i - 1) ≡ suc (128 - i) = omega arith in
      let low : cond b 1 0 < 2 = grind arith in
      rw more (omega (arith, pow-succ' 2 (128 - i), small, low))

  pub next_fits : v < 2 ^ (128 - i) → next < 2 ^ 128
  next_fits small =
      let le : 128 - (i - 1) ≤ 128 = omega arith in
      let two : 0 < 2 = omega arith in
      let all : 2 ^ (128 - (i - 1)) ≤ 2 ^ 128 = pow-le-pow_right two le in
      omega (arith, next_small small, all)

  pub next_are : (P : ℕ → Bool → Type 0) → ((j : ℕ) → i + j < 128 → P (i + j) (bit v j))
      → P (i - 1) b → (j : ℕ) → i - 1 + j < 128 → P (i - 1 + j) (bit next j)
  next_are P are this zero l = rw (add-zero, bit_first v b) this
  next_are P are this (suc j) l =
      let same : i - 1 + suc j ≡ i + j = omega arith in
      rw (same, bit_rest v b j) (are j (omega (arith, l)))
