-- The bits of a set of bytes.
use Rattle.std.proofs.Common.{◌≡◌, ℕ, suc, ◌+◌, ◌-◌, ◌<◌, ◌/◌, ◌%◌, ◌^◌, refl, sym, ◌∙◌, ap, ◌*◌, arith}
use Rattle.std.proofs.lemmas.Nat.{pow-add}
use Rattle.std.proofs.Math.Nat.{mod-add-div, add-mul-div_left, add-mul-mod_self_right, one-le-pow, pow-suc}
use Rattle.lexical_format.specs.Word.{bit}

-- the lower bits of a number
pub low_bit : (n place : ℕ) → place < 64 → bit (n % 2 ^ 64) place ≡ bit n place
low_bit n place l =
    let more : ℕ = 63 - place in
    let q : ℕ = n / 2 ^ 64 in
    let split : 64 ≡ place + suc more = omega (arith, l) in
    let power : 2 ^ 64 ≡ 2 ^ place * (2 ^ more * 2) =
    rw (← split, pow-suc 2 more) at (pow-add 2 place (suc more)) in
    let some : 0 < 2 ^ place = one-le-pow place 2 (omega arith) in
    let same : 2 ^ place * (2 ^ more * 2) * q ≡ 2 ^ place * (2 ^ more * q * 2) = grind arith in
    let all : n ≡ n % 2 ^ 64 + 2 ^ place * (2 ^ more * q * 2) =
    sym (mod-add-div n (2 ^ 64)) ∙ ap (λ m. n % 2 ^ 64 + m * q) power
    ∙ ap (λ m. n % 2 ^ 64 + m) same in
    let halves : n / 2 ^ place ≡ (n % 2 ^ 64) / 2 ^ place + 2 ^ more * q * 2 =
    ap (λ m. m / 2 ^ place) all ∙ add-mul-div_left (n % 2 ^ 64) (2 ^ more * q * 2) some in
    rw (halves, add-mul-mod_self_right ((n % 2 ^ 64) / 2 ^ place) (2 ^ more * q) 2) refl
