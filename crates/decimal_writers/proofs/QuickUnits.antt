-- A number over a power of two, rounded.
use Rattle.std.proofs.Common.{◌≡◌, ℕ, ◌-◌, ◌*◌, ◌/◌, ◌%◌, ◌^◌, ◌<◌, ◌≤◌, ap, ◌∙◌, arith}
use Rattle.std.proofs.Math.Nat.{pow-le-pow_right}
use native.Mathlib.Nat.{div-add-mod', mod-lt, mod-eq_of_lt}
use lib.Pow.{pow_pos}
use Rattle.decimal_writers.proofs.Rounding.{closest_down, closest_up, closest_even}

pub rest_is : (number one whole : ℕ) → whole ≡ number / one → (whole * one ≤ number)
    × (number - whole * one ≡ number % one)
rest_is number one whole is =
    let parts = div-add-mod' number one in
    let same : whole * one ≡ number / one * one = ap (λ (x : ℕ). x * one) is in
    (omega (arith, parts, same), omega (arith, parts, same))

pub rest_below : (number one : ℕ) → 0 < one → number % one < one
rest_below number one some = mod-lt number some

pub ruleset rounds = (rest_is, rest_below, closest_down, closest_up, closest_even)

pub one_is : (k : ℕ) → k ≤ 127 → (1 * 2 ^ k % 2 ^ 128 ≡ 2 ^ k) × (0 < 2 ^ k) × (2 ^ k ≤ 2 ^ 127)
one_is k few =
    let most : 2 ^ k ≤ 2 ^ 127 = pow-le-pow_right (omega arith) few in
    let one : 1 * 2 ^ k ≡ 2 ^ k = omega arith in
    (ap (λ (x : ℕ). x % 2 ^ 128) one ∙ mod-eq_of_lt (omega (arith, most)), pow_pos k, most)

pub ruleset quick = one_is
