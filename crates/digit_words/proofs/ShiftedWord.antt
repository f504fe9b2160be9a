-- A word of eight digits that is shifted by whole bytes: zeros before the digits write nothing.
use Rattle.std.proofs.Common.{◌≡◌, ℕ, zero, suc, ◌+◌, ◌-◌, ◌*◌, ◌/◌, ◌%◌, ◌^◌, ◌<◌, ◌≤◌, refl, sym, ap, ◌∙◌, inl, inr, arith}
use Rattle.std.proofs.Math.Nat.{div-mul-le_self}
use Rattle.std.proofs.Math.Pow.{mod-mod-pow}
use Rattle.std.proofs.lemmas.Bool.{cases_lt}
use Rattle.std.proofs.lemmas.Nat.{pow-add, shr-shr, shr_below, field_of, mul-mod_first}
use Rattle.digit_words.specs.Eight.{byte_of, AreBelow, number_of, written}
use Rattle.digit_words.proofs.WordOfDigits.{at_most, same_written}

-- ---- the bytes of a shifted word

-- one byte more
byte_more : (m : ℕ) → 2 ^ (8 * suc m) ≡ 2 ^ (8 * m) * 256
byte_more m = ap (λ k. 2 ^ k) {y = 8 * m + 8} (omega arith) ∙ pow-add 2 (8 * m) 8

up_more : (m x : ℕ) → x * 2 ^ (8 * suc m) ≡ x * 2 ^ (8 * m) * 256
up_more m x = ap (λ p. x * p) (byte_more m) ∙ grind arith

-- up: its first bytes are 0, and then its own come
zeros_up : (m i x : ℕ) → i < m → byte_of (x * 2 ^ (8 * m)) i ≡ 0
zeros_up zero i x l = absurd (omega (arith, l))
zeros_up (suc m) zero x l = omega (arith, up_more m x)
zeros_up (suc m) (suc i) x l =
    ap (λ w. byte_of w i) {y = x * 2 ^ (8 * m)} (omega (arith, up_more m x))
    ∙ zeros_up m i x (omega (arith, l))

own_up : (m i x : ℕ) → byte_of (x * 2 ^ (8 * m)) (m + i) ≡ byte_of x i
own_up zero i x =
    ap (λ w. byte_of w (0 + i)) {y = x} (omega arith)
    ∙ ap (byte_of x) {x = 0 + i} {y = i} (omega arith)
own_up (suc m) i x =
    let down : x * 2 ^ (8 * suc m) / 256 ≡ x * 2 ^ (8 * m) = omega (arith, up_more m x) in
    ap (byte_of (x * 2 ^ (8 * suc m))) {x = suc m + i} {y = suc (m + i)} (omega arith)
    ∙ ap (λ w. byte_of w (m + i)) down ∙ own_up m i x

-- down: its first bytes are gone
own_down : (m i x : ℕ) → byte_of (x / 2 ^ (8 * m)) i ≡ byte_of x (m + i)
own_down zero i x =
    ap (λ w. byte_of w i) {y = x} (omega arith) ∙ ap (byte_of x) {x = i} {y = 0 + i} (omega arith)
own_down (suc m) i x =
    let more : 8 + 8 * m ≡ 8 * suc m = omega arith in
    let both : x / 256 / 2 ^ (8 * m) ≡ x / 2 ^ (8 * suc m) = rw more at (shr-shr x 8 (8 * m)) in
    ap (λ w. byte_of w i) (sym both) ∙ own_down m i (x / 256)
    ∙ ap (byte_of x) {x = suc (m + i)} {y = suc m + i} (omega arith)

-- what is kept of it
kept_byte : (n i x : ℕ) → i < n → byte_of (x % 2 ^ (8 * n)) i ≡ byte_of x i
kept_byte zero i x l = absurd (omega (arith, l))
kept_byte (suc n) zero x l =
    let more : 8 * n + 8 ≡ 8 * suc n = omega arith in
    rw more at (mod-mod-pow x (8 * n) 8)
kept_byte (suc n) (suc i) x l =
    let more : 8 * n + 8 ≡ 8 * suc n = omega arith in
    let rest : x % 2 ^ (8 * suc n) / 256 ≡ x / 256 % 2 ^ (8 * n) =
    rw more at (field_of x (8 * n) 8) in
    ap (λ w. byte_of w i) rest ∙ kept_byte n i (x / 256) (omega (arith, l))

-- ---- digits after zeros

pub below_each : (n x : ℕ) → AreBelow 10 n x → (i : ℕ) → i < n → byte_of x i < 10
below_each zero x k i l = absurd (omega arith)
below_each (suc n) x k zero l = k.0
below_each (suc n) x k (suc i) l = below_each n (x / 256) k.1 i (omega (arith, l))

each_below : (n x : ℕ) → x < 2 ^ (8 * n) → ((i : ℕ) → i < n → byte_of x i < 10) → AreBelow 10 n x
each_below zero x l k = omega (arith, l)
each_below (suc n) x l k =
    let more : 8 * suc n ≡ 8 * n + 8 = omega arith in (
      k 0 (omega arith),
      each_below n (x / 256) (shr_below x (8 * n) 8 (rw more at l))
          (λ i m. k (suc i) (omega (arith, m))),
    )

nothing_written : (m : ℕ) (d : ℕ → ℕ) → ((i : ℕ) → i < m → d i ≡ 0) → written d m ≡ 0
nothing_written zero d z = refl
nothing_written (suc m) d z =
    omega (arith, nothing_written m d (λ i l. z i (omega (arith, l))), z m (omega arith))

after_zeros : (m n : ℕ) (d : ℕ → ℕ) → ((i : ℕ) → i < m → d i ≡ 0)
    → written d (m + n) ≡ written (λ i. d (m + i)) n
after_zeros m zero d z = ap (written d) {y = m} (omega arith) ∙ nothing_written m d z
after_zeros m (suc n) d z =
    ap (written d) {y = suc (m + n)} (omega arith) ∙ omega (arith, after_zeros m n d z)

-- a word of some zeros, and then n digits
pub placed : (m n y : ℕ) (d : ℕ → ℕ) → m + n ≡ 8 → y < 2 ^ 64
    → ((i : ℕ) → i < m → byte_of y i ≡ 0) → ((i : ℕ) → i < n → byte_of y (m + i) ≡ d i)
    → ((i : ℕ) → i < n → d i < 10)
    → AreBelow 10 8 y × (number_of (byte_of y) ≡ written d n)
placed m n y d all fits zeros own digits =
    let each : (i : ℕ) → i < 8 → byte_of y i < 10 = λ i l.
    elim (cases_lt i m) [
      | inl k ↦ omega (arith, zeros i k)
      | inr k ↦
          let there : m + (i - m) ≡ i = omega (arith, k) in
          let here = own (i - m) (omega (arith, k, l, all)) in
          omega (arith, rw there at here, digits (i - m) (omega (arith, k, l, all)))
    ] in
    let eight : number_of (byte_of y) ≡ written (byte_of y) 8 = omega arith in (
      each_below 8 y fits each,
      eight ∙ ap (written (byte_of y)) (sym all) ∙ after_zeros m n (byte_of y) zeros
          ∙ same_written _ d n own,
    )

-- ---- the three shifts

-- the first digits of a word, shifted up over all others: of `one_to_eight_of`
pub few_is : (n y x : ℕ) → n ≤ 8 → ((i : ℕ) → i < n → byte_of x i < 10)
    → y ≡ x * 2 ^ (64 - 8 * n) % 2 ^ 64
    → AreBelow 10 8 y × (number_of (byte_of y) ≡ written (byte_of x) n)
few_is n y x few k is =
    let m = 8 - n in
    let shift : 64 - 8 * n ≡ 8 * m = omega (arith, few) in
    let moved : y ≡ x * 2 ^ (8 * m) % 2 ^ 64 = rw shift at is in
    let byte : (i : ℕ) → i < 8 → byte_of y i ≡ byte_of (x * 2 ^ (8 * m)) i =
    λ i l. ap (λ w. byte_of w i) moved ∙ kept_byte 8 i (x * 2 ^ (8 * m)) l in
    placed m n y (byte_of x) (omega (arith, few)) (omega (arith, is))
    (λ i l. byte i (omega (arith, l)) ∙ zeros_up m i x l)
    (λ i l. byte (m + i) (omega (arith, l, few)) ∙ own_up m i x) k

-- of `first_of`
pub front_is : (n y x : ℕ) → n < 8 → ((i : ℕ) → i < n → byte_of x i < 10)
    → y ≡ x * 2 ^ 8 % 2 ^ 64 * 2 ^ (56 - 8 * n) % 2 ^ 64
    → AreBelow 10 8 y × (number_of (byte_of y) ≡ written (byte_of x) n)
front_is n y x few k is =
    let sum : 8 + (56 - 8 * n) ≡ 64 - 8 * n = omega (arith, few) in
    let power : 2 ^ (64 - 8 * n) ≡ 256 * 2 ^ (56 - 8 * n) = rw sum at (pow-add 2 8 (56 - 8 * n)) in
    let once : x * 256 * 2 ^ (56 - 8 * n) ≡ x * 2 ^ (64 - 8 * n) = rw power (grind arith) in
    few_is n y x (omega (arith, few)) k
    (is ∙ mul-mod_first (x * 256) (2 ^ (56 - 8 * n)) (2 ^ 64) ∙ ap (λ w. w % 2 ^ 64) once)

-- the last digits of a word, with all others made 0: of `last_of`
pub last_is : (n y x : ℕ) → n ≤ 8 → AreBelow 10 8 x
    → y ≡ x / 2 ^ (64 - 8 * n) * 2 ^ (64 - 8 * n)
    → AreBelow 10 8 y × (number_of (byte_of y) ≡ written (λ i. byte_of x (8 - n + i)) n)
last_is n y x few k is =
    let m = 8 - n in
    let shift : 64 - 8 * n ≡ 8 * m = omega (arith, few) in
    let moved : y ≡ x / 2 ^ (8 * m) * 2 ^ (8 * m) = rw shift at is in
    let part = x / 2 ^ (8 * m) in
    let most : x ≤ 0x0909_0909_0909_0909 = at_most 9 8 x k in
    let less : y ≤ x = rw moved (div-mul-le_self x (2 ^ (8 * m))) in
    placed m n y (λ i. byte_of x (m + i)) (omega (arith, few)) (omega (arith, less, most))
    (λ i l. ap (λ w. byte_of w i) moved ∙ zeros_up m i part l)
    (λ i l. ap (λ w. byte_of w (m + i)) moved ∙ own_up m i part ∙ own_down m i x)
    (λ i l. below_each 8 x k (m + i) (omega (arith, l, few)))
