-- The decimal digits of a number, as parts that are written one after another.
use Rattle.std.proofs.Common.{◌≡◌, ℕ, zero, suc, ◌+◌, ◌*◌, ◌/◌, ◌%◌, ◌^◌, ◌<◌, ◌≤◌, false, List, [], ◌∷◌, ◌++◌, length, set, get_or, refl, sym, ap, ◌∙◌, arith, append_assoc, append-nil, length-append}
use Rattle.std.specs.Prelude.{decimal}
use Rattle.std.specs.List.{splice}
use Rattle.std.specs.Fmt.{digit_glyph}
use Rattle.std.proofs.Math.Nat.{pow-suc, pow-zero, div-one, div-div-eq-div-mul, one-le-pow}
use Rattle.std.proofs.lemmas.Nat.{le-div}
use Rattle.std.proofs.lemmas.Bool.Decides.{nat_tests}
use Rattle.std.proofs.lemmas.Fmt.{decimal_digit, decimal_step_wide}
use Rattle.std.proofs.lemmas.List.{length-set}
use Rattle.decimal_writers.specs.declared.pairs.TheConstants.{PAIRS}
use Rattle.decimal_writers.proofs.TwoDigits.{pair_is}
use Rattle.digit_writers.specs.Digits.{last_decimals}
use Rattle.digit_writers.proofs.LastDigits.{last_push, last_split, last_of_rest, length_last, no_digits}
use Rattle.digit_writers.proofs.Splices.{both, one_spliced}

-- ---- a fixed number of digits

glyph_is : (d : ℕ) → d < 10 → digit_glyph false d ≡ 48 + d
glyph_is d l = grind (arith, nat_tests)

pub one_is : (n : ℕ) → last_decimals 1 n ≡ (48 + n % 10) ∷ []
one_is n =
    last_push 10 false 0 n
    ∙ ap (λ (ds : List ℕ). ds ++ (digit_glyph false (n % 10) ∷ []))
    (no_digits 10 false (n / 10))
    ∙ ap (λ (d : ℕ). d ∷ []) (glyph_is (n % 10) (omega arith))

pub two_is : (n : ℕ) → n < 100 → last_decimals 2 n ≡ (48 + n / 10) ∷ (48 + n % 10) ∷ []
two_is n l =
    let tens : n / 10 % 10 ≡ n / 10 = omega arith in
    last_push 10 false 1 n
    ∙ (rw (one_is (n / 10), tens, glyph_is (n % 10) (omega arith)) refl)

pub two_written : (out : List ℕ) (at n tens ones : ℕ) → n < 100 → at + 2 ≤ length out
    → tens ≡ get_or PAIRS (n * 2) 0 → ones ≡ get_or PAIRS (n * 2 + 1) 0
    → set (set out at tens) (at + 1) ones ≡ splice out at (at + 2) (last_decimals 2 n)
two_written out at n tens ones small room first second =
    let pair = pair_is n small in
    let a : tens ≡ 48 + n / 10 = first ∙ pair.0 in
    let b : ones ≡ 48 + n % 10 = second ∙ pair.1 in
    let long : length (set out at tens) ≡ length out = length-set out at tens in
    let next : at + 1 + 1 ≡ at + 2 = omega arith in
    let last : set (set out at tens) (at + 1) ones
    ≡ splice (set out at tens) (at + 1) (at + 2) (ones ∷ []) =
    one_spliced (set out at tens) (at + 1) ones (omega (arith, long))
    ∙ ap (λ (end : ℕ). splice (set out at tens) (at + 1) end (ones ∷ [])) next in
    last
    ∙ ap (λ (old : List ℕ). splice old (at + 1) (at + 2) (ones ∷ []))
    (one_spliced out at tens (omega arith))
    ∙ both out (tens ∷ []) (ones ∷ []) at (at + 1) (at + 2) (omega arith) (omega arith) room
    ∙ ap (splice out at (at + 2)) ((λ i. a i ∷ b i ∷ []) ∙ sym (two_is n small))

-- so many digits, and then others
pub parts_written : (out new newer : List ℕ) (at end j k n : ℕ)
    → new ≡ splice out at (at + j) (last_decimals j (n / 10 ^ k))
    → newer ≡ splice new (at + j) (at + j + k) (last_decimals k (n % 10 ^ k))
    → end ≡ at + j + k → end ≤ length out → newer ≡ splice out at end (last_decimals (j + k) n)
parts_written out new newer at end j k n first second last within =
    let high : List ℕ = last_decimals j (n / 10 ^ k) in
    let low : List ℕ = last_decimals k (n % 10 ^ k) in
    let rest : low ≡ last_decimals k n = last_of_rest 10 false k n (omega arith) in
    second
    ∙ ap (λ (old : List ℕ). splice old (at + j) (at + j + k) low) first
    ∙ both out high low at (at + j) (at + j + k)
    (omega (arith, length_last 10 false j (n / 10 ^ k)))
    (omega (arith, length_last 10 false k (n % 10 ^ k))) (omega arith)
    ∙ ap (splice out at (at + j + k))
    (ap (λ (ds : List ℕ). high ++ ds) rest ∙ sym (last_split 10 false k j n))
    ∙ ap (λ (e : ℕ). splice out at e (last_decimals (j + k) n)) (sym last)

-- ---- all digits of a number

-- its first ones, which are those of the quotient, and so many others
pub decimal_parts : (k n : ℕ) → 10 ^ k ≤ n → n < 10 ^ 64
    → decimal n ≡ decimal (n / 10 ^ k) ++ last_decimals k n
decimal_parts zero n low few =
    rw (pow-zero 10, div-one, no_digits 10 false n) (sym (append-nil (decimal n)))
decimal_parts (suc k) n low few =
    let power : 10 ^ suc k ≡ 10 ^ k * 10 = pow-suc 10 k in
    let some : 1 ≤ 10 ^ k = one-le-pow k 10 (omega arith) in
    let step = decimal_step_wide n (omega (arith, low, power, some)) few in
    let less : 10 ^ k ≤ n / 10 = le-div (10 ^ k) n 10 (omega arith) (omega (arith, low, power)) in
    let before = decimal_parts k (n / 10) less (omega arith) in
    let over : n / 10 / 10 ^ k ≡ n / 10 ^ suc k =
    div-div-eq-div-mul n 10 (10 ^ k) ∙ ap (λ (x : ℕ). n / x) (omega (arith, power)) in
    step ∙ ap (λ (ds : List ℕ). ds ++ ((48 + n % 10) ∷ []))
    (before ∙ ap (λ (q : ℕ). decimal q ++ last_decimals k (n / 10)) over)
    ∙ append_assoc (decimal (n / 10 ^ suc k)) (last_decimals k (n / 10)) ((48 + n % 10) ∷ [])
    ∙ ap (λ (ds : List ℕ). decimal (n / 10 ^ suc k) ++ ds)
    (ap (λ (d : ℕ). last_decimals k (n / 10) ++ (d ∷ [])) (sym (glyph_is (n % 10) (omega arith)))
    ∙ sym (last_push 10 false k n))

pub decimal_length : (k n : ℕ) → 10 ^ k ≤ n → n < 10 ^ 64
    → length (decimal n) ≡ length (decimal (n / 10 ^ k)) + k
decimal_length k n low few =
    ap length (decimal_parts k n low few) ∙ length-append (decimal (n / 10 ^ k)) (last_decimals k n)
    ∙ ap (λ (x : ℕ). length (decimal (n / 10 ^ k)) + x) (length_last 10 false k n)

pub room_before : (k n at room : ℕ) → 10 ^ k ≤ n → n < 10 ^ 64
    → at + length (decimal n) ≤ room → at + length (decimal (n / 10 ^ k)) + k ≤ room
room_before k n at room low few fits = omega (arith, fits, decimal_length k n low few)

-- a number, and so many digits after it
pub number_written : (out new newer : List ℕ) (at next k n : ℕ) → 10 ^ k ≤ n → n < 10 ^ 64
    → at + length (decimal n) ≤ length out
    → next ≡ at + length (decimal (n / 10 ^ k))
    → new ≡ splice out at next (decimal (n / 10 ^ k))
    → newer ≡ splice new next (next + k) (last_decimals k (n % 10 ^ k))
    → (next + k ≡ at + length (decimal n)) × (newer ≡ splice out at (next + k) (decimal n))
number_written out new newer at next k n low few room after first second =
    let high : List ℕ = decimal (n / 10 ^ k) in
    let rest : last_decimals k (n % 10 ^ k) ≡ last_decimals k n =
    last_of_rest 10 false k n (omega arith) in
    let end : next + k ≡ at + length (decimal n) =
    omega (arith, after, decimal_length k n low few) in (
      end,
      second
          ∙ ap (λ (old : List ℕ). splice old next (next + k) (last_decimals k (n % 10 ^ k))) first
          ∙ both out high (last_decimals k (n % 10 ^ k)) at next (next + k) after
          (omega (arith, length_last 10 false k (n % 10 ^ k))) (omega (arith, end, room))
          ∙ ap (splice out at (next + k))
          (ap (λ (ds : List ℕ). high ++ ds) rest ∙ sym (decimal_parts k n low few)),
    )

-- the same with quotient and rest by other names
pub wide_written : (out new newer : List ℕ) (at next k n high low : ℕ) → 10 ^ k ≤ n → n < 10 ^ 64
    → at + length (decimal n) ≤ length out → high ≡ n / 10 ^ k → low ≡ n % 10 ^ k
    → next ≡ at + length (decimal high) → new ≡ splice out at next (decimal high)
    → newer ≡ splice new next (next + k) (last_decimals k low)
    → (next + k ≡ at + length (decimal n)) × (newer ≡ splice out at (next + k) (decimal n))
wide_written out new newer at next k n high low least few room quotient rest after first second =
    number_written out new newer at next k n least few room
    (after ∙ ap (λ (q : ℕ). at + length (decimal q)) quotient)
    (first ∙ ap (λ (q : ℕ). splice out at next (decimal q)) quotient)
    (second ∙ ap (λ (r : ℕ). splice new next (next + k) (last_decimals k r)) rest)

-- ---- one and two digits

digit_length : (n : ℕ) → n < 10 → length (decimal n) ≡ 1
digit_length n l = ap length (decimal_digit n l)

pub digit_fits : (n at room : ℕ) → n < 10 → at + length (decimal n) ≤ room → at < room
digit_fits n at room l fits = omega (arith, fits, digit_length n l)

pub digit_ends : (n at : ℕ) → n < 10 → at + 1 ≡ at + length (decimal n)
digit_ends n at l = omega (arith, digit_length n l)

pub digit_written : (out : List ℕ) (at n byte : ℕ) → n < 10 → byte ≡ 48 + n → at < length out
    → set out at byte ≡ splice out at (at + 1) (decimal n)
digit_written out at n byte l is room =
    one_spliced out at byte room
    ∙ ap (splice out at (at + 1)) ((λ i. is i ∷ []) ∙ sym (decimal_digit n l))

two_digits : (n : ℕ) → 10 ≤ n → n < 100 → last_decimals 2 n ≡ decimal n
two_digits n low high =
    let first : decimal (n / 10) ≡ (48 + n / 10) ∷ [] = decimal_digit (n / 10) (omega arith) in
    two_is n high
    ∙ sym (decimal_parts 1 n low (omega arith) ∙ (rw (first, one_is n) refl))

pub two_fit : (n at room : ℕ) → 10 ≤ n → n < 100 → at + length (decimal n) ≤ room → at + 2 ≤ room
two_fit n at room low high fits =
    omega (arith, fits, ap length (two_digits n low high), length_last 10 false 2 n)

pub two_end : (n at : ℕ) → 10 ≤ n → n < 100 → at + 2 ≡ at + length (decimal n)
two_end n at low high =
    omega (arith, ap length (two_digits n low high), length_last 10 false 2 n)

pub two_all : (out new : List ℕ) (at n : ℕ) → 10 ≤ n → n < 100
    → new ≡ splice out at (at + 2) (last_decimals 2 n) → new ≡ splice out at (at + 2) (decimal n)
two_all out new at n low high is = is ∙ ap (splice out at (at + 2)) (two_digits n low high)

-- ---- three digits

pub three_is : (n : ℕ) → n < 1000
    → last_decimals 3 n ≡ (48 + n / 100) ∷ last_decimals 2 (n % 100)
three_is n l =
    let rest : last_decimals 2 (n % 10 ^ 2) ≡ last_decimals 2 n =
    last_of_rest 10 false 2 n (omega arith) in
    let tens : n / 100 % 10 ≡ n / 100 = omega arith in
    last_split 10 false 2 1 n
    ∙ ap (λ (ds : List ℕ). ds ++ last_decimals 2 n) (one_is (n / 100))
    ∙ (λ i. (48 + tens i) ∷ sym rest i)

pub three_digits : (n : ℕ) → 100 ≤ n → n < 1000 → last_decimals 3 n ≡ decimal n
three_digits n low high =
    let first : decimal (n / 100) ≡ (48 + n / 100) ∷ [] = decimal_digit (n / 100) (omega arith) in
    let tens : n / 100 % 10 ≡ n / 100 = omega arith in
    last_split 10 false 2 1 n
    ∙ ap (λ (ds : List ℕ). ds ++ last_decimals 2 n) (one_is (n / 100) ∙ (λ i. (48 + tens i) ∷ []))
    ∙ ap (λ (ds : List ℕ). ds ++ last_decimals 2 n) (sym first)
    ∙ sym (decimal_parts 2 n low (omega arith))
