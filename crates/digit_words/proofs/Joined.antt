-- Digits of a text, and the number that they write.
use Rattle.std.proofs.Common.{◌≡◌, ℕ, zero, suc, ◌+◌, ◌-◌, ◌*◌, ◌^◌, ◌<◌, ◌≤◌, List, length, take, drop, refl, sym, ap, ◌∙◌, inl, inr, arith, ◌⊎◌}
use Rattle.std.specs.Prelude.{slice_index}
use native.Mathlib.Numerals.{unary_clauses}
use Rattle.std.proofs.lemmas.List.{length-take, length-drop, get_or-take, get_or-drop}
use Rattle.digit_words.specs.Eight.{byte_of, written, AreDecimal, AreDigits, IsWritten}
use Rattle.digit_words.proofs.WordOfDigits.{same_written}

pub part_decimal : (text : List ℕ) (at count m n : ℕ) → AreDecimal text at count → m + n ≤ count
    → AreDecimal text (at + m) n
part_decimal text at count m n all few i l =
    let same : at + (m + i) ≡ at + m + i = omega arith in
    let digit = all (m + i) (omega (arith, few, l)) in
    rw same at digit

pub lt_or_le : (a b : ℕ) → (a < b) ⊎ (b ≤ a)
lt_or_le a zero = inr (omega arith)
lt_or_le zero (suc b) = inl (omega arith)
lt_or_le (suc a) (suc b) =
    elim (lt_or_le a b) [ inl l ↦ inl (omega arith) | inr l ↦ inr (omega arith) ]

times : (a b : ℕ) → a * (b * 10) ≡ a * b * 10
times a b = grind arith

-- digits, and more after them
pub joined : (d : ℕ → ℕ) (m n : ℕ)
    → written d (m + n) ≡ written d m * 10 ^ n + written (λ i. d (m + i)) n
joined d m zero = ap (written d) {y = m} (omega arith) ∙ omega arith
joined d m (suc n) =
    let before = joined d m n in
    let next : m + suc n ≡ suc (m + n) = omega arith in
    let power : 10 ^ suc n ≡ 10 ^ n * 10 = simp unary_clauses refl in
    let scale : written d m * 10 ^ suc n ≡ written d m * 10 ^ n * 10 =
    ap (λ k. written d m * k) power ∙ times (written d m) (10 ^ n) in
    ap (written d) next ∙ omega (arith, before, scale)

module _ (text : List ℕ) (start : ℕ) where
  abbrev digit : ℕ → ℕ
  digit i = slice_index text (start + i) - 48

  -- some digits, and those after them
  pub join : (m n at end value next more : ℕ) → at ≡ start + m → end ≡ m + n
      → IsWritten text start m value → IsWritten text at n next
      → more ≡ value * 10 ^ n + next → IsWritten text start end more
  join m n at end value next more there all first second is =
      let same : (i : ℕ) → at + i ≡ start + (m + i) = λ i. omega (arith, there) in
      let rest : written (λ i. slice_index text (at + i) - 48) n ≡ written (λ i. digit (m + i)) n =
      same_written _ _ n (λ i _. ap (λ k. slice_index text k - 48) (same i)) in
      let sum = joined digit m n in
      let scaled : value * 10 ^ n ≡ written digit m * 10 ^ n = ap (λ k. k * 10 ^ n) first.is in
      record {
        within = omega (arith, second.within, there, all);
        digits = λ i l.
            elim (lt_or_le i m) [
              | inl k ↦ first.digits i k
              | inr k ↦
                  let own : slice_index text (start + i) ≡ slice_index text (at + (i - m)) =
                  ap (slice_index text) (omega (arith, there, k)) in
                  omega (arith, own, second.digits (i - m) (omega (arith, k, l, all)))
            ];
        is = is ∙ omega (arith, scaled, second.is, rest, sum) ∙ ap (written digit) (sym all);
      }

-- sixteen digits, and up to three more
pub few_thousands : (first scale n : ℕ) → first < 10 ^ 16 → n ≤ 3 → scale ≡ 10 ^ n
    → first * scale < 10 ^ 19
few_thousands first scale zero fits few is = rw is (omega (arith, fits))
few_thousands first scale (suc zero) fits few is = rw is (omega (arith, fits))
few_thousands first scale (suc (suc zero)) fits few is = rw is (omega (arith, fits))
few_thousands first scale (suc (suc (suc zero))) fits few is = rw is (omega (arith, fits))
few_thousands first scale (suc (suc (suc (suc n)))) fits few is = absurd (omega (arith, few))

-- the last of eight
pub last_written : (text : List ℕ) (end digits count value : ℕ) → end + 8 ≡ length text → count < 8
    → AreDigits text end digits → value ≡ written (λ i. byte_of digits (8 - count + i)) count
    → (at : ℕ) → at + count ≡ length text → IsWritten text at count value
last_written text end digits count value there few eight is at here =
    let same : (i : ℕ) → end + (8 - count + i) ≡ at + i = λ i. omega (arith, there, few, here) in
    let each : (i : ℕ) → i < count
    → (slice_index text (at + i) ≡ byte_of digits (8 - count + i) + 48)
    × (byte_of digits (8 - count + i) < 10) =
    λ i l.
    let byte = eight.is (8 - count + i) (omega (arith, few, l)) in
    let own : slice_index text (at + i) ≡ slice_index text (end + (8 - count + i)) =
    ap (slice_index text) (sym (same i)) in
    (own ∙ byte.0, byte.1) in
    record {
      within = omega (arith, here);
      digits = λ i l. omega (arith, each i l);
      is = is ∙ same_written _ (λ i. slice_index text (at + i) - 48) count
          (λ i l. omega (arith, each i l));
    }

-- those of the end of a text
pub part_written : (text : List ℕ) (start n value : ℕ) → start + n ≡ length text
    → IsWritten (take n (drop start text)) 0 (length (take n (drop start text))) value
    → IsWritten text start n value
part_written text start n value there all =
    let part = take n (drop start text) in
    let size : length part ≡ n = grind (arith, length-take, length-drop) in
    let byte : (i : ℕ) → i < n → slice_index part (0 + i) ≡ slice_index text (start + i) =
    λ i l. grind (arith, get_or-take, get_or-drop) in
    record {
      within = omega (arith, there);
      digits = λ i l. omega (arith, all.digits i (omega (arith, size, l)), byte i l);
      is =
          all.is ∙ ap (written (λ i. slice_index part (0 + i) - 48)) size
          ∙ same_written (λ i. slice_index part (0 + i) - 48)
          (λ i. slice_index text (start + i) - 48) n (λ i l. ap (λ b. b - 48) (byte i l));
    }
