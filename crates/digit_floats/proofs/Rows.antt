-- Each row of the table is its power of ten cut off, by computing it.
use Rattle.std.proofs.Common.{◌≡◌, ℕ, zero, suc, ◌+◌, ◌-◌, ◌*◌, ◌^◌, ◌<◌, Bool, true, ◌&&◌, T, ltb, List, [], ◌∷◌, length, subst, arith}
use Rattle.std.specs.Prelude.{get_or}
use lib.Dec.{leb, leb→le, ltb→lt}
use lib.Ieee.Fits.{and_l, and_r}
use Rattle.digit_floats.specs.Near.{power_scale, IsRow}
use Rattle.digit_floats.specs.declared.powers.TheConstants.{ROWS}

abbrev power_den : ℕ → ℕ
power_den q = 2 ^ power_scale q * 10 ^ (342 - q)

abbrev power_num : ℕ → ℕ
power_num q = 10 ^ (q - 342) * 2 ^ 1200

abbrev is_row : ℕ → ℕ → Bool
is_row q t =
    (leb (t * power_den q) (power_num q) && ltb (power_num q) ((t + 1) * power_den q))
    && (leb (2 ^ 63) t && ltb t (2 ^ 64))

abbrev are_rows_from : ℕ → List ℕ → Bool
are_rows_from q [] = true
are_rows_from q (t ∷ ts) = is_row q t && are_rows_from (suc q) ts

row : (ts : List ℕ) (q i j : ℕ) → T (are_rows_from q ts) → i < length ts → j ≡ q + i
    → T (is_row j (get_or ts i 0))
row [] q i j h l e = absurd (omega arith)
row (t ∷ ts) q zero j h l e =
    let s : q ≡ j = omega arith in subst (λ x. T (is_row x t)) s (and_l _ _ h)
row (t ∷ ts) q (suc i) j h l e =
    row ts (suc q) i j (and_r (is_row q t) _ h) (omega arith) (omega arith)

pub row_at : (q : ℕ) → q < 651 → IsRow q (get_or ROWS q 0)
row_at q h =
    let r = row ROWS 0 q q tt (omega arith) (omega arith) in
    let a = and_l _ _ r in
    let b = and_r _ _ r in
    record {
      from = leb→le _ _ (and_l _ _ a);
      below = ltb→lt _ _ (and_r _ _ a);
      top = leb→le _ _ (and_l _ _ b);
      fits = ltb→lt _ _ (and_r _ _ b);
    }
