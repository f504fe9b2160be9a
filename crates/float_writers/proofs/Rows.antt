-- Each row of the table is its power of ten cut off, by computing it.
use Rattle.std.proofs.Common.{◌≡◌, ℕ, zero, suc, ◌+◌, ◌-◌, ◌*◌, ◌^◌, ◌<◌, Bool, true, ◌&&◌, T, ltb, List, [], ◌∷◌, length, subst, arith}
use Rattle.std.specs.Prelude.{get_or}
use lib.Dec.{leb, leb→le, ltb→lt}
use lib.Ieee.Fits.{and_l, and_r}
use Rattle.float_writers.specs.Grid.{scale_of, IsRow}
use Rattle.float_writers.specs.declared.powers.TheConstants.{ROWS}

abbrev power_den : ℕ → ℕ
power_den p = 2 ^ scale_of p * 10 ^ (p - 324)

abbrev power_num : ℕ → ℕ
power_num p = 10 ^ (324 - p) * 2 ^ 1200

abbrev is_row : ℕ → ℕ → Bool
is_row p t =
    (leb (t * power_den p) (power_num p) && ltb (power_num p) ((t + 1) * power_den p))
    && (leb (2 ^ 127) t && ltb t (2 ^ 128))

abbrev are_rows_from : ℕ → List ℕ → Bool
are_rows_from p [] = true
are_rows_from p (t ∷ ts) = is_row p t && are_rows_from (suc p) ts

row : (ts : List ℕ) (p i j : ℕ) → T (are_rows_from p ts) → i < length ts → j ≡ p + i
    → T (is_row j (get_or ts i 0))
row [] p i j h l e = absurd (omega arith)
row (t ∷ ts) p zero j h l e =
    let s : p ≡ j = omega arith in subst (λ x. T (is_row x t)) s (and_l _ _ h)
row (t ∷ ts) p (suc i) j h l e =
    row ts (suc p) i j (and_r (is_row p t) _ h) (omega arith) (omega arith)

pub row_at : (p : ℕ) → p < 617 → IsRow p (get_or ROWS p 0)
row_at p h =
    let r = row ROWS 0 p p tt (omega arith) (omega arith) in
    let a = and_l _ _ r in
    let b = and_r _ _ r in
    record {
      from = leb→le _ _ (and_l _ _ a);
      below = ltb→lt _ _ (and_r _ _ a);
      top = leb→le _ _ (and_l _ _ b);
      fits = ltb→lt _ _ (and_r _ _ b);
    }
