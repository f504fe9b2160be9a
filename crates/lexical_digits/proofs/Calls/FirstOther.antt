-- For callers, the stop in words of positions: the first that is kept and holds no digit.
use Rattle.std.proofs.Common.{◌≡◌, ℕ, zero, suc, ◌+◌, ◌<◌, ◌≤◌, Bool, true, false, not, List, ◌∷◌, length, arith, slice_index, unwrap_or, find, filter}
use Rattle.lexical_digits.specs.Laws.Terms.{range_with_len, Rule, is_digit, is_kept, kept_positions, stop}

module _ (is_kept other : ℕ → Bool) where
  -- r is the first position from s on that is kept and another, or else n
  pub record IsFirst (s n r : ℕ) : Type 0 where
    pub onward : s ≤ r
    pub within : r ≤ n
    pub before : (q : ℕ) → s ≤ q → q < r → is_kept q ≡ true → other q ≡ false
    pub at : r < n → (is_kept r ≡ true) × (other r ≡ true)

  abbrev found : ℕ → List ℕ → ℕ
  found n qs = unwrap_or (find other (filter is_kept qs)) n

  step : (s n : ℕ) (qs : List ℕ) → s < n → IsFirst (s + 1) n (found n qs)
      → IsFirst s n (found n (s ∷ qs))
  step s n qs l rest = grind arith

  first : (n d s : ℕ) → s + d ≡ n → IsFirst s n (found n (range_with_len s d))
  first n zero s e = grind arith
  first n (suc d) s e =
      step s n (range_with_len (s + 1) d) (omega arith) (first n d (s + 1) (omega arith))

-- the stop is the first kept position that holds no digit, or else the length
pub stop_is_first : (rule : Rule) (buffer : List ℕ) (start count : ℕ) → start ≤ length buffer →
    IsFirst (is_kept rule buffer start count) (λ q. not (is_digit rule (slice_index buffer q)))
    start
    (length buffer) (stop rule buffer start count)
unfolding stop kept_positions
stop_is_first rule buffer start count l = grind (arith, first)
