-- Calls that are several rows of the call table: a count that is raised, and digits that are taken.
use Rattle.std.proofs.Common.{◌≡◌, ℕ, zero, suc, [], ◌∷◌, ◌++◌, length, replicate, refl, sym, ap, ◌∙◌, arith}
use Rattle.lexical_digits.specs.Laws.Terms.{iterate, Component, State, IsState, counted, counted_by, settled, taken, run_of, On, Peek, Next, IncrementCount, after_leading, leading_digits_of, past_digits_of}
use Rattle.lexical_digits.specs.Laws.Table.{own_fits}
use Rattle.lexical_digits.proofs.Fields.CarriedByCursor.{state_counted}
use Rattle.lexical_digits.proofs.Calls.Stops.{leading_are, after_leading_are}

counted_once_more : (n : ℕ) (k : Component) (s : State)
    → counted_by (suc n) k s ≡ counted_by n k (counted k s)
counted_once_more n k s = grind arith

pub counts_are_rows : (n : ℕ) (k : Component) (s : State) → IsState s
    → counted_by n k s ≡ (run_of s (replicate n (On k, IncrementCount))).state
counts_are_rows zero k s v = grind (arith, own_fits k s v)
counts_are_rows (suc n) k s v =
    counted_once_more n k s ∙ counts_are_rows n k (counted k s) (state_counted 1 k s v)

nexts_are_rows : (n : ℕ) (k : Component) (s : State) → settled k (iterate (taken k) n s)
    ≡ (run_of s (replicate n (On k, Next) ++ ((On k, Peek) ∷ []))).state
nexts_are_rows zero k s = refl
nexts_are_rows (suc n) k s = nexts_are_rows n k (taken k s)

pub digits_are_rows : (k : Component) (s : State) → IsState s → past_digits_of k s
    ≡ (run_of s
    (replicate (length (leading_digits_of k s)) (On k, Next) ++ ((On k, Peek) ∷ []))).state
unfolding after_leading
digits_are_rows k s v =
    sym (after_leading_are k s v)
    ∙ ap (λ xs. settled k (iterate (taken k) (length xs) s)) (leading_are k s v)
    ∙ nexts_are_rows (length (leading_digits_of k s)) k s
