-- A stream of which nothing is left.
use Rattle.std.proofs.Common.{◌≡◌, ℕ, List, [], ◌∷◌, ◌++◌, length, refl, sym, ◌∙◌, ap, arith}
use Rattle.std.specs.Prelude.{Option, None, Some, IfSome}
use Rattle.std.specs.Io.KnownBytes.{Keeps, IsAtEnd, prepend_known}

nothing : (held : List ℕ) → length held ≡ 0 → held ≡ []
nothing [] h = refl
nothing (byte ∷ bytes) h = absurd (omega arith)

-- a reader at its end, with a buffer that holds nothing, had nothing left
pub finished : (before held : List ℕ) (left rest : Option (List ℕ))
    → Keeps (prepend_known before left) (prepend_known held rest) → IsAtEnd rest
    → length held ≡ 0 → IfSome (prepend_known before left) (λ bytes. bytes ≡ [])
finished before held None rest kept ends none = tt
finished before held (Some left) None kept ends none = absurd kept
finished before held (Some left) (Some rest) kept ends none =
    sym kept ∙ ap (λ bytes. bytes ++ rest) (nothing held none) ∙ ends
