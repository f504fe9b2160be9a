-- Positions that count from another start: those of a text whose first bytes are gone.
use Rattle.std.specs.Prelude.{◌≡◌, ℕ, zero, suc, ◌+◌, Bool, false, List, slice_get, Option, None, Result, Ok, Err}
use Rattle.lexical_digits.specs.Cursor.{holds_of}

-- the byte before a position, if there is one
abbrev pub byte_before : List ℕ → ℕ → Option ℕ
byte_before text zero = None
byte_before text (suc at) = slice_get text at

-- the byte before a position, if there is one, doesn't pass
abbrev pub IsFresh : (ℕ → Bool) → List ℕ → ℕ → Type 0
IsFresh p text at = holds_of p (byte_before text at) ≡ false

-- an outcome with its positions so much later; `later` says it of an error
abbrev pub outcome_later : {A E : Type 0} → (ℕ → E → E) → ℕ → Result (A × ℕ) E → Result (A × ℕ) E
outcome_later later by (Ok (x, end)) = Ok (x, by + end)
outcome_later later by (Err error) = Err (later by error)
