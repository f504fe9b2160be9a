-- A number or none.
use Rattle.std.specs.Prelude.{ℕ, Bool, if◌then◌else◌, Option, Some, None, Result, Ok, Err}

-- what was read at a position: none, if an error says so there
abbrev pub optional : {A E : Type 0} → (ℕ → E → Bool) → ℕ → Result (A × ℕ) E
    → Result (Option (A × ℕ)) E
optional none_at start (Ok read) = Ok (Some read)
optional none_at start (Err error) = if none_at start error then Ok None else Err error

-- the number that a value stands for
abbrev pub with_meaning : {V A : Type 0} → (V → A) → Option (V × ℕ) → Option (A × ℕ)
with_meaning value (Some read) = Some (value read.0, read.1)
with_meaning value None = None
