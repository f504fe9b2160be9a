-- Two numbers with a byte between them, as `3:4`.
use Rattle.std.specs.Prelude.{ℕ, ◌+◌, ◌==◌, ◌||◌, Bool, false, if◌then◌else◌, List, Result, Ok, Err}
use Rattle.digit_values.specs.Bytes.{has_byte}
use Rattle.digit_pieces.specs.declared.kinds.both.BothError.{BothError}
use Rattle.digit_pieces.specs.declared.kinds.both.BothError.TheVariants.{First, Between, Second}

module _ {A B D E : Type 0} where
  -- both numbers, or why there is no second
  abbrev pub with_second : A → Result (B × ℕ) E → Result ((A × B) × ℕ) (BothError D E)
  with_second x (Ok (y, end)) = Ok ((x, y), end)
  with_second x (Err error) = Err (Second error)

  module _ (between : ℕ) (text : List ℕ) (second : ℕ → Result (B × ℕ) E) where
    abbrev pub after_first : Result (A × ℕ) D → Result ((A × B) × ℕ) (BothError D E)
    after_first (Ok (x, end)) =
        if has_byte text end between then with_second x (second (end + 1)) else Err (Between end)
    after_first (Err error) = Err (First error)

-- the two at a position, and where the second ends
abbrev pub both_at : {A B D E : Type 0} → (List ℕ → ℕ → Result (A × ℕ) D) → ℕ
    → (List ℕ → ℕ → Result (B × ℕ) E) → List ℕ → ℕ → Result ((A × B) × ℕ) (BothError D E)
both_at first between second text start = after_first between text (second text) (first text start)

-- whether a byte may be in one of the two, or between them
abbrev pub is_byte_of_both : (ℕ → Bool) → ℕ → (ℕ → Bool) → ℕ → Bool
is_byte_of_both first between second byte = first byte || byte == between || second byte

module _ {D E : Type 0} (first : D → ℕ) (second : E → ℕ) where
  -- the position that an error holds
  abbrev pub both_error_at : BothError D E → ℕ
  both_error_at (First error) = first error
  both_error_at (Between at) = at
  both_error_at (Second error) = second error

-- whether an error says that no two begin at a position: not the first
abbrev pub both_none_at : {D E : Type 0} → (ℕ → D → Bool) → ℕ → BothError D E → Bool
both_none_at first place (First error) = first place error
both_none_at first place (Between at) = false
both_none_at first place (Second error) = false

module _ {D E : Type 0} (first : ℕ → D → D) (second : ℕ → E → E) where
  -- an error with its position so much later
  abbrev pub both_later : ℕ → BothError D E → BothError D E
  both_later by (First error) = First (first by error)
  both_later by (Between at) = Between (by + at)
  both_later by (Second error) = Second (second by error)
