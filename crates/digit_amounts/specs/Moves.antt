-- Why there is no scaled number, with a position that counts from another start.
use Rattle.std.specs.Prelude.{ℕ, ◌+◌}
use Rattle.digit_amounts.specs.declared.scaled.ScaledError.{ScaledError}
use Rattle.digit_amounts.specs.declared.scaled.ScaledError.TheVariants as scaled

-- an error with its position so much later
abbrev pub scaled_later : ℕ → ScaledError → ScaledError
scaled_later by (scaled.Empty at) = scaled.Empty (by + at)
scaled_later by (scaled.TooLarge at) = scaled.TooLarge (by + at)
scaled_later by (scaled.TooFine at) = scaled.TooFine (by + at)
scaled_later by (scaled.Invalid at) = scaled.Invalid (by + at)
