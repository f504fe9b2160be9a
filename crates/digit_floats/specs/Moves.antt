-- Why there is no float, with a position that counts from another start.
use Rattle.std.specs.Prelude.{ℕ, ◌+◌}
use Rattle.digit_floats.specs.declared.error.FloatError.{FloatError}
use Rattle.digit_floats.specs.declared.error.FloatError.TheVariants as floats

-- an error with its position so much later
abbrev pub float_later : ℕ → FloatError → FloatError
float_later by (floats.Empty at) = floats.Empty (by + at)
float_later by (floats.EmptyExponent at) = floats.EmptyExponent (by + at)
float_later by (floats.Invalid at) = floats.Invalid (by + at)
