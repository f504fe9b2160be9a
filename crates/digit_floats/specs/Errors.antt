-- What an error holds, and what is printed of it.
use Rattle.std.specs.Prelude.{ℕ, ◌==◌, Bool, false, List, ◌++◌, codes, decimal}
use Rattle.digit_floats.specs.declared.error.FloatError.{FloatError}
use Rattle.digit_floats.specs.declared.error.FloatError.TheVariants.{Empty, EmptyExponent, Invalid}

-- the position that an error holds
abbrev pub position : FloatError → ℕ
position (Empty at) = at
position (EmptyExponent at) = at
position (Invalid at) = at

-- whether it says that no float begins at a position
abbrev pub none_at : ℕ → FloatError → Bool
none_at place (Empty at) = at == place
none_at place (EmptyExponent at) = false
none_at place (Invalid at) = false

-- what is printed of an error
abbrev pub message : FloatError → List ℕ
message (Empty at) = codes "there is no digit before " ++ decimal at
message (EmptyExponent at) = codes "the exponent has no digit at " ++ decimal at
message (Invalid at) = codes "the byte at " ++ decimal at ++ codes " is no part of a float"
