-- The text of a float with a fixed number of places.
use Rattle.std.specs.Prelude.{ℕ, zero, suc, ◌*◌, ◌^◌, List, [], ◌∷◌, ◌++◌}
use Rattle.std.specs.Float.{Float, nan, inf, fin}
use Rattle.std.specs.Float.Ieee.{up, down}
use Rattle.std.specs.Fmt.{sign_text}
use lib.Ieee.Nearest.{closest}
use Rattle.decimal_writers.specs.Text.{with_point}

-- the number in units of the last place, to the nearest whole one and at a tie to the even one
abbrev pub fixed_text : Float → ℕ → List ℕ
fixed_text nan places = []
fixed_text (inf negative) places = []
fixed_text (fin negative significand exponent) places =
    sign_text negative
    ++ with_point places (closest (significand * up exponent * 10 ^ places) (down exponent))

-- a point, if places follow it
abbrev pub point_of : ℕ → List ℕ
point_of zero = []
point_of (suc more) = 46 ∷ []
