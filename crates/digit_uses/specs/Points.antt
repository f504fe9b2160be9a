-- A point, as `12:-5`.
use Rattle.std.specs.Prelude.{ℕ, ℤ, ◌-◌, ◌^◌, Bool, false, List, Result, Ok, Err}
use Rattle.std.specs.Result.{result_map_both}
use Rattle.digits.specs.Constants.{STANDARD}
use Rattle.digits.specs.Words.{Integer, expect_byte, literal_none_at, literal_position, number_at, rule_of}
use Rattle.digit_uses.specs.declared.points.Point.{Point}
use Rattle.digit_uses.specs.declared.points.PointError.{PointError}
use Rattle.digit_uses.specs.declared.points.PointError.TheVariants.{Coordinate, NoColon}

-- what `?` does
infixl 10 ◌>>=◌
abbrev pub ◌>>=◌ : {A B : Type 0} → Result A PointError → (A → Result B PointError)
    → Result B PointError
(Ok x) >>= f = f x
(Err error) >>= f = Err error

module _ (text : List ℕ) where
  -- the coordinate at a position, and where it ends
  abbrev pub coordinate_at : ℕ → Result (ℤ × ℕ) PointError
  coordinate_at start =
      result_map_both (λ read. read) Coordinate
      (number_at (2 ^ 31) (2 ^ 31 - 1) (rule_of STANDARD Integer) text start)

  -- the point at a position, and where it ends, or why there is none
  abbrev pub point_at : ℕ → Result (Point × ℕ) PointError
  point_at start = do
    x ← coordinate_at start
    at ← result_map_both (λ at. at) NoColon (expect_byte text x.1 58)
    y ← coordinate_at at
    Ok (record { x = x.0; y = y.0 }, y.1)

-- the position that an error holds
abbrev pub column_of : PointError → ℕ
column_of (Coordinate error) = literal_position error
column_of (NoColon at) = at

-- whether an error says that no point begins at a position
abbrev pub no_point_at : ℕ → PointError → Bool
no_point_at place (Coordinate error) = literal_none_at place error
no_point_at place (NoColon at) = false
