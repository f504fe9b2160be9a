-- What a report says of a text: the values of its lines, and their totals.
use Rattle.std.specs.Prelude.{◌≡◌, ℕ, ℤ, pos, ◌+ℤ◌, ◌≤ℤ◌, ◌+◌, ◌<◌, ◌≤◌, Bool, false, List, ◌∷◌, ◌++◌, length, map, fold, All, Contains, Result, Ok, Err}
use Rattle.std.specs.Float.{float_zero, binary64}
use Rattle.std.specs.Float.Ieee.{Float, add, lt}
use Rattle.digit_totals.specs.declared.totals.Totals.{Totals}
use Rattle.digit_totals.specs.declared.totals.FloatTotals.{FloatTotals}
use Rattle.digit_totals.specs.declared.fault.NumberError.{NumberError}
use Rattle.digit_totals.specs.Lines.{lines_of}
use Rattle.digit_totals.specs.declared.fault.LineFault.{LineFault}
use Rattle.digit_totals.specs.Report.{most_bytes, later}
use Rattle.digit_totals.specs.Totals.{has_128_bits}

-- ---- the lines, each with a value

module _ {V : Type 0} (value_of : List ℕ → Result V NumberError) where
  -- each line has at most 65,535 bytes, and a value: it is that one
  pub record HaveValues (lines : List (List ℕ)) (values : List V) : Type 0 where
    pub are : map value_of lines ≡ map Ok values
    pub short : All (λ line. length line ≤ most_bytes) lines

  -- the lines of a text are these, a line, and others
  pub record IsLine (text : List ℕ) (before : List (List ℕ)) (line : List ℕ) : Type 0 where
    pub after : List (List ℕ)
    pub lines : lines_of text ≡ before ++ line ∷ after

  -- The lines before line n have values, and this is line n.
  pub record IsFirstAt (text : List ℕ) (n : ℕ) (line : List ℕ) (values : List V) : Type 0 where
    pub before : List (List ℕ)
    pub is_line : IsLine text before line
    pub number : n ≡ length before + 1
    pub values_are : HaveValues before values

  -- line n, the first without a value, has this fault
  pub record IsNumberFault (text : List ℕ) (n : ℕ) (error : NumberError) : Type 0 where
    pub line : List ℕ
    pub values : List V
    pub first : IsFirstAt text n line values
    pub is : value_of line ≡ Err error

  -- the lines up to line n have values, and the value of line n doesn't fit those before it
  pub record IsSumFault (fits : List V → V → Bool) (text : List ℕ) (n : ℕ) : Type 0 where
    pub line : List ℕ
    pub values : List V
    pub first : IsFirstAt text n line values
    pub value : V
    pub is : value_of line ≡ Ok value
    pub large : fits values value ≡ false

  -- line n, the first without a value, has more than 65,535 bytes
  pub record IsLongLine (text : List ℕ) (n : ℕ) : Type 0 where
    pub line : List ℕ
    pub values : List V
    pub first : IsFirstAt text n line values
    pub long : most_bytes < length line

  -- all lines have values, of which these are the totals
  pub record AreTotals {T : Type 0} (AreOf : List V → T → Type 0) (text : List ℕ) (t : T)
      : Type 0 where
    pub values : List V
    pub values_are : HaveValues (lines_of text) values
    pub totals_are : AreOf values t

-- a fault of the lines after the first, which is told of a line later
abbrev pub IsLater : {T : Type 0} → LineFault → Result T LineFault → Type 0
IsLater fault report = (one : LineFault) × (fault ≡ later one) × (report ≡ Err one)

-- ---- numbers

abbrev pub sum_of : List ℤ → ℤ
sum_of values = fold ◌+ℤ◌ (pos 0) values

-- how many some values are, their sum, and the least and the greatest of them
pub record AreTotalsOf (values : List ℤ) (t : Totals) : Type 0 where
  pub count : t.count ≡ length values
  pub sum : t.sum ≡ sum_of values
  pub least : All (λ value. t.least ≤ℤ value) values
  pub least_of : 0 < length values → Contains values t.least
  pub greatest : All (λ value. value ≤ℤ t.greatest) values
  pub greatest_of : 0 < length values → Contains values t.greatest

-- the sum of all values has 128 bits
abbrev pub sum_fits : List ℤ → ℤ → Bool
sum_fits values value = has_128_bits (sum_of values +ℤ value)

-- ---- floats

-- added one after the other, from 0 on: each sum is rounded
abbrev pub float_sum_of : List Float → Float
float_sum_of values = fold (add binary64) float_zero values

-- how many some values are, their sum, and one that none is below and one that none is above
pub record AreFloatTotalsOf (values : List Float) (t : FloatTotals) : Type 0 where
  pub count : t.count ≡ length values
  pub sum : t.sum ≡ float_sum_of values
  pub least : All (λ value. lt value t.least ≡ false) values
  pub least_of : 0 < length values → Contains values t.least
  pub greatest : All (λ value. lt t.greatest value ≡ false) values
  pub greatest_of : 0 < length values → Contains values t.greatest
