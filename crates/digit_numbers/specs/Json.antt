-- The number of RFC 8259: its rules, each of the bytes of a text from a position to another.
use Rattle.std.specs.Prelude.{◌≡◌, ℕ, ◌+◌, ◌<◌, ◌≤◌, Bool, true, false, ◌&&◌, ◌||◌, ◌==◌, nat_le}
use Rattle.std.specs.Prelude.{◌⊎◌, if◌then◌else◌, List}
use Rattle.std.specs.Char.{is_ascii_digit}
use Rattle.digit_floats.specs.Bytes.{stands, is_point, is_minus, is_sign}

-- 1-9, E and e
abbrev pub is_digit1_9 : ℕ → Bool
is_digit1_9 byte = nat_le 49 byte && nat_le byte 57

abbrev pub is_e : ℕ → Bool
is_e byte = byte == 101 || byte == 69

abbrev pub is_zero : ℕ → Bool
is_zero byte = byte == 48

module _ (text : List ℕ) where
  -- the byte at a position passes
  abbrev pub Has : (ℕ → Bool) → ℕ → Type 0
  Has p at = stands p text at ≡ true

  -- [ byte ]
  abbrev pub IsOptional : (ℕ → Bool) → ℕ → ℕ → Type 0
  IsOptional p from to = (to ≡ from) ⊎ (Has p from × (to ≡ from + 1))

  -- *DIGIT
  pub record IsDigits (from to : ℕ) : Type 0 where
    pub onward : from ≤ to
    pub all : (at : ℕ) → from ≤ at → at < to → Has is_ascii_digit at

  -- int = zero / ( digit1-9 *DIGIT )
  abbrev pub IsInt : ℕ → ℕ → Type 0
  IsInt from to = (Has is_zero from × (to ≡ from + 1))
      ⊎ (Has is_digit1_9 from × IsDigits (from + 1) to)

  -- frac = decimal-point 1*DIGIT
  pub record IsFrac (from to : ℕ) : Type 0 where
    pub point : Has (is_point 46) from
    pub digits : IsDigits (from + 1) to
    pub some : from + 1 < to

  -- exp = e [ minus / plus ] 1*DIGIT
  pub record IsExp (from to : ℕ) : Type 0 where
    pub first : ℕ
    pub mark : Has is_e from
    pub sign : IsOptional is_sign (from + 1) first
    pub digits : IsDigits first to
    pub some : first < to

  -- number = [ minus ] int [ frac ] [ exp ]
  pub record IsJsonNumber (start end : ℕ) : Type 0 where
    pub int : ℕ
    pub frac : ℕ
    pub exp : ℕ
    pub minus : IsOptional is_minus start int
    pub integer : IsInt int frac
    pub fraction : (exp ≡ frac) ⊎ IsFrac frac exp
    pub exponent : (end ≡ exp) ⊎ IsExp exp end

  -- [ minus ] int
  pub record IsJsonInteger (start end : ℕ) : Type 0 where
    pub int : ℕ
    pub minus : IsOptional is_minus start int
    pub integer : IsInt int end

  -- no longer one begins at the start
  pub record IsLongest (start end : ℕ) : Type 0 where
    pub is : IsJsonNumber start end
    pub longest : (other : ℕ) → IsJsonNumber start other → other ≤ end

  -- the position after a minus, if one is at the start
  abbrev pub past_minus : ℕ → ℕ
  past_minus start = if stands is_minus text start then start + 1 else start

  -- no byte goes on with a number that ends here
  pub record IsDelimited (end : ℕ) : Type 0 where
    pub digit : stands is_ascii_digit text end ≡ false
    pub point : stands (is_point 46) text end ≡ false
    pub mark : stands is_e text end ≡ false
