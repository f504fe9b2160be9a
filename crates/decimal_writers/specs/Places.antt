-- Digits that are written of a number: some before the point, some after it, and zeros.
use Rattle.std.specs.Prelude.{◌≡◌, ℕ, ◌+◌, ◌*◌, ◌/◌, ◌^◌, ◌≤◌, List, length, take}
use Rattle.decimal_writers.specs.Big.{value_of, IsBig}
use Rattle.decimal_writers.specs.Text.{number_text, with_point}
use Rattle.decimal_writers.specs.declared.places.Places.{Places}

-- the number whose digits are written
abbrev pub number_of : List ℕ → Places → ℕ
number_of bytes p = value_of (take p.len bytes) / 10 ^ p.dropped * 10 ^ p.zeros

-- and their text
abbrev pub places_text : List ℕ → Places → List ℕ
places_text bytes p = with_point (p.fraction + p.zeros) (number_of bytes p)

-- the bytes are the digits of a number, of which so many are before the point
pub record IsPlaces (bytes : List ℕ) (p : Places) : Type 0 where
  pub big : IsBig bytes p.len (value_of (take p.len bytes))
  pub whole : length (number_text (value_of (take p.len bytes) / 10 ^ (p.dropped + p.fraction)))
      ≡ p.whole
  pub some : 1 ≤ p.whole
  pub few : p.whole ≤ 2 ^ 33
  pub places : p.dropped + p.fraction ≤ 2 ^ 33
  pub zeros : p.zeros ≤ 2 ^ 33
