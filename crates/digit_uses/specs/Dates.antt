-- Dates of ISO 8601, as `2026-11-25`.
use Rattle.std.specs.Prelude.{◌≡◌, ℕ, pos, ◌%◌, ◌==◌, ◌&&◌, ◌||◌, not, nat_le, Bool, true, if◌then◌else◌, List, length, Ok}
use Rattle.digits.specs.Words.{exactly_at, has_byte}
use Rattle.digit_uses.specs.declared.dates.Date.{Date}

-- whether a year has a 29th of February
abbrev pub is_leap : ℕ → Bool
is_leap year = year % 4 == 0 && (not (year % 100 == 0) || year % 400 == 0)

-- how many days a month has, of a year
abbrev pub days_of : ℕ → ℕ → ℕ
days_of year month =
    if month == 2 then (if is_leap year then 29 else 28)
    else if month == 4 || month == 6 || month == 9 || month == 11 then 30 else 31

-- whether a year has a day of a month
abbrev pub has_day : ℕ → ℕ → ℕ → Bool
has_day year month day =
    nat_le 1 month && nat_le month 12 && nat_le 1 day && nat_le day (days_of year month)

-- the text begins with these fields
pub record HasFields (text : List ℕ) (date : Date) : Type 0 where
  pub year : exactly_at 10 text 0 4 65535 ≡ Ok (pos date.year, 4)
  pub month : exactly_at 10 text 5 2 255 ≡ Ok (pos date.month, 7)
  pub day : exactly_at 10 text 8 2 255 ≡ Ok (pos date.day, 10)
  pub marks : (has_byte text 4 45 ≡ true) × (has_byte text 7 45 ≡ true)

-- the text is this date
pub record IsDate (text : List ℕ) (date : Date) : Type 0 where
  pub fields : HasFields text date
  pub whole : length text ≡ 10
  pub is : has_day date.year date.month date.day ≡ true
