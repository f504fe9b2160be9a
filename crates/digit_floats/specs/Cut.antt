-- The first significant digits of a number, the digit in place of the others, and the text
-- without separators that std reads.
use Rattle.std.specs.Prelude.{◌≡◌, ℕ, ◌+◌, ◌*◌, ◌/◌, ◌%◌, ◌^◌, ◌<◌, ◌≤◌, Bool, true, false, if◌then◌else◌, nat_lt, List, [], ◌∷◌, ◌++◌, take, length}
use Rattle.std.specs.Float.Numeral.{Parts, text_of}
use Rattle.std.specs.Str.Parse.{AllDigits, digits_value}
use Rattle.digit_floats.specs.declared.long.Kept.{Kept}

-- how many digits are kept
abbrev pub room : ℕ
room = 1420

-- number is value and then so many digits more, which aren't all zeros where `more` says so
pub record IsCut (number value cut : ℕ) (more : Bool) : Type 0 where
  pub least : value * 10 ^ cut ≤ number
  pub most : number < (value + 1) * 10 ^ cut
  pub same : more ≡ false → number ≡ value * 10 ^ cut
  pub above : more ≡ true → value * 10 ^ cut < number

-- the bytes begin with the first significant digits of a number: all, or as many as are kept
pub record IsKept (bytes : List ℕ) (kept : Kept) (number : ℕ) : Type 0 where
  pub digits : AllDigits 10 (take kept.len bytes)
  pub is : IsCut number (digits_value 10 (take kept.len bytes)) kept.cut kept.more
  pub first : 0 < kept.len → 10 ^ kept.len ≤ digits_value 10 (take kept.len bytes) * 10
  pub fits : kept.len ≤ room
  pub full : 0 < kept.cut → kept.len ≡ room

-- the digit in place of those that are cut
abbrev pub last_digit : Bool → ℕ
last_digit more = if more then 1 else 0

-- a number below 10,000 in four digits
abbrev pub four_digits : ℕ → List ℕ
four_digits n =
    let h = n / 10 / 10 in
    (48 + h / 10) ∷ (48 + h % 10) ∷ (48 + n / 10 % 10) ∷ (48 + n % 10) ∷ []

-- the digits, one in place of those that are cut, and ten to `up` or to minus `down`
abbrev pub cut_parts : List ℕ → Bool → ℕ → ℕ → Parts
cut_parts digits more up down =
    let p : Parts = record {
      whole = digits ++ (48 + last_digit more) ∷ [];
      point = false;
      fraction = [];
      exponent_negative = nat_lt 0 down;
      exponent = four_digits (if nat_lt 0 down then down else up);
      len = 0;
    } in
    record p { len = length (text_of p) }
