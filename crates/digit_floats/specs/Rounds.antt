-- The float nearest to digits with a point and a power of ten.
use Rattle.std.specs.Prelude.{◌≡◌, ℕ, ◌+◌, ◌-◌, ◌*◌, ◌^◌, min, Bool, if◌then◌else◌, List, ◌++◌}
use Rattle.std.specs.Float.{Float, Format}
use Rattle.std.specs.Float.Ieee.{round}
use Rattle.std.specs.Str.Parse.{digits_value}
use Rattle.digit_floats.specs.declared.parts.Mantissa.{Mantissa}
use Rattle.digit_floats.specs.declared.parts.Power.{Power}
use Rattle.digit_floats.specs.Parts.{integer_of, fraction_of}

-- the float nearest to digits, of which the last `places` follow the point, times 10 ^ n, or
-- 10 ^ -n where `down` says so
abbrev pub nearest_decimal : Format → Bool → ℕ → ℕ → Bool → ℕ → Float
nearest_decimal f negative digits places down n =
    round f negative (digits * 10 ^ (if down then 0 else n))
    (10 ^ (places + (if down then n else 0)))

-- a float is the one nearest to a mantissa of a text and a power, however large its exponent is
abbrev pub IsRounded : Format → Bool → List ℕ → Mantissa → Power → Float → Type 0
IsRounded f negative text m p x =
    (n : ℕ) → p.value ≡ min n (2 ^ 64 - 1)
    → x ≡ nearest_decimal f negative (digits_value 10 (integer_of text m ++ fraction_of text m))
    m.places p.negative n
