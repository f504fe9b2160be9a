-- What a mantissa says of its digits.
use Rattle.std.proofs.Common.{◌≡◌, ℕ, ◌+◌, ◌-◌, ◌*◌, ◌^◌, Bool, true, false, List, [], refl, arith}
use Rattle.std.specs.Prelude.{if◌then◌else◌, filter, slice_range}
use Rattle.std.specs.Char.{is_ascii_digit}
use Rattle.std.specs.Float.{Format}
use Rattle.std.specs.Float.Ieee.{round}
use Rattle.digit_floats.specs.Near.{IsCutAt}

-- no digit is between a position and itself
pub none_between : (text : List ℕ) (at : ℕ) → filter is_ascii_digit (slice_range text at at) ≡ []
none_between text at = let none : at - at ≡ 0 = omega arith in rw none refl

-- nothing was cut
pub exact_of : (n value cut : ℕ) → cut ≡ 0 → IsCutAt n value cut → value ≡ n
exact_of n value cut none is =
    let from = rw none at is.from in let to = rw none at is.to in omega (arith, from, to)

-- an exponent that is 0 changes nothing
pub no_power : (f : Format) (negative : Bool) (digits places n : ℕ) (down : Bool) → n ≡ 0
    → round f negative (digits * 10 ^ (if down then 0 else n))
    (10 ^ (places + (if down then n else 0)))
    ≡ round f negative digits (10 ^ places)
no_power f negative digits places n true none = rw none (grind arith)
no_power f negative digits places n false none = rw none (grind arith)
