-- The bits of a float by its value.
use Rattle.std.proofs.Common.{◌≡◌, ℕ, ◌+◌, ◌-◌, ◌*◌, ◌/◌, ◌^◌, Bool, cond, ap, ◌∙◌}
use native.Mathlib.Nat.{mul-div_cancel}
use lib.Ieee.{Float, Format, nan, inf, fin, prec, low, hid, top, size, up, down, to_bits}
use lib.Ieee.Fits.{down_pos}
use lib.Ieee.Exact.{HasValue}

pub bits_of_value : (f : Format) (x : Float) (s : Bool) (a : ℕ) → HasValue x s a (2 ^ low f)
    → to_bits f x ≡ cond s (top f) 0 + (size a - prec f) * hid f + a / 2 ^ (size a - prec f)
unfolding to_bits
bits_of_value f nan s a v = absurd v
bits_of_value f (inf t) s a v = absurd v
bits_of_value f (fin t m e) s a v =
    let n : m * up e * 2 ^ low f / down e ≡ a =
    ap (λ (k : ℕ). k / down e) v.1 ∙ mul-div_cancel a (down_pos e) in
    λ i. cond (v.0 i) (top f) 0 + (size (n i) - prec f) * hid f + n i / 2 ^ (size (n i) - prec f)
