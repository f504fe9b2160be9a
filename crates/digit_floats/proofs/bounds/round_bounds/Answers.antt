use Rattle.std.proofs.Common.{◌≡◌, ℕ, ◌+◌, ◌-◌, sym, ◌∙◌, arith}
use Rattle.std.specs.Prelude.{if◌then◌else◌}
use Rattle.digit_floats.proofs.Between.{is_between}
use Rattle.digit_floats.proofs.Within.{infinite, none}
use Rattle.digit_floats.proofs.Tens.{ten_pos}
use Rattle.digit_floats.proofs.bounds.round_bounds.Goals as goal

pub returns-then-up-below : goal.returns-then-up-below
returns-then-up-below g c n is =
    let up : ℕ = (if c.args.down then 0 else c.args.power) in
    let below : ℕ = c.args.places + (if c.args.down then c.args.power else 0) in
    c.signed.ensures _ _
    (c.of_units.ensures
    ∙ none g.F.Float.format n c.args.digits c.args.cut up below is c.requires.digits
    c.ranges.digits.fits
    (omega (arith, c.powers_of-up.ensures.up, c.powers_of-up.ensures.down)))

pub returns-then-up-below-ge-POWERS : goal.returns-then-up-below-ge-POWERS
returns-then-up-below-ge-POWERS g c n is =
    let up : ℕ = (if c.args.down then 0 else c.args.power) in
    let below : ℕ = c.args.places + (if c.args.down then c.args.power else 0) in
    c.signed-then-up-below-ge-POWERS.ensures _ _
    (c.infinity.ensures
    ∙ sym (infinite g.F.Float.format n c.args.digits c.args.cut up below is c.requires.digits
    (omega (arith, c.powers_of-up.ensures.up, c.powers_of-up.ensures.down))))

pub returns : goal.returns
returns g c n is =
    let up : ℕ = (if c.args.down then 0 else c.args.power) in
    let below : ℕ = c.args.places + (if c.args.down then c.args.power else 0) in
    let power : ℕ = c.powers_of-up.result.0 - c.powers_of-up.result.1 in
    let sum : power + below ≡ c.args.cut + 342 + up =
    omega (arith, c.powers_of-up.ensures.up, c.powers_of-up.ensures.down) in
    c.signed-2.ensures _ _
    (c.in_ok-x.ensures _ _ (ten_pos below)
    (rw c.min.ensures (is_between c.args.digits c.args.cut n up below power sum is)))
