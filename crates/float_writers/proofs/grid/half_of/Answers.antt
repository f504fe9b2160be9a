use Rattle.std.proofs.Common.{◌≡◌, ℕ, ◌-◌, ◌/◌, ◌%◌, ◌^◌, ◌<◌, sym, subst, arith}
use Rattle.float_writers.proofs.Place.{half_few}
use Rattle.float_writers.proofs.grid.half_of.Goals as goal

pub returns-clause-few : goal.returns-clause-few
returns-clause-few c =
    let a = c.args in
    let same : (5 - a.shift) % 64 ≡ 5 - a.shift = omega arith in
    subst (λ (x : ℕ). a.row / 2 ^ x < 2 ^ 127) (sym same)
    (half_few a.row a.shift c.ranges.row.fits c.requires.shift.1)
