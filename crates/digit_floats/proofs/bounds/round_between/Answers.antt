use Rattle.std.proofs.Common.{◌≡◌, ℕ, ◌+◌, ◌*◌, ◌/◌, ◌^◌, ◌<◌, ◌≤◌, ◌%◌, false, sym, ap, ◌∙◌, arith, mul-le-mul_right}
use lib.Pow.{pow_mono}
use lib.Ieee.{low, units, round}
use Rattle.digit_floats.specs.Near.{power_scale}
use Rattle.digit_floats.proofs.Within.{top, bottom, bottom_pos, part_of, as_both, above_product}
use Rattle.digit_floats.proofs.bounds.round_between.Goals as goal

pub returns-then-are_one : goal.returns-then-are_one
returns-then-are_one g c num den D is =
    let f = g.F.Float.format in
    let m = c.args.digits in
    let more = c.args.more in
    let q = c.args.power in
    let n = c.normalized-shifted in
    let z = n.result.1 in
    let t = c.row.result in
    let h : ℕ = n.result.0 * t / 2 ^ 64 in
    let v : ℕ = h + 2 + more * 2 ^ z % 2 ^ 64 in
    let above : ℕ = 64 + c.scale.result + c.least.result in
    let below : ℕ = 1200 + z in
    let product : n.result.0 * t ≡ m * 2 ^ z * t = ap (λ x. x * t) n.ensures.shifted in
    let few : m * 2 ^ z < 2 ^ 64 = omega (arith, n.type_inv, n.ensures.shifted) in
    let lower : h * 2 ^ 64 ≤ m * 2 ^ z * t = omega (arith, product) in
    let one : more * 2 ^ z ≤ 1 * 2 ^ z = mul-le-mul_right (2 ^ z) c.requires.more in
    let far : 2 ^ z ≤ 2 ^ 63 = pow_mono {j = 63} n.ensures.top.1 in
    let upper : (m + more) * 2 ^ z * (t + 1) ≤ v * 2 ^ 64 =
    omega (arith, product, one, far, above_product m more z t few c.row.ensures.fits) in
    let up : above ≡ 64 + power_scale q + low f =
    omega (arith, c.scale.ensures, c.least.ensures) in
    let down : below ≡ 1200 + z = omega arith in
    let first : units f false c.nearest_binary-count.result.0 c.nearest_binary-count.result.1
    ≡ round f false (top q h) (bottom z) =
    c.nearest_binary-count.ensures.is f (sym c.precision-precision.ensures.value) (top q h)
    (bottom z) (bottom_pos z) (part_of f q z h above below up down) in
    let last : units f false c.nearest_binary-last_count.result.0
    c.nearest_binary-last_count.result.1 ≡ round f false (top q v) (bottom z) =
    c.nearest_binary-last_count.ensures.is f (sym c.precision-precision.ensures.value) (top q v)
    (bottom z) (bottom_pos z) (part_of f q z v above below up down) in
    let same : round f false (top q h) (bottom z) ≡ round f false (top q v) (bottom z) =
    sym first ∙ c.are_one.ensures c.if-are_one.true f (sym c.precision-precision.ensures.value)
    ∙ last in
    c.of_units.ensures ∙ first
    ∙ as_both f num den m more q t z h v D c.requires.digits c.row.ensures is lower upper same
