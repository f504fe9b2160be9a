use Rattle.std.proofs.Common.{◌≡◌, ℕ, ◌/◌, ap, arith}
use Rattle.digit_writers.specs.Layouts.{digit_count}
use Rattle.digit_writers.proofs.Counting.{count_more, count_most, less}
use Rattle.digit_writers.proofs.groups.count_digits.Goals as goal

pub overflow_add-count : goal.overflow_add-count
overflow_add-count c =
    let most = count_most c.args.radix c.args.n c.requires.low (omega (arith, c.ranges.n.fits)) in
    omega (arith, c.loop-left.invariant, most)

pub loop-left-preserved : goal.loop-left-preserved
loop-left-preserved c =
    let l = c.loop-left in
    let same : c.from-left.result ≡ c.args.radix = omega arith in
    let low = c.requires.low in
    let step = count_more c.args.radix low l.left (omega (arith, c.ranges.radix.fits)) in
    omega (arith, l.invariant, step, ap (λ (r : ℕ). digit_count c.args.radix (l.left / r)) same)

pub loop-left-smaller : goal.loop-left-smaller
loop-left-smaller c =
    let l = c.loop-left in
    let same : c.from-left.result ≡ c.args.radix = omega arith in
    let small = less c.args.radix c.requires.low l.left (omega (arith, c.ranges.radix.fits)) in
    omega (arith, small, ap (λ (r : ℕ). l.left / r) same)

pub count_narrow-requires-clause-few : goal.count_narrow-requires-clause-few
count_narrow-requires-clause-few c =
    let l = c.loop-left in
    let same : c.from.result ≡ c.args.radix = omega arith in
    let most = count_most c.args.radix c.args.n c.requires.low (omega (arith, c.ranges.n.fits)) in
    omega (arith, l.invariant, most, ap (λ (r : ℕ). digit_count r l.left) same)

pub returns-clause-is : goal.returns-clause-is
returns-clause-is c =
    let l = c.loop-left in
    let same : c.from.result ≡ c.args.radix = omega arith in
    omega (arith, l.invariant, c.count_narrow.ensures, ap (λ (r : ℕ). digit_count r l.left) same)

pub returns-clause-few : goal.returns-clause-few
returns-clause-few c =
    let l = c.loop-left in
    let same : c.from.result ≡ c.args.radix = omega arith in
    let most = count_most c.args.radix c.args.n c.requires.low (omega (arith, c.ranges.n.fits)) in
    omega (
      arith,
      l.invariant,
      most,
      c.count_narrow.ensures,
      ap (λ (r : ℕ). digit_count r l.left) same,
    )
