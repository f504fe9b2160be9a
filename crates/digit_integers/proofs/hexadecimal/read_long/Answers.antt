use Rattle.std.proofs.Common.{◌+◌, ◌-◌, ◌*◌, ◌%◌, ◌<◌, length, ap, arith}
use Rattle.std.proofs.Math.Nat.{mod-lt}
use Rattle.digit_integers.proofs.Hexadecimals.{both_hexadecimal, at_most_digits, scaled_fits, some_scale, to_there}
use Rattle.digit_integers.proofs.hexadecimal.read_long.Goals as goal

pub overflow_mul-result : goal.overflow_mul-result
overflow_mul-result c =
    let first = c.in-Some.first in
    let count = length c.args.text.now - c.args.start - 8 in
    let few =
    at_most_digits c.args.start (c.args.start + 8) first 8 c.in-Some.ensures.is.few (omega arith) in
    let fits = scaled_fits first count few (omega (arith, c.if-bytes-gt16.false)) in
    let some = some_scale count in
    omega (arith, fits, some, ap (λ k. first * k) c.sixteen_to-scale.ensures)

pub nonzero_rem-result : goal.nonzero_rem-result
nonzero_rem-result c =
    let some = some_scale (length c.args.text.now - c.args.start - 8) in
    omega (arith, some, c.sixteen_to-scale.ensures)

pub overflow_add-result : goal.overflow_add-result
overflow_add-result c =
    let first = c.in-Some.first in
    let last = c.in-Some-eight_from.last in
    let scale = c.sixteen_to-scale.result in
    let count = length c.args.text.now - c.args.start - 8 in
    let few =
    at_most_digits c.args.start (c.args.start + 8) first 8 c.in-Some.ensures.is.few (omega arith) in
    let fits = scaled_fits first count few (omega (arith, c.if-bytes-gt16.false)) in
    let some : 0 < scale = omega (arith, some_scale count, c.sixteen_to-scale.ensures) in
    let below : last % scale < scale = mod-lt last some in
    omega (
      arith,
      fits,
      below,
      c.sixteen_to-scale.ensures,
      ap (λ k. first * k) c.sixteen_to-scale.ensures,
    )

pub returns : goal.returns
returns c = λ _.
    let text = c.args.text.now in
    let rule = c.args.rule in
    let first = c.in-Some.first in
    let last = c.in-Some-eight_from.last in
    let count = length text - c.args.start - 8 in
    both_hexadecimal rule text c.args.start c.requires.sixteen first last count
    (omega (arith, c.requires.eight)) (omega (arith, c.if-bytes-gt16.false)) c.in-Some.ensures.is
    (to_there rule text (length text - 8) (length text) (length text - 8 + 8) last
    (omega (arith, c.requires.eight)) c.in-Some-eight_from.ensures.is) _
    (ap (λ k. first * k + last % k) c.sixteen_to-scale.ensures)
