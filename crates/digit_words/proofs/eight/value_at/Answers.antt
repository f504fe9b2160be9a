use Rattle.std.proofs.Common.{◌+◌, ◌-◌, ◌*◌, refl, ap, arith}
use Rattle.digit_words.proofs.Joined.{part_decimal}
use Rattle.digit_words.proofs.Joined.{join, few_thousands}
use Rattle.digit_words.proofs.eight.value_at.Goals as goal

pub one_to_eight_at-requires-2-clause-digits : goal.one_to_eight_at-requires-2-clause-digits
one_to_eight_at-requires-2-clause-digits c =
    part_decimal c.args.text.now c.args.at c.args.count 16 (c.args.count - 16) c.requires.digits
    (omega arith)

pub returns-clause-is : goal.returns-clause-is
returns-clause-is c =
    let n = c.args.count - 16 in
    let first = c.nine_to_sixteen_at-first.result in
    let last = c.one_to_eight_at-2.result in
    join c.args.text.now c.args.at 16 n (c.args.at + 16) c.args.count first last _ refl
    (omega arith) c.nine_to_sixteen_at-first.ensures.is c.one_to_eight_at-2.ensures.is
    (ap (λ scale. first * scale + last) c.small_ten_to.ensures.is)

pub overflow_mul-result : goal.overflow_mul-result
overflow_mul-result c =
    omega (
      arith,
      few_thousands c.nine_to_sixteen_at-first.result c.small_ten_to.result (c.args.count - 16)
          c.nine_to_sixteen_at-first.ensures.below (omega arith) c.small_ten_to.ensures.is,
    )

pub overflow_add-result : goal.overflow_add-result
overflow_add-result c =
    omega (
      arith,
      few_thousands c.nine_to_sixteen_at-first.result c.small_ten_to.result (c.args.count - 16)
          c.nine_to_sixteen_at-first.ensures.below (omega arith) c.small_ten_to.ensures.is,
      c.one_to_eight_at-2.ensures.below,
    )
