use Rattle.std.proofs.Common.{◌+◌, ◌-◌, refl, arith}
use Rattle.digit_words.proofs.Joined.{part_decimal}
use Rattle.digit_words.proofs.Joined.{join}
use Rattle.digit_words.proofs.eight.nine_to_sixteen_at.Goals as goal

pub one_to_eight_at-value-requires-clause-digits : goal.one_to_eight_at-value-requires-clause-digits
one_to_eight_at-value-requires-clause-digits c =
    part_decimal c.args.text.now c.args.at c.args.count 8 (c.args.count - 8) c.requires.digits
    (omega arith)

pub returns-clause-is : goal.returns-clause-is
returns-clause-is c =
    join c.args.text.now c.args.at 8 (c.args.count - 8) (c.args.at + 8) c.args.count
    c.one_to_eight_at-first.result c.one_to_eight_at-value.result c.join.result refl (omega arith)
    c.one_to_eight_at-first.ensures.is c.one_to_eight_at-value.ensures.is c.join.ensures.is
