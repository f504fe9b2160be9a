use Rattle.std.proofs.Common.{◌≡◌, ℕ, ◌+◌, ◌/◌, ◌%◌, ◌^◌, ap, ◌∙◌, arith}
use Rattle.std.specs.List.{splice}
use Rattle.digit_writers.specs.Layouts.{thousands_after}
use Rattle.digit_writers.proofs.InThousands.{tail_length, tails_written}
use Rattle.digit_writers.proofs.thousands.put_six_groups.Goals as goal

pub returns : goal.returns
returns c =
    let n = c.args.n in
    let at = c.args.at in
    let separator = c.args.separator in
    let first = c.put_two_groups in
    let second = c.put_four_groups in
    let last : at + 8 + 16 ≡ at + 24 = omega arith in
    tails_written separator c.args.out.now first.new.out second.new.out at (at + 8) (at + 24) 6 12 n
    (omega arith) (omega arith) (omega arith)
    (omega (arith, tail_length separator 6 (n / 10 ^ 12)))
    (omega (arith, tail_length separator 12 (n % 10 ^ 12))) c.requires.room first.ensures
    (second.ensures ∙ ap
    (λ (e : ℕ). splice first.new.out (at + 8) e (thousands_after separator 12 (n % 10 ^ 12)))
    last)
