use Rattle.std.proofs.Common.{◌≡◌, ℕ, ◌+◌, ◌/◌, ◌%◌, ◌^◌, ap, ◌∙◌, arith}
use Rattle.std.specs.List.{splice}
use Rattle.digit_writers.specs.Layouts.{thousands_after}
use Rattle.digit_writers.proofs.InThousands.{tail_length, tails_written}
use Rattle.digit_writers.proofs.thousands.put_two_groups.Goals as goal

pub returns : goal.returns
returns c =
    let n = c.args.n in
    let at = c.args.at in
    let separator = c.args.separator in
    let first = c.put_group in
    let second = c.put_group-2 in
    let last : at + 4 + 4 ≡ at + 8 = omega arith in
    tails_written separator c.args.out.now first.new.out second.new.out at (at + 4) (at + 8) 3 3 n
    (omega arith) (omega arith) (omega arith)
    (omega (arith, tail_length separator 3 (n / 10 ^ 3)))
    (omega (arith, tail_length separator 3 (n % 10 ^ 3))) c.requires.room first.ensures
    (second.ensures ∙ ap
    (λ (e : ℕ). splice first.new.out (at + 4) e (thousands_after separator 3 (n % 10 ^ 3)))
    last)
