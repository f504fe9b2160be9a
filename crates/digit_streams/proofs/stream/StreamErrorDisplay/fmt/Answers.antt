use Rattle.std.proofs.Common.{rules, ◌≡◌}
use Rattle.std.specs.Prelude.{codes, decimal, Some}
use Rattle.digit_streams.proofs.Messages.{three_before}
use Rattle.digit_streams.proofs.stream.StreamErrorDisplay.fmt.Goals as goal

pub returns-in-Trailing-default-Some-clause-writes :
    goal.returns-in-Trailing-default-Some-clause-writes
returns-in-Trailing-default-Some-clause-writes g c =
    let it = c.in-Trailing-default-Some in
    let is : it.field-1 ≡ Some it.error = search rules in
    rw (
      it.is,
      is,
      three_before (codes "the byte at ") (decimal it.at) (codes " follows the numbers: ")
          (g.E.Display.output it.error),
    ) (search rules)
