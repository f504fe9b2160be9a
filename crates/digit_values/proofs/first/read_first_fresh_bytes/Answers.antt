use Rattle.std.proofs.Common.{arith}
use Rattle.lexical_digits.specs.Laws.Terms.{IsState}
use Rattle.lexical_digits.specs.State.{start, with_cursor}
use Rattle.lexical_digits.proofs.Calls.Stops.{leading_between}
use Rattle.digit_values.proofs.States.{own_of_fresh}
use Rattle.digit_values.proofs.first.read_first_fresh_bytes.Goals as goal

pub returns : goal.returns
returns c =
    let k = c.args.component in
    let s = with_cursor (start c.args.text.now c.args.word) c.args.start in
    let valid : IsState s = grind arith in
    let fresh = c.new-bytes.ensures.state in
    let moved = rw fresh at c.set_cursor.ensures.moves in
    let read = rw moved at c.read_first_bytes-digits.ensures in
    let between = leading_between k s valid in
    let none = own_of_fresh k c.args.text.now c.args.word c.args.start in
    let first = rw (between, none) at read.first in
    grind (arith, first)
