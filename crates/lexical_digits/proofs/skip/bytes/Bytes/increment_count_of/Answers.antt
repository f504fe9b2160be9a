use Rattle.lexical_digits.proofs.Fields.CarriedByCursor.{state_counted, carried}
use Rattle.lexical_digits.proofs.skip.bytes.Bytes.increment_count_of.Goals as goal

pub invariant_of-self-inside : goal.invariant_of-self-inside
invariant_of-self-inside c =
    carried c.self.inside c.add_digits.ensures
    (state_counted c.args.digits c.args.component _ c.self.inside.holds)
