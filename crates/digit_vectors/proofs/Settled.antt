-- `next` leaves the same with and without a `peek` before it.
use Rattle.std.proofs.Common.{◌≡◌}
use Rattle.lexical_digits.specs.declared.skip.component.Component.{Component}
use Rattle.lexical_digits.specs.CallTable.{settled, taken}
use Rattle.lexical_digits.specs.Laws.Table.{digit_laws}
use Rattle.lexical_digits.specs.Looks.{Held}

pub taken_settled : (k : Component) (h : Held) → taken k (settled k h.state) ≡ taken k h.state
taken_settled k h = (digit_laws k).settled_taken h.state h.holds
