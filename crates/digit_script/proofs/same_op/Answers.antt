use Rattle.std.proofs.Common.{sym, ◌∙◌}
use Rattle.digit_script.proofs.Equality.{equal_is_same}
use Rattle.digit_script.proofs.same_op.Goals as goal

pub returns-clause-same : goal.returns-clause-same
returns-clause-same c = λ e. equal_is_same c.args.a c.args.b (sym c.eq.ensures ∙ e)
