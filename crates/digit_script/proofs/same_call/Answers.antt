use Rattle.std.proofs.Common.{sym, ◌∙◌}
use Rattle.digit_script.proofs.CallEquality.{equal_calls}
use Rattle.digit_script.proofs.same_call.Goals as goal

pub returns-clause-same : goal.returns-clause-same
returns-clause-same c = λ e. equal_calls c.args.a c.args.b (sym c.eq.ensures ∙ e)
