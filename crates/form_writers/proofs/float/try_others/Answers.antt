use Rattle.form_writers.proofs.Tries.{held}
use Rattle.form_writers.proofs.float.try_others.Goals as goal

pub returns-in-None-clause-pointed : goal.returns-in-None-clause-pointed
returns-in-None-clause-pointed g c = held c.try_plain.result c.in-None.ensures.none
