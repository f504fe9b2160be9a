use Rattle.float_writers.proofs.Written.{number}
use Rattle.float_writers.proofs.write.shortest_of.Goals as goal

pub has_minus-negative-requires : goal.has_minus-negative-requires
has_minus-negative-requires g c = number (g.F.Float.value c.args.x) c.requires
