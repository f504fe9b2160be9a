use Rattle.float_writers.proofs.Rows.{row_at}
use Rattle.float_writers.proofs.powers.row.Goals as goal

pub returns : goal.returns
returns c = row_at c.args.power c.requires
