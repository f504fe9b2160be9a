use Rattle.digit_floats.proofs.Rows.{row_at}
use Rattle.digit_floats.proofs.powers.row.Goals as goal

pub returns : goal.returns
returns c = row_at c.args.power c.requires
