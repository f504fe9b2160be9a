use Rattle.digit_totals.proofs.FloatTexts.{nan_text}
use Rattle.digit_totals.proofs.text.nan_text.Goals as goal

pub returns : goal.returns
returns c = rw c.as_slice.ensures (nan_text c.args.value c.requires)
