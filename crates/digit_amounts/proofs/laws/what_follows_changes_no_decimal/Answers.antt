use Rattle.digit_floats.proofs.BothSides.{scaled_from}
use Rattle.digit_floats.proofs.WhatFollows.{from_upto, same_decimal}
use Rattle.digit_amounts.proofs.WhatFollows.{same_scaled}
use Rattle.digit_amounts.proofs.laws.what_follows_changes_no_decimal.Goals as goal

pub returns-clause-decimal : goal.returns-clause-decimal
returns-clause-decimal c = λ word marks one other at start upto from.
    same_decimal word marks one other at (from_upto word marks one other at upto) start from

pub returns-clause-scaled : goal.returns-clause-scaled
returns-clause-scaled c = λ word marks one other at places least most start upto from.
    same_scaled word marks.point one other at
    (scaled_from word marks one 0 other at (from_upto word marks one other at upto))
    places least most start from
