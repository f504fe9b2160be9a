use Rattle.digit_floats.proofs.WhatFollows.{from_upto, same_float}
use Rattle.digit_floats.proofs.laws.what_follows_changes_no_float.Goals as goal

pub returns : goal.returns
returns c = λ word marks one other at start f upto from.
    same_float word marks one other at (from_upto word marks one other at upto) start from f
