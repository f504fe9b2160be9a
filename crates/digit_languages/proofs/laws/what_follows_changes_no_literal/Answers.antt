use Rattle.digit_languages.proofs.Before.{none_at, same_as_cut, same_through}
use Rattle.digit_languages.proofs.WhatFollows.{same_literal}
use Rattle.digit_languages.proofs.laws.what_follows_changes_no_literal.Goals as goal

pub returns-clause-literal : goal.returns-clause-literal
returns-clause-literal c = λ l one other at start most upto from.
    same_literal l one other at upto start from most

pub returns-clause-cut : goal.returns-clause-cut
returns-clause-cut c = same_as_cut

pub returns-clause-through : goal.returns-clause-through
returns-clause-through c = same_through

pub returns-clause-byte : goal.returns-clause-byte
returns-clause-byte c = none_at
