use Rattle.digit_languages.proofs.Before.{none_at}
use Rattle.digit_numbers.specs.Follows.{is_number_byte}
use Rattle.digit_numbers.proofs.WhatFollows.{outcome_same, through_same, cut_same, whole_is}
use Rattle.digit_numbers.proofs.laws.follows.what_follows_changes_no_outcome.Goals as goal

pub returns-clause-outcome : goal.returns-clause-outcome
returns-clause-outcome c = λ f one other at start format upto from.
    outcome_same f one other at upto start from format

pub returns-clause-through : goal.returns-clause-through
returns-clause-through c = through_same

pub returns-clause-cut : goal.returns-clause-cut
returns-clause-cut c = cut_same

pub returns-clause-whole : goal.returns-clause-whole
returns-clause-whole c = λ f text at start format n within ends from.
    whole_is f text at start format within ends from n

pub returns-clause-byte : goal.returns-clause-byte
returns-clause-byte c = λ f. none_at (is_number_byte f)
