use Rattle.digit_writers.proofs.ListReading.{list_back, full_back, parsed_back}
use Rattle.digit_writers.proofs.laws.lists_are_read_back.Goals as goal

pub returns-clause-read : goal.returns-clause-read
returns-clause-read c = λ word least most separator room gap z others by all l.
    list_back word least most separator gap by z others room all l

pub returns-clause-whole : goal.returns-clause-whole
returns-clause-whole c = λ word least most separator room gap numbers by all l trails.
    full_back word least most separator gap by numbers room all l trails

pub returns-clause-parsed : goal.returns-clause-parsed
returns-clause-parsed c = λ word least most separator room gap numbers by all l trails.
    parsed_back word least most separator gap by numbers room all l trails
