use Rattle.float_writers.proofs.NoLonger.{float_no_longer}
use Rattle.float_writers.proofs.ReadBack.{float_read, float_one}
use Rattle.float_writers.proofs.laws.floats_are_read_back.Goals as goal

pub returns-clause-read : goal.returns-clause-read
returns-clause-read c = float_read

pub returns-clause-one : goal.returns-clause-one
returns-clause-one c = float_one

pub returns-clause-no_longer : goal.returns-clause-no_longer
returns-clause-no_longer c = float_no_longer
