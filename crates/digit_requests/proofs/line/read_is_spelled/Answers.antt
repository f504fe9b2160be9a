use Rattle.digit_requests.proofs.Spelled.{read_spells, spells_read}
use Rattle.digit_requests.proofs.line.read_is_spelled.Goals as goal

pub returns-clause-read : goal.returns-clause-read
returns-clause-read c = read_spells

pub returns-clause-spelled : goal.returns-clause-spelled
returns-clause-spelled c = spells_read
