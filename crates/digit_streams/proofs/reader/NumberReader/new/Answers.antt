use Rattle.digit_streams.proofs.Given.{given_all}
use Rattle.digit_streams.proofs.reader.NumberReader.new.Goals as goal

pub returns-clause-given : goal.returns-clause-given
returns-clause-given g c = given_all _ _ _ _ _ _ c.new_at.ensures.given
