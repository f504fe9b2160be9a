use Rattle.std.proofs.Common.{arith}
use Rattle.digit_streams.proofs.Finished.{finished}
use Rattle.digit_streams.proofs.reader.NumberReader.finish.Goals as goal

pub returns-clause-ok : goal.returns-clause-ok
returns-clause-ok g c = grind (arith, finished)
