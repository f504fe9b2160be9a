use Rattle.std.proofs.Common.{rules}
use Rattle.digit_writers.proofs.TableOfThree.{triple_written}
use Rattle.digit_writers.proofs.triples.put_three.Goals as goal

pub returns : goal.returns
returns c = search (rules, triple_written)
