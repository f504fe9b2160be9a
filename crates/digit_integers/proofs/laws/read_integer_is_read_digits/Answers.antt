use Rattle.digit_integers.proofs.Fresh.{reads, finds_none, passes}
use Rattle.digit_integers.proofs.laws.read_integer_is_read_digits.Goals as goal

pub returns-clause-ok : goal.returns-clause-ok
returns-clause-ok c = λ k s left value v fresh h. reads k s v fresh value left h

pub returns-clause-empty : goal.returns-clause-empty
returns-clause-empty c = λ k s left at v fresh h. finds_none k s v fresh at left h

pub returns-clause-overflow : goal.returns-clause-overflow
returns-clause-overflow c = λ k s left over v fresh h. passes k s v fresh over left h
