use Rattle.digit_numbers.specs.Numbers.{number_of_at}
use Rattle.digit_numbers.proofs.Formats.{alike, same_end, same_integer, same_error}
use Rattle.digit_numbers.proofs.laws.alike.formats_agree.Goals as goal

pub returns-clause-alike : goal.returns-clause-alike
returns-clause-alike c = alike

pub returns-clause-end : goal.returns-clause-end
returns-clause-end c = λ f text start one other n m end stop a b.
    same_end (number_of_at f text start one) (number_of_at f text start other) n m end stop
    (alike f text start one other) a b

pub returns-clause-integer : goal.returns-clause-integer
returns-clause-integer c = λ f text start one other negative magnitude word end a.
    same_integer (number_of_at f text start one) (number_of_at f text start other) negative
    magnitude word end (alike f text start one other) a

pub returns-clause-error : goal.returns-clause-error
returns-clause-error c = λ f text start one other error a.
    same_error (number_of_at f text start one) (number_of_at f text start other) error
    (alike f text start one other) a
