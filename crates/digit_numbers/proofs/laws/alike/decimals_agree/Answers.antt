use Rattle.digit_numbers.proofs.AsDecimal.{same_decimal_end, same_sign, same_value}
use Rattle.digit_numbers.proofs.laws.alike.decimals_agree.Goals as goal

pub returns-clause-end : goal.returns-clause-end
returns-clause-end c = λ f text start format n d end stop.
    same_decimal_end f text start format n d end stop

pub returns-clause-sign : goal.returns-clause-sign
returns-clause-sign c = λ f text start format negative magnitude word end stop d.
    same_sign f text start negative magnitude word end format d stop

pub returns-clause-magnitude : goal.returns-clause-magnitude
returns-clause-magnitude c = λ f text start format negative magnitude word end stop d form.
    same_value f text start negative magnitude word end format d stop form
