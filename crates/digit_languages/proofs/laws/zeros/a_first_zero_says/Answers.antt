use Rattle.digit_languages.proofs.FirstZeros.{plain_is_never_refused, octal_is_never_refused, octal_is, alone_is_refused, zeros_are_refused}
use Rattle.digit_languages.proofs.laws.zeros.a_first_zero_says.Goals as goal

pub returns-clause-plain : goal.returns-clause-plain
returns-clause-plain c = λ l text start most at is.
    plain_is_never_refused l text start most at is

pub returns-clause-octal : goal.returns-clause-octal
returns-clause-octal c = λ l text start most word at is.
    octal_is_never_refused l text start most word at is

pub returns-clause-octal_is : goal.returns-clause-octal_is
returns-clause-octal_is c = λ l text start most word value end is zero none.
    octal_is l text start zero none most value end word is

pub returns-clause-alone : goal.returns-clause-alone
returns-clause-alone c = λ l text start most value end is zero none reads.
    alone_is_refused l text start zero none most value end reads is

pub returns-clause-zeros : goal.returns-clause-zeros
returns-clause-zeros c = λ l text start most value end is zero none reads.
    zeros_are_refused l text start zero none most value end reads is
