use Rattle.std.proofs.Common.{arith}
use Rattle.digit_languages.proofs.BothSides.{moved_literal}
use Rattle.digit_numbers.proofs.BothSides.{moved_outcome}
use Rattle.digit_pieces.proofs.laws.precedes_form.what_precedes_changes_no_outcome.Goals as goal

pub returns-clause-number : goal.returns-clause-number
returns-clause-number c = moved_outcome

pub returns-clause-literal : goal.returns-clause-literal
returns-clause-literal c = λ l text from at most within fresh.
    moved_literal l text from (omega arith) fresh at most
