-- No number goes on with the byte before, so the lemmas on moved positions apply.
use Rattle.lexical_digits.specs.Moves.{byte_before}
use Rattle.lexical_digits.proofs.Calls.BothSides.{moved_stop}
use Rattle.digit_integers.proofs.BothSides.{moved_between, moved_integer, moved_number}
use Rattle.digit_floats.proofs.BothSides.{moved_float, moved_decimal}
use Rattle.digit_amounts.proofs.BothSides.{moved_scaled}
use Rattle.digit_pieces.specs.Laws.NoBytes.{other_of, no_scaled, no_float}
use Rattle.digit_pieces.proofs.laws.precedes.what_precedes_changes_no_number.Goals as goal

pub returns-clause-between : goal.returns-clause-between
returns-clause-between c = λ rule text from start end. moved_between rule text from start end

pub returns-clause-stop : goal.returns-clause-stop
returns-clause-stop c = λ rule text from start count within fresh.
    moved_stop rule text from within (other_of rule (byte_before text from) fresh) start count

pub returns-clause-integer : goal.returns-clause-integer
returns-clause-integer c = λ rule text from start most within fresh.
    moved_integer rule text from within (other_of rule (byte_before text from) fresh) start most

pub returns-clause-number : goal.returns-clause-number
returns-clause-number c = λ rule text from start least most within fresh.
    moved_number rule text from within (other_of rule (byte_before text from) fresh) least most
    start

pub returns-clause-float : goal.returns-clause-float
returns-clause-float c = λ word text marks f from start within fresh.
    moved_float word text from within marks (no_float word marks (byte_before text from) fresh)
    start f

pub returns-clause-decimal : goal.returns-clause-decimal
returns-clause-decimal c = λ word text marks from start within fresh.
    moved_decimal word text from within marks (no_float word marks (byte_before text from) fresh)
    start

pub returns-clause-scaled : goal.returns-clause-scaled
returns-clause-scaled c = λ word text from start point places least most within fresh.
    moved_scaled word text from within point (no_scaled word point (byte_before text from) fresh)
    places least most start
