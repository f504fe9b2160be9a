-- What shows that the zeros of a component are passed, off the slice or by a `Bytes`.
use Rattle.std.proofs.lemmas.Int.{ints}
use Rattle.lexical_digits.specs.Laws.Table.{own_fits, place_from, with_own_buffer, with_own_cursor, with_own_word}
use Rattle.lexical_digits.proofs.Calls.ItemsOfComponents.{zero_there, zeros_none, past_none}
use Rattle.lexical_digits.proofs.Calls.Rest.{zeros_onward}
use Rattle.lexical_digits.proofs.Looks.Needed.{none_needed}
use Rattle.digit_values.proofs.States.{owed_same}

pub ruleset passing =
    (ints, own_fits, owed_same, with_own_buffer, with_own_word, zeros_onward, none_needed)

pub ruleset counting = (zero_there, zeros_none, past_none, with_own_cursor, place_from)
