use Rattle.std.proofs.Common.{sym, ◌∙◌}
use Rattle.std.proofs.lemmas.List.{map-id}
use Rattle.digit_lists.proofs.items.read_items.Goals as goal

-- the front of the slice, by the word of its values as they are
pub returns-clause-front : goal.returns-clause-front
returns-clause-front g c = sym (map-id _) ∙ c.read_list_with.ensures.is.numbers
