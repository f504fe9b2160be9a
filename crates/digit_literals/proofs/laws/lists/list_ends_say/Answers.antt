use Rattle.digit_literals.proofs.laws.lists.list_ends_say.Goals as goal

pub returns : goal.returns
returns g c = rw c.new.ensures at c.any_list_ends_say.ensures
