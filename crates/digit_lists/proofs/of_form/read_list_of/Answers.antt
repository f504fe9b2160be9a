use Rattle.digit_lists.proofs.of_form.read_list_of.Goals as goal

pub returns-clause-is : goal.returns-clause-is
returns-clause-is g c = rw c.new.ensures at c.read_list_with.ensures.is
