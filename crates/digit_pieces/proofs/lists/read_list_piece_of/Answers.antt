use Rattle.digit_pieces.proofs.lists.read_list_piece_of.Goals as goal

pub returns-clause-is : goal.returns-clause-is
returns-clause-is g c = rw c.new.ensures at c.read_piece.ensures.is
