use Rattle.digit_writers.proofs.InThousands.{group_written}
use Rattle.digit_writers.proofs.thousands.put_group.Goals as goal

pub returns : goal.returns
returns c =
    group_written c.args.separator c.args.out.now c.put_three.new.out c.args.at c.args.n
    c.requires.room c.put_three.ensures
