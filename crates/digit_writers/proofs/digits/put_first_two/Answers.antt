use Rattle.std.proofs.Common.{refl}
use Rattle.digit_writers.proofs.Decimals.{digit_fits, digit_ends, digit_written, two_fit, two_end, two_all}
use Rattle.digit_writers.proofs.digits.put_first_two.Goals as goal

pub bounds-out-at : goal.bounds-out-at
bounds-out-at c = digit_fits c.args.n _ _ c.if-n-lt10.true c.requires.room

pub returns-then-n-lt10-clause-end : goal.returns-then-n-lt10-clause-end
returns-then-n-lt10-clause-end c = digit_ends c.args.n _ c.if-n-lt10.true

pub returns-then-n-lt10-clause-written : goal.returns-then-n-lt10-clause-written
returns-then-n-lt10-clause-written c =
    digit_written _ _ c.args.n _ c.if-n-lt10.true refl
    (digit_fits c.args.n _ _ c.if-n-lt10.true c.requires.room)

pub put_two-requires-clause-room : goal.put_two-requires-clause-room
put_two-requires-clause-room c =
    two_fit c.args.n _ _ c.if-n-lt10.false c.requires.below c.requires.room

pub returns-clause-end : goal.returns-clause-end
returns-clause-end c = two_end c.args.n _ c.if-n-lt10.false c.requires.below

pub returns-clause-written : goal.returns-clause-written
returns-clause-written c =
    two_all _ _ _ c.args.n c.if-n-lt10.false c.requires.below c.put_two.ensures
