use Rattle.std.proofs.Common.{◌+◌, arith}
use Rattle.digit_writers.proofs.Decimals.{parts_written}
use Rattle.digit_writers.proofs.digits.put_eight.Goals as goal

pub returns : goal.returns
returns c =
    let first = c.put_four in
    let second = c.put_four-2 in
    parts_written c.args.out.now first.new.out second.new.out c.args.at (c.args.at + 8) 4 4
    c.args.n first.ensures second.ensures (omega arith) c.requires.room
