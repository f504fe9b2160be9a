use Rattle.float_writers.proofs.ReadBack.{always}
use Rattle.float_writers.proofs.Written.{number, read_back}
use Rattle.float_writers.proofs.write.write_finite.Goals as goal

pub has_minus-negative-requires : goal.has_minus-negative-requires
has_minus-negative-requires g c = number (g.F.Float.value c.args.x) c.requires

pub returns-clause-reads : goal.returns-clause-reads
returns-clause-reads g c =
    let d = c.shortest_size-decimal in
    read_back g.F.Float.format
    (g.F.Float.value c.args.x) c.args.layout c.has_minus-negative.result d.result c.requires
    c.has_minus-negative.ensures d.ensures.shortest c.args.out.now c.write_decimal.new.out
    c.write_decimal.result c.write_decimal.ensures.reads

pub returns-clause-room : goal.returns-clause-room
returns-clause-room g c =
    let d = c.shortest_size-decimal in
    always c.args.layout c.has_minus-negative.result d.result c.args.out.now
    c.write_decimal.new.out c.write_decimal.result d.ensures.few d.ensures.least d.ensures.most
    c.write_decimal.ensures.writes
