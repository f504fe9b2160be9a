use Rattle.std.proofs.Common.{◌≡◌, [], length, take, sym, rules}
use Rattle.digit_writers.specs.Written.{IsOfType}
use Rattle.digit_writers.proofs.ListReading.{written_back, written_parsed}
use Rattle.digit_writers.proofs.ListTexts.{none_text, none_all}
use Rattle.digit_writers.proofs.list.write_list.Goals as goal

pub returns-then-is_empty-clause-reads : goal.returns-then-is_empty-clause-reads
returns-then-is_empty-clause-reads g c = λ word room gap by l trails.
    let t = g.T.Integer in
    let xs = c.args.numbers.now in
    let none : length xs ≡ 0 = search rules in
    written_back word t.MIN_MAGNITUDE t.MAX c.args.separator gap by t.number xs [] room
    (sym (none_text t.number c.args.separator xs none))
    (none_all t.number (IsOfType t.MIN_MAGNITUDE t.MAX) xs none) l trails

pub returns-then-is_empty-clause-parses : goal.returns-then-is_empty-clause-parses
returns-then-is_empty-clause-parses g c = λ word room gap by l trails.
    let t = g.T.Integer in
    let xs = c.args.numbers.now in
    let none : length xs ≡ 0 = search rules in
    written_parsed word t.MIN_MAGNITUDE t.MAX c.args.separator gap by t.number xs [] room
    (sym (none_text t.number c.args.separator xs none))
    (none_all t.number (IsOfType t.MIN_MAGNITUDE t.MAX) xs none) l trails

pub returns-clause-reads : goal.returns-clause-reads
returns-clause-reads g c = λ word room gap by l trails.
    let t = g.T.Integer in
    let text = take c.put_list.result c.put_list.new.out in
    written_back word t.MIN_MAGNITUDE t.MAX c.args.separator gap by t.number c.args.numbers.now
    text room c.put_list.ensures.written c.length_of_list-needed.ensures.of_type l trails

pub returns-clause-parses : goal.returns-clause-parses
returns-clause-parses g c = λ word room gap by l trails.
    let t = g.T.Integer in
    let text = take c.put_list.result c.put_list.new.out in
    written_parsed word t.MIN_MAGNITUDE t.MAX c.args.separator gap by t.number c.args.numbers.now
    text room c.put_list.ensures.written c.length_of_list-needed.ensures.of_type l trails
