use Rattle.digit_streams.specs.Streams.{stream_list}
use Rattle.digit_streams.proofs.Given.{given_here, more_bytes, none_yet}
use Rattle.digit_streams.proofs.Passed.{found_known, found_whole}
use Rattle.digit_streams.proofs.reader.NumberReader.pass_byte.Goals as goal

pub returns-clause-given : goal.returns-clause-given
returns-clause-given g c = λ known uses.
    let find = c.find_byte.ensures in
    found_whole _ _ _ _ _ known _ _ uses find.uses find.passes

pub returns-clause-given_from : goal.returns-clause-given_from
returns-clause-given_from g c = λ start known uses.
    let find = c.find_byte.ensures in
    found_known _ _ start _ _ _ known _ _ uses find.uses find.passes

pub returns-clause-given_none : goal.returns-clause-given_none
returns-clause-given_none g c = λ start known uses.
    let k = g.K.Kind in
    let reader = c.args.self.now in
    let one = k.number_at reader.kind in
    let at = c.find_byte.new.self.position in
    given_here (stream_list one k.none_at k.error_later reader.gap) start at known _
    (none_yet one k.none_at k.error_later reader.gap at)
    (more_bytes start _ _ known _ _ uses c.find_byte.ensures.uses)
