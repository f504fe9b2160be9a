use Rattle.digit_streams.specs.Streams.{stream_list}
use Rattle.digit_streams.proofs.Given.{given_here, more_bytes, none_yet}
use Rattle.digit_streams.proofs.reader.NumberReader.pass_blanks.Goals as goal

pub returns-clause-given_none : goal.returns-clause-given_none
returns-clause-given_none g c = λ start known uses.
    let k = g.K.Kind in
    let reader = c.args.self.now in
    let one = k.number_at reader.kind in
    let at = c.skip_blanks.new.self.position in
    given_here (stream_list one k.none_at k.error_later reader.gap) start at known _
    (none_yet one k.none_at k.error_later reader.gap at)
    (more_bytes start _ _ known _ _ uses c.skip_blanks.ensures.uses)
