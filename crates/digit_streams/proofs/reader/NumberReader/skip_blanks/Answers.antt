use Rattle.digit_streams.proofs.Passed.{blanks_before}
use Rattle.digit_streams.proofs.reader.NumberReader.skip_blanks.Goals as goal

pub returns-clause-past : goal.returns-clause-past
returns-clause-past g c =
    rw (← c.self.view_is)
    (blanks_before c.self.inside.format.gap _ _ _ c.in-Ok.ensures.next)
