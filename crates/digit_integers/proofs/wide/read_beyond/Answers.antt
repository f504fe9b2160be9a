use Rattle.std.proofs.Common.{refl}
use Rattle.digit_integers.proofs.Texts.{wide_at}
use Rattle.digit_integers.proofs.wide.read_beyond.Goals as goal

pub returns-then-value-most-clause-ok : goal.returns-then-value-most-clause-ok
returns-then-value-most-clause-ok c _ =
    let read = c.in-Some.ensures in
    wide_at _ _ _ _ _ _ _ _ _ refl c.requires.beyond read.ends read.is c.if-value-most.true

pub returns-in-Ok-clause-ok : goal.returns-in-Ok-clause-ok
returns-in-Ok-clause-ok c _ =
    let read = c.in-Ok.ensures in
    wide_at _ _ _ _ _ _ _ _ _ c.of-rule.ensures c.requires.beyond c.stop_from-end.ensures.stops
    read.is read.fits
