use Rattle.std.proofs.Common.{rules}
use Rattle.digit_pieces.proofs.Theorem.{AreNumbers}
use Rattle.digit_streams.specs.Windows.{unread}
use Rattle.digit_streams.proofs.Reasons.{reason_stays}
use Rattle.digit_streams.proofs.reader.NumberReader.reason.Goals as goal

pub returns-clause-stays : goal.returns-clause-stays
returns-clause-stays g c =
    let k = g.K.Kind in
    let m = g.met.K.Kind in
    let reader = c.self.inside in
    let kind = reader.format.kind in
    let valid = reader.format.valid in
    let are : AreNumbers (k.number_at kind) k.none_at k.error_later (k.has_byte kind) = record {
      follows = λ text other at start upto from. m.follows kind text other at start valid upto from;
      precedes = λ text from at within fresh. m.precedes kind text from at valid within fresh;
      ends = λ text start end x within is. m.ends kind text start end x valid within is;
      none_later = m.none_later;
    } in
    rw (← c.self.view_is)
    (reason_stays (k.number_at kind) k.none_at k.error_at k.error_later (k.has_byte kind)
    reader.format.gap are reader.window.position (unread reader.window) reader.is_over
    (g.R.Read.remaining reader.reader) c.reason_held.result c.reason_held.ensures (search rules))
