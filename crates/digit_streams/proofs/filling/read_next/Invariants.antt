-- The list of what is left is the whole list.
use Rattle.std.proofs.Common.{◌≡◌, ◌-◌, true, [], length, drop, IfSome}
use Rattle.std.specs.Io.KnownBytes.{IsAtEnd}
use Rattle.digit_pieces.specs.Texts.{IsApart}
use Rattle.digit_streams.specs.Windows.{unread, bytes_left}
use Rattle.digit_streams.specs.Streams.{GoesOn, UsesKnown, stream_list}
use Rattle.digit_streams.proofs.Ends.{IsTurn}
use Rattle.digit_streams.proofs.filling.read_next.Given as goal

abbrev pub invariant-loop-turn : goal.invariant-loop-turn
invariant-loop-turn g l =
    let k = g.K.Kind in
    let first = l.initial.window in
    let text = bytes_left first (g.R.Read.remaining l.initial.reader) in
    let list = stream_list (k.number_at l.kind) k.none_at k.error_later l.gap in
    record {
      turns : IsTurn l.turn l.is_over l.window.position (length (unread l.window));
      capacity : length l.window.buffer.now ≡ length first.buffer.now;
      last : l.is_over ≡ true → IsAtEnd (g.R.Read.remaining l.reader);
      uses : UsesKnown first.position l.window.position text
          (bytes_left l.window (g.R.Read.remaining l.reader));
      goes_on : IfSome text (λ whole. IsApart (k.has_byte l.kind) l.gap →
          GoesOn (list first.position whole 1) []
          (list l.window.position (drop (l.window.position - first.position) whole) 1));
    }
