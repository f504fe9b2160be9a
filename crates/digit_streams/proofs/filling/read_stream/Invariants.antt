-- The numbers so far, and then the list of what is left, are the whole list.
use Rattle.std.proofs.Common.{◌≡◌, ◌-◌, ◌≤◌, true, length, map, take, drop, IfSome}
use Rattle.std.specs.Io.KnownBytes.{IsAtEnd, prepend_known}
use Rattle.digit_pieces.specs.Texts.{IsApart}
use Rattle.digit_streams.specs.Windows.{unread}
use Rattle.digit_streams.specs.Streams.{GoesOn, UsesKnown, stream_list}
use Rattle.digit_streams.proofs.Ends.{IsTurn}
use Rattle.digit_streams.proofs.filling.read_stream.Given as goal

abbrev pub invariant-loop-turn : goal.invariant-loop-turn
invariant-loop-turn g l =
    let k = g.K.Kind in
    let first = l.initial.window in
    let text = prepend_known (unread first) (g.R.Read.remaining l.initial.reader) in
    let list = stream_list (k.number_at l.kind) k.none_at k.error_later l.gap in
    record {
      turns : IsTurn l.turn l.is_over l.window.position (length (unread l.window));
      capacity : length l.window.buffer.now ≡ length first.buffer.now;
      within : l.count ≤ length l.initial.out;
      rest : drop l.count l.out ≡ drop l.count l.initial.out;
      last : l.is_over ≡ true → IsAtEnd (g.R.Read.remaining l.reader);
      uses : UsesKnown first.position l.window.position text
          (prepend_known (unread l.window) (g.R.Read.remaining l.reader));
      goes_on : IfSome text (λ whole. IsApart (k.has_byte l.kind) l.gap →
          GoesOn (list first.position whole (length l.initial.out))
          (map k.meaning (take l.count l.out))
          (list l.window.position (drop (l.window.position - first.position) whole)
          (length l.initial.out - l.count)));
    }
