-- The bytes that were used are blanks.
use Rattle.std.proofs.Common.{◌≡◌, ◌-◌, ◌≤◌, true, length, IfSome}
use Rattle.std.specs.Io.KnownBytes.{IsAtEnd}
use Rattle.digit_streams.specs.Windows.{unread, bytes_left}
use Rattle.digit_streams.specs.Streams.{SkipsBlanks, UsesKnown}
use Rattle.digit_streams.proofs.Ends.{IsTurn}
use Rattle.digit_streams.proofs.filling.pass_blanks.Given as goal

abbrev pub invariant-loop-turn : goal.invariant-loop-turn
invariant-loop-turn g l =
    let first = l.initial.window in
    let text = bytes_left first (g.R.Read.remaining l.initial.reader) in
    record {
      turns : IsTurn l.turn l.is_over l.window.position (length (unread l.window));
      capacity : length l.window.buffer.now ≡ length first.buffer.now;
      last : l.is_over ≡ true → IsAtEnd (g.R.Read.remaining l.reader);
      onward : first.position ≤ l.window.position;
      uses : UsesKnown first.position l.window.position text
          (bytes_left l.window (g.R.Read.remaining l.reader));
      blanks : IfSome text (λ whole. SkipsBlanks l.gap whole (l.window.position - first.position));
    }
