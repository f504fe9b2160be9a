-- The value so far was made of the numbers that the reader gave so far.
use Rattle.std.proofs.Common.{◌≡◌}
use Rattle.digit_pieces.specs.Texts.{IsApart}
use Rattle.digit_streams.specs.Streams.{UsesKnown, stream_list}
use Rattle.digit_streams.proofs.Folding.{SoFar}
use Rattle.digit_streams.proofs.reader.NumberReader.fold_numbers.Given as goal

abbrev pub invariant-loop-turn : goal.invariant-loop-turn
invariant-loop-turn g l =
    let k = g.K.Kind in
    let old = l.initial.self in
    let now = l.self in
    record {
      kind : now.kind ≡ old.kind;
      gap : now.gap ≡ old.gap;
      capacity : now.capacity ≡ old.capacity;
      uses : UsesKnown old.position now.position old.bytes now.bytes;
      so_far : SoFar (λ value number next. g.F.Fn.post l.fn.step (value, (number, tt)) next)
          k.meaning l.fn.init (IsApart (k.has_byte old.kind) old.gap)
          (stream_list (k.number_at old.kind) k.none_at k.error_later old.gap) old now l.value;
    }
