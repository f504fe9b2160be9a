use Rattle.std.proofs.Common.{◌≡◌, ℕ, List, ◌≤◌, length}
use Rattle.digit_pieces.specs.Pieces.{SoFar}
use Rattle.digit_pieces.proofs.piece.read_rest.Given as goal

abbrev pub invariant-loop-count : goal.invariant-loop-count
invariant-loop-count g l =
    let k = g.K.Kind in
    let one = k.number_at l.kind l.text in
    record {
      so : (start : ℕ) (old : List _)
          → SoFar k.meaning one k.none_at l.gap l.text l.sure l.is_last start l.from l.begin old
          l.initial.out
          → SoFar k.meaning one k.none_at l.gap l.text l.sure l.is_last start l.count l.at old
          l.out;
      onward : l.begin ≤ l.at;
      within : l.at ≤ length l.text;
      room : l.count-end ≡ length l.initial.out;
      same : length l.out ≡ length l.initial.out;
    }
