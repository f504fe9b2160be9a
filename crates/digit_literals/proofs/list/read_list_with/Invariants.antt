use Rattle.std.proofs.Common.{◌≡◌, ◌≤◌, length}
use Rattle.digit_literals.proofs.Lists.{SoFar}
use Rattle.digit_literals.proofs.list.read_list_with.Given as goal

abbrev pub invariant-loop-count : goal.invariant-loop-count
invariant-loop-count g l =
    let r = g.R.ReadsOne in
    record {
      so : SoFar r.meaning (r.number_at l.reads l.text) r.none_at l.gap l.text l.start l.count l.at
          l.initial.out l.out;
      onward : l.start ≤ l.at;
      within : l.at ≤ length l.text;
      room : l.count-end ≡ length l.initial.out;
    }
