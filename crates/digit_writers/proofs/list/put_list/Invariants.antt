use Rattle.std.proofs.Common.{◌≡◌, ◌≤◌, length, drop, map}
use Rattle.digit_writers.specs.Lists.{list_text, IsListSoFar}
use Rattle.digit_writers.proofs.list.put_list.Given as goal

abbrev pub invariant-loop-i : goal.invariant-loop-i
invariant-loop-i g l =
    let t = g.T.Integer in
    record {
      so : IsListSoFar l.separator (list_text l.separator (map t.number l.numbers))
          (map t.number (drop l.i l.numbers)) l.at l.fn.out l.out;
      end : l.i-end ≡ length l.numbers;
      onward : l.i ≤ l.i-end;
    }
