use Rattle.std.proofs.Common.{◌≡◌, ℕ, ◌+◌, ◌-◌, ◌^◌, ◌≤◌, min, length, drop, map, All}
use Rattle.digit_writers.specs.Lists.{list_text, others_text}
use Rattle.digit_writers.specs.Written.{IsOfType}
use Rattle.digit_writers.proofs.list.length_of_list.Given as goal

abbrev pub invariant-loop-i : goal.invariant-loop-i
invariant-loop-i g l =
    let t = g.T.Integer in
    record {
      counted : (separator : ℕ)
          → min (l.count + length (others_text separator (map t.number (drop l.i l.numbers))))
          (2 ^ 64 - 1)
          ≡ min (length (list_text separator (map t.number l.numbers))) (2 ^ 64 - 1);
      of_type : All (IsOfType t.MIN_MAGNITUDE t.MAX) (map t.number (drop l.i l.numbers))
          → All (IsOfType t.MIN_MAGNITUDE t.MAX) (map t.number l.numbers);
      few : l.count ≤ 2 ^ 64 - 1;
      end : l.i-end ≡ length l.numbers;
      onward : l.i ≤ l.i-end;
    }
