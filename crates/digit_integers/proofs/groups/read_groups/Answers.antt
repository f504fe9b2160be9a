use Rattle.std.proofs.Common.{◌≡◌, ◌+◌, ◌*◌, ◌-◌, ◌%◌, ◌^◌, length, arith}
use Rattle.std.proofs.lemmas.Bool.Decides.{nat_tests}
use Rattle.digit_values.proofs.PlainDigits.{passed, counted}
use Rattle.digit_integers.proofs.Whole.{whole_plain}
use Rattle.digit_integers.proofs.InGroups.{group_more, groups_to_end}
use Rattle.digit_integers.proofs.groups.read_groups.Goals as goal

pub loop-end-init : goal.loop-end-init
loop-end-init c =
    let text = c.args.text.now in
    let count = (length text - c.args.start) % 4 in
    record {
      onward = omega arith;
      within = omega (arith, c.in_ok-value.ensures.within);
      fours = omega (arith, c.requires.within);
      groups = λ rule drops.
          let plain =
          whole_plain rule text c.args.start drops.ten count c.in_ok-value.value
          c.in_ok-value.ensures (2 ^ 64 - 1) (omega arith) in
          let all = counted _ _ _ plain in
          record {
            passed = passed _ _ _ plain;
            some = grind (arith, nat_tests, all, plain.onward);
            is = plain.worth.is;
          };
    }

pub loop-end-preserved : goal.loop-end-preserved
loop-end-preserved c =
    let before = c.loop-end.invariant in
    let sum : c.in_ok-value-2.value ≡ c.loop-end.value * 1000 + c.in_ok-group.group =
    omega (arith, c.in_ok-value-2.ensures, c.in_ok-checked_mul.ensures) in
    record {
      onward = omega (arith, before.onward);
      within = c.in_ok-group.ensures.within;
      fours = omega (arith, before.fours, before.within);
      groups = λ rule drops.
          group_more rule c.args.text.now c.args.start drops c.loop-end.end _ _ _ before.onward
          (before.groups rule drops) c.in_ok-group.ensures sum;
    }

pub returns : goal.returns
returns c = λ rule drops.
    let all = c.loop-end.invariant in
    let ends : c.loop-end.end ≡ length c.args.text.now =
    grind (arith, nat_tests, all.within, c.loop-end-test.false) in
    groups_to_end rule c.args.text.now c.args.start _ _ drops.ten
    (omega (arith, c.requires.within)) ends (all.groups rule drops)
