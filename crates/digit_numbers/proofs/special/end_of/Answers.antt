use Rattle.std.proofs.Common.{◌+◌, ◌≤◌, ◌∙◌, length, sym, arith}
use Rattle.std.proofs.lemmas.Bool.Decides.{nat_tests}
use Rattle.digit_numbers.proofs.NamesAt.{place_again, place_low_here, place_high_here, starts_first}
use Rattle.digit_numbers.proofs.NamesAt.{ends_first, starts_same, ends_same, starts_not, bytes_none}
use Rattle.digit_numbers.proofs.NamesAt.{bytes_past, ends_done}
use Rattle.digit_numbers.proofs.special.end_of.Goals as goal

pub loop-n-init : goal.loop-n-init
loop-n-init c =
    let word = c.args.form.integers.decimal in
    let text = c.args.text.now in
    let low = place_low_here word text c.args.at c.requires.within in
    rw c.kept_from-end.ensures (record {
      within = place_high_here word text c.args.at;
      onward = omega (arith, low);
      settled = place_again word text c.args.at;
      begins = starts_first word text c.args.form.specials c.args.name.now c.args.at;
      ends = ends_first word text c.args.form.specials c.args.name.now c.args.at;
    })

pub returns-then-wanted-eq0-clause-end : goal.returns-then-wanted-eq0-clause-end
returns-then-wanted-eq0-clause-end c =
    let word = c.args.form.integers.decimal in
    let text = c.args.text.now in
    let name = c.args.name.now in
    let none = bytes_none word text c.args.form.specials name c.loop-n.n c.loop-n-test.true
    c.if-wanted-eq0.true in
    sym (c.loop-n.invariant.ends
    ∙ ends_done word text c.args.form.specials name c.loop-n.end c.loop-n.n none
    c.loop-n.invariant.settled)

pub returns-then-not-has_same-clause-is : goal.returns-then-not-has_same-clause-is
returns-then-not-has_same-clause-is c =
    c.loop-n.invariant.begins
    ∙ starts_not c.args.form.integers.decimal c.args.text.now c.args.form.specials c.args.name.now
    c.loop-n.end c.loop-n.n c.loop-n-test.true c.if-wanted-eq0.false c.loop-n.invariant.settled
    (sym c.has_same.ensures ∙ c.if-not-has_same.true)

pub loop-n-preserved : goal.loop-n-preserved
loop-n-preserved c =
    let word = c.args.form.integers.decimal in
    let text = c.args.text.now in
    let end = c.loop-n.end in
    let same = sym c.has_same.ensures ∙ c.if-not-has_same.false in
    let within : end + 1 ≤ length text = grind (arith, nat_tests, same) in
    let low = place_low_here word text (end + 1) within in
    rw c.kept_from-end-in-loop-n.ensures (record {
      within = place_high_here word text (end + 1);
      onward = omega (arith, low, c.loop-n.invariant.onward);
      settled = place_again word text (end + 1);
      begins = c.loop-n.invariant.begins
          ∙ starts_same word text c.args.form.specials c.args.name.now end c.loop-n.n
          c.loop-n-test.true c.if-wanted-eq0.false c.loop-n.invariant.settled same;
      ends = c.loop-n.invariant.ends
          ∙ ends_same word text c.args.form.specials c.args.name.now end c.loop-n.n
          c.loop-n-test.true c.if-wanted-eq0.false c.loop-n.invariant.settled same;
    })

pub returns-clause-end : goal.returns-clause-end
returns-clause-end c =
    let word = c.args.form.integers.decimal in
    let text = c.args.text.now in
    let name = c.args.name.now in
    let past : length name ≤ c.loop-n.n = omega (arith, c.loop-n-test.false) in
    let none = bytes_past word text c.args.form.specials name c.loop-n.n past in
    sym (c.loop-n.invariant.ends
    ∙ ends_done word text c.args.form.specials name c.loop-n.end c.loop-n.n none
    c.loop-n.invariant.settled)
