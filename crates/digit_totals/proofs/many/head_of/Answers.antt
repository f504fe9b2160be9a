use Rattle.std.proofs.Common.{refl, sym, arith}
use Rattle.digit_totals.proofs.LinesByEnds.{after_blank, begins_after, begins_here, no_sign, no_sign_after}
use Rattle.digit_totals.proofs.many.head_of.Goals as goal

pub returns-then-digits-lt64-clause-negative : goal.returns-then-digits-lt64-clause-negative
returns-then-digits-lt64-clause-negative c =
    let text = c.args.text.now in
    let others = c.args.others in
    let more = c.if-digits-gt0.true in
    let few = c.if-digits-lt64.true in
    rw (begins_here text c.args.at others c.requires.others (omega arith) more few)
    (sym (no_sign text c.args.at others c.requires.others (omega arith) more few 45 (omega arith)))

pub returns-then-digits-lt64-clause-begins : goal.returns-then-digits-lt64-clause-begins
returns-then-digits-lt64-clause-begins c =
    let text = c.args.text.now in
    let others = c.args.others in
    let more = c.if-digits-gt0.true in
    let few = c.if-digits-lt64.true in
    rw (
      begins_here text c.args.at others c.requires.others (omega arith) more few,
      no_sign text c.args.at others c.requires.others (omega arith) more few 45 (omega arith),
      no_sign text c.args.at others c.requires.others (omega arith) more few 43 (omega arith),
    ) refl

pub returns-then-text-at-eq32-clause-negative : goal.returns-then-text-at-eq32-clause-negative
returns-then-text-at-eq32-clause-negative c =
    let text = c.args.text.now in
    let others = c.args.others in
    let some = c.if-others-gt1.true in
    let one = c.if-others-eq1.true in
    let blank = c.if-text-at-eq32.true in
    rw (begins_after text c.args.at others c.requires.others (omega arith) some one blank)
    (sym (no_sign_after text c.args.at others c.requires.others (omega arith) some one blank 45
    (omega arith)))

pub returns-then-text-at-eq32-clause-begins : goal.returns-then-text-at-eq32-clause-begins
returns-then-text-at-eq32-clause-begins c =
    let text = c.args.text.now in
    let others = c.args.others in
    let some = c.if-others-gt1.true in
    let one = c.if-others-eq1.true in
    let blank = c.if-text-at-eq32.true in
    rw (
      begins_after text c.args.at others c.requires.others (omega arith) some one blank,
      no_sign_after text c.args.at others c.requires.others (omega arith) some one blank 45
          (omega arith),
      no_sign_after text c.args.at others c.requires.others (omega arith) some one blank 43
          (omega arith),
    ) refl

pub returns-then-text-at-eq32-clause-others : goal.returns-then-text-at-eq32-clause-others
returns-then-text-at-eq32-clause-others c =
    after_blank c.args.text.now c.args.at c.args.others c.requires.others (omega arith)
    c.if-others-gt1.true c.if-others-eq1.true c.if-text-at-eq32.true
