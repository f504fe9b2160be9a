use Rattle.std.proofs.Common.{arith, refl, sym, ◌∙◌}
use Rattle.digit_values.proofs.ForCallers.{value_more, same_more}
use Rattle.digit_integers.proofs.wide.value_between.Goals as goal
use Rattle.digit_integers.proofs.wide.value_between.Goals.{in-Some+in-Some-add_wide, in_default}

pub returns-in-None-clause-passes : goal.returns-in-None-clause-passes
returns-in-None-clause-passes c =
    let e = value_more c.args.rule c.args.text.now c.args.start 0 c.loop-at.at c.args.rule.radix
    c.in-Some.digit (omega arith) (omega arith) refl (sym c.in-Some.ensures) in
    rw (e, sym c.loop-at.invariant.value) (grind (arith, c.in-None.ensures))

pub loop-at-preserved : goal.loop-at-preserved
loop-at-preserved c =
    elim c.match-char_to_digit_const.branch [
      | in-Some+in-Some-add_wide w ↦
          let e = value_more c.args.rule c.args.text.now c.args.start 0 c.loop-at.at
          c.args.rule.radix w.in-Some.digit (omega arith) (omega arith) refl
          (sym w.in-Some.ensures) in
          record {
            value = rw (e, sym c.loop-at.invariant.value, w.value-is) w.in-Some-add_wide.ensures.1;
            fits =
                grind (
                  arith,
                  w.value-is,
                  w.in-Some-add_wide.ensures.0,
                  w.in-Some-add_wide.ensures.1,
                );
          }
      | in_default w ↦
          record {
            value = rw (
              same_more c.args.rule c.args.text.now c.args.start c.loop-at.at (omega arith)
                  (omega arith) (sym c.char_to_digit_const.ensures ∙ w.in_default.is),
              w.value-is,
            )
                c.loop-at.invariant.value;
            fits = rw w.value-is c.loop-at.invariant.fits;
          }
    ]
