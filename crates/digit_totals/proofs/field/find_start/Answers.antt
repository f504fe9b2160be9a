use Rattle.std.proofs.Common.{◌≡◌, ◌∙◌, sym, arith, take, drop, true, false}
use Rattle.std.proofs.lemmas.List.{take_rest, length-drop}
use Rattle.digit_totals.specs.Field.{is_quoted}
use Rattle.digit_totals.proofs.Fields.{next_read, quoted_read, quoted_rest, missing_read}
use Rattle.digit_totals.proofs.FirstMark.{position_within}
use Rattle.digit_totals.proofs.field.find_start.Goals as goal

pub loop-passed-preserved : goal.loop-passed-preserved
loop-passed-preserved c =
    let line = c.args.line.now in
    let start = c.loop-passed.start in
    let found = sym (rw (take_rest line start) at c.in-Some.ensures) in
    let inside = position_within c.args.separator _ c.in-Some.count found in
    let none : is_quoted (take c.in-Some.count (drop start line)) ≡ false =
    sym (rw (take_rest line start) at c.is_quoted.ensures) ∙ c.if-is_quoted.false in
    record {
      within = grind (arith, inside, length-drop start line, c.loop-passed.invariant.within);
      read =
          c.loop-passed.invariant.read
          ∙ next_read c.args.separator line start c.loop-passed.invariant.within
          c.args.before c.loop-passed.passed c.in-Some.count c.loop-passed-test.true found none;
    }

pub returns-then-is_quoted-clause-is : goal.returns-then-is_quoted-clause-is
returns-then-is_quoted-clause-is c =
    let line = c.args.line.now in
    let start = c.loop-passed.start in
    let found = sym (rw (take_rest line start) at c.in-Some.ensures) in
    let is : is_quoted (take c.in-Some.count (drop start line)) ≡ true =
    sym (rw (take_rest line start) at c.is_quoted.ensures) ∙ c.if-is_quoted.true in
    c.loop-passed.invariant.read
    ∙ quoted_read c.args.separator line start c.loop-passed.invariant.within c.args.before
    c.loop-passed.passed c.in-Some.count found is

pub returns-then-is_quoted-2-clause-is : goal.returns-then-is_quoted-2-clause-is
returns-then-is_quoted-2-clause-is c =
    let line = c.args.line.now in
    let start = c.loop-passed.start in
    let found = sym (rw (take_rest line start) at c.in-None.ensures) in
    let is : is_quoted (drop start line) ≡ true =
    sym (rw (take_rest line start) at c.is_quoted-in-None.ensures) ∙ c.if-is_quoted-2.true in
    c.loop-passed.invariant.read
    ∙ quoted_rest c.args.separator line start c.loop-passed.invariant.within c.args.before
    c.loop-passed.passed found is

pub returns-in-None-clause-is : goal.returns-in-None-clause-is
returns-in-None-clause-is c =
    let line = c.args.line.now in
    let start = c.loop-passed.start in
    let found = sym (rw (take_rest line start) at c.in-None.ensures) in
    let none : is_quoted (drop start line) ≡ false =
    sym (rw (take_rest line start) at c.is_quoted-in-None.ensures) ∙ c.if-is_quoted-2.false in
    c.loop-passed.invariant.read
    ∙ missing_read c.args.separator line start c.loop-passed.invariant.within c.args.before
    c.loop-passed.passed c.loop-passed-test.true found none
