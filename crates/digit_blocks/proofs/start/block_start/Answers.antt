use Rattle.std.proofs.Common.{◌≡◌, ◌-◌, ◌<◌, true, false, refl, inl, inr, arith}
use Rattle.std.specs.Prelude.{slice_index}
use Rattle.std.proofs.lemmas.Bool.Decides.{nat_tests}
use Rattle.lexical_digits.specs.ByteSet.{accepts}
use Rattle.digit_blocks.specs.Blocks.{ends_of}
use Rattle.digit_blocks.proofs.Starts.{ends_here, no_start, none_more, start_after}
use Rattle.digit_blocks.proofs.start.block_start.Goals as goal

pub returns-then-at-eq0-clause-first : goal.returns-then-at-eq0-clause-first
returns-then-at-eq0-clause-first c = λ other low high start. omega (arith, high)

pub returns-then-accepts-clause-start : goal.returns-then-accepts-clause-start
returns-then-accepts-clause-start c =
    let text = c.args.text.now in
    let last = c.loop-last.last in
    let is : accepts (ends_of c.args.gap) (slice_index text last) ≡ true =
    rw (← c.ends_of-ends.ensures, ← c.accepts.ensures) c.if-accepts.true in
    inl (start_after c.args.gap text last (ends_here c.args.gap text last (omega arith) is))

pub returns-then-accepts-clause-first : goal.returns-then-accepts-clause-first
returns-then-accepts-clause-first c = λ other low high start.
    let some : 0 < c.args.at = grind (arith, nat_tests, c.if-at-eq0.false) in
    no_start c.args.gap c.args.text.now (c.args.at - 1) c.loop-last.last other
    c.loop-last.invariant (omega (arith, some, low)) (omega (arith, high)) start

pub returns-clause-start : goal.returns-clause-start
returns-clause-start c = inr refl

pub returns-clause-first : goal.returns-clause-first
returns-clause-first c = λ other low high start.
    let some : 0 < c.args.at = grind (arith, nat_tests, c.if-at-eq0.false) in
    no_start c.args.gap c.args.text.now (c.args.at - 1) c.loop-last.last other
    c.loop-last.invariant (omega (arith, some, low)) (omega (arith, high)) start

pub loop-last-preserved : goal.loop-last-preserved
loop-last-preserved c =
    let text = c.args.text.now in
    let last = c.loop-last.last in
    let is : accepts (ends_of c.args.gap) (slice_index text last) ≡ false =
    rw (← c.ends_of-ends.ensures, ← c.accepts.ensures) c.if-accepts.false in
    none_more c.args.gap text (c.args.at - 1) last (omega arith) c.loop-last.invariant is
