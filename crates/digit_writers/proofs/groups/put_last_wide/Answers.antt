use Rattle.std.proofs.Common.{◌≡◌, ℕ, ◌/◌, ◌%◌, refl, ap, ◌∙◌, arith}
use Rattle.std.specs.Fmt.{digit_glyph}
use Rattle.digit_writers.proofs.Laying.{put_none, put_more, put_all}
use Rattle.digit_writers.proofs.groups.put_last_wide.Goals as goal

pub loop-done-init : goal.loop-done-init
loop-done-init c =
    put_none c.args.layout.radix c.args.layout.is_upper c.args.n c.args.count c.args.at
    c.args.out.now

pub loop-done-preserved : goal.loop-done-preserved
loop-done-preserved c =
    let l = c.loop-done in
    let layout = c.args.layout in
    let same : c.from-radix.result ≡ layout.radix = omega arith in
    let digit : c.glyph_of.result ≡ digit_glyph layout.is_upper (l.left % layout.radix) =
    c.glyph_of.ensures ∙ ap (λ (r : ℕ). digit_glyph layout.is_upper (l.left % r)) same in
    put_more layout.radix layout.is_upper c.args.n c.args.count c.args.at l.done l.left _ _
    c.args.out.now l.out _ c.loop-done-test.true c.requires.room l.invariant digit refl
    (ap (λ (r : ℕ). l.left / r) same)

pub returns-clause-written : goal.returns-clause-written
returns-clause-written c =
    let l = c.loop-done in
    let layout = c.args.layout in
    (put_all layout.radix layout.is_upper c.args.n c.args.count c.args.at l.done l.left
    c.args.out.now l.out (omega (arith, l.auto, c.loop-done-test)) l.invariant).0

pub returns-clause-left : goal.returns-clause-left
returns-clause-left c =
    let l = c.loop-done in
    let layout = c.args.layout in
    (put_all layout.radix layout.is_upper c.args.n c.args.count c.args.at l.done l.left
    c.args.out.now l.out (omega (arith, l.auto, c.loop-done-test)) l.invariant).1
