use Rattle.std.proofs.Common.{rules, ◌<◌}
use Rattle.lexical_digits.specs.Laws.Terms.{not-true, not-false, IsRun}
use Rattle.lexical_digits.proofs.Looks.Spans.{span_alone, span_of_run}
use Rattle.lexical_digits.proofs.skip.decision.span_at.Goals as goal

pub returns-then-not-rule-clause-span : goal.returns-then-not-rule-clause-span
returns-then-not-rule-clause-span g c = search (rules, span_alone, not-true)

pub returns-clause-span : goal.returns-clause-span
returns-clause-span g c =
    let run = rw c.in-Some.is at c.requires.remembered in
    search (rules, span_of_run, not-false)

pub returns-2-clause-span : goal.returns-2-clause-span
returns-2-clause-span g c =
    let run : IsRun c.args.rule.separator (g.S.ByteSource.content c.args.src.now)
    c.run_start-from.result c.run_end-to.result = search rules in
    let past : c.args.at < c.run_end-to.result = search rules in
    search (rules, span_of_run, not-false)
