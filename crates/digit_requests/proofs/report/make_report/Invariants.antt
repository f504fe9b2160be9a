-- The answers so far, before those of the rest, are all the answers.
use Rattle.std.proofs.Common.{◌≡◌, ◌+◌, ◌≤◌, ◌++◌, length}
use Rattle.digit_requests.specs.Report.{lines_of, report_from, report_of}
use Rattle.digit_requests.proofs.report.make_report.Given as goal

abbrev pub invariant-loop-rest : goal.invariant-loop-rest
invariant-loop-rest g l =
    (l.output.items ++ (report_from l.number (lines_of l.rest)).output
    ≡ (report_of l.fn.input).output)
    × ((report_from l.number (lines_of l.rest)).fault ≡ (report_of l.fn.input).fault)
    × (l.number + length l.rest ≤ 1 + length l.fn.input)

abbrev pub decreases-loop-rest : goal.decreases-loop-rest
decreases-loop-rest g l = length l.rest
