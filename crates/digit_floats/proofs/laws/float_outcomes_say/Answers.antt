use Rattle.digit_floats.specs.Float.{float_at, end_at}
use Rattle.digit_floats.proofs.Outcomes.{reads, reads_back, parses, parses_back, faults, faults_back}
use Rattle.digit_floats.proofs.laws.float_outcomes_say.Goals as goal

pub returns-clause-reads : goal.returns-clause-reads
returns-clause-reads c = λ marks f at end x.
    let y = float_at c.args.word c.args.text.now marks f at in
    let r = end_at c.args.word c.args.text.now marks at in
    (reads y x r end, reads_back y x r end)

pub returns-clause-parses : goal.returns-clause-parses
returns-clause-parses c = λ marks f at x.
    let y = float_at c.args.word c.args.text.now marks f at in
    let r = end_at c.args.word c.args.text.now marks at in
    (parses c.args.word c.args.text.now y x r, parses_back c.args.word c.args.text.now y x r)

pub returns-clause-none : goal.returns-clause-none
returns-clause-none c = λ marks f at error.
    let y = float_at c.args.word c.args.text.now marks f at in
    let r = end_at c.args.word c.args.text.now marks at in
    (faults y r error, faults_back y r error)
