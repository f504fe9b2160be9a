use Rattle.form_writers.proofs.Tries.{no_text}
use Rattle.form_writers.proofs.float.put_float.Goals as goal

pub returns-in-None-clause-none : goal.returns-in-None-clause-none
returns-in-None-clause-none g c =
    let s = c.shortest_of-negative in
    let o = c.try_others in
    no_text c.args.form g.F.Float.format (g.F.Float.value c.args.x) s.result.0 s.ensures.sign
    s.result.1 s.ensures.shortest s.ensures.few s.ensures.least s.ensures.most o.result
    c.in-None.ensures.none o.ensures.pointed o.ensures.plain
