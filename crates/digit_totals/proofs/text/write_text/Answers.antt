use Rattle.std.specs.Prelude.{take}
use Rattle.digit_totals.proofs.FloatTexts.{finite_text}
use Rattle.digit_totals.proofs.text.write_text.Goals as goal

pub returns-clause-text : goal.returns-clause-text
returns-clause-text c =
    finite_text c.args.value (take c.in-Ok.len c.write_float.new.out)
    c.in-Ok.ensures.written c.in-Ok.ensures.reads
