use Rattle.std.specs.Float.{binary64}
use Rattle.digits_c.proofs.NumberTexts.{number_by}
use Rattle.digits_c.proofs.write_numbers.write.Goals as goal

pub returns : goal.returns
returns c =
    let w = c.write_number_of in
    number_by c.args.form _ c.args.out.now w.new.out
    (c.no_number_at_the_end.ensures.number c.args.form binary64) w.result _ c.unwrap_or.ensures
    w.ensures.reads w.ensures.within w.ensures.rest w.ensures.none w.ensures.unchanged
