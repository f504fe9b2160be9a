use Rattle.digits_c.proofs.Puts.{float_by}
use Rattle.digits_c.proofs.write_floats.write.Goals as goal

pub returns : goal.returns
returns g c =
    let w = c.write_float in
    float_by _ _ _ _ _ w.result _ c.unwrap_or.ensures w.ensures.written w.ensures.reads
    w.ensures.within w.ensures.rest w.ensures.none w.ensures.unchanged
