use Rattle.std.proofs.Common.{refl}
use Rattle.std.specs.Prelude.{Ok}
use Rattle.float_writers.proofs.ReadBack.{float_read, not_nan, not_infinite}
use Rattle.float_writers.proofs.Written.{finite_else, text_there}
use Rattle.float_writers.proofs.write.write_float.Goals as goal

pub write_finite-requires : goal.write_finite-requires
write_finite-requires g c =
    finite_else (g.F.Float.value c.args.x) c.is_not_a_number.result c.is_without_end.result
    c.is_not_a_number.ensures c.if-is_not_a_number.false c.is_without_end.ensures
    c.if-is_without_end.false

pub returns-in-Ok-clause-written : goal.returns-in-Ok-clause-written
returns-in-Ok-clause-written g c =
    text_there g.F.Float.format
    (g.F.Float.value c.args.x) c.args.layout c.args.out.now c.write_finite.new.out
    (Ok c.in-Ok.len) c.in-Ok.ensures.writes c.in-Ok.len refl

pub returns-in-Ok-clause-by_words : goal.returns-in-Ok-clause-by_words
returns-in-Ok-clause-by_words g c = λ word of.
    float_read g.F.Float.format
    (g.F.Float.value c.args.x) c.args.layout word _ of
    (text_there g.F.Float.format (g.F.Float.value c.args.x) c.args.layout c.args.out.now
    c.write_finite.new.out (Ok c.in-Ok.len) c.in-Ok.ensures.writes c.in-Ok.len refl)

pub returns-then-is_not_a_number-clause-room : goal.returns-then-is_not_a_number-clause-room
returns-then-is_not_a_number-clause-room g c = λ finite has.
    not_nan (g.F.Float.value c.args.x) c.is_not_a_number.result c.is_not_a_number.ensures
    c.if-is_not_a_number.true finite

pub returns-then-is_without_end-clause-room : goal.returns-then-is_without_end-clause-room
returns-then-is_without_end-clause-room g c = λ finite has.
    not_infinite (g.F.Float.value c.args.x) c.is_without_end.result c.is_without_end.ensures
    c.if-is_without_end.true finite
