use Rattle.float_writers.proofs.ReadBack.{not_nan, not_infinite}
use Rattle.float_writers.proofs.Written.{finite_else}
use Rattle.form_writers.proofs.Tries.{never}
use Rattle.form_writers.proofs.write.put_float_of.Goals as goal

pub returns-then-is_not_a_number-clause-none : goal.returns-then-is_not_a_number-clause-none
returns-then-is_not_a_number-clause-none g c =
    never _ _ c.put_special.result (λ finite.
    not_nan (g.F.Float.value c.args.x) c.is_not_a_number.result c.is_not_a_number.ensures
    c.if-is_not_a_number.true finite)

pub returns-then-is_without_end-clause-none : goal.returns-then-is_without_end-clause-none
returns-then-is_without_end-clause-none g c =
    never _ _ c.put_special-then-is_without_end.result (λ finite.
    not_infinite (g.F.Float.value c.args.x) c.is_without_end.result c.is_without_end.ensures
    c.if-is_without_end.true finite)

pub put_float-requires-clause-finite : goal.put_float-requires-clause-finite
put_float-requires-clause-finite g c =
    finite_else (g.F.Float.value c.args.x) c.is_not_a_number.result c.is_without_end.result
    c.is_not_a_number.ensures c.if-is_not_a_number.false c.is_without_end.ensures
    c.if-is_without_end.false
