use Rattle.std.proofs.Common.{arith, [], ◌++◌, rules, take, append_assoc, append-nil, take-append-drop, subst}
use Rattle.std.proofs.lemmas.List.{take_rest}
use Rattle.std.proofs.KnownBytes.{Appends-trans, Appends-kept}
use Rattle.std.specs.Io.KnownBytes.{Appends}
use Rattle.digit_requests.proofs.output.write_output.Goals as goal

pub loop-rest-preserved : goal.loop-rest-preserved
loop-rest-preserved g c =
    let (done, split, appended) = c.loop-rest.invariant in
    let rest = c.loop-rest.rest.now in (
      done ++ take c.in-Ok.n rest,
      grind (arith, append_assoc, take-append-drop c.in-Ok.n rest, take_rest rest c.in-Ok.n),
      Appends-trans _ _ _ _ _ appended c.in-Ok.ensures.bytes,
    )

pub returns-in-Ok-eq0-clause-part : goal.returns-in-Ok-eq0-clause-part
returns-in-Ok-eq0-clause-part g c =
    let (done, split, appended) = c.loop-rest.invariant in
    record {
      written = done;
      rest = c.loop-rest.rest.now;
      split = split;
      some_rest = search rules;
      appended = subst (Appends _ _) (append-nil done)
          (Appends-trans _ _ _ done [] appended
          (rw c.in-Ok-eq0.field-0-test at c.in-Ok-eq0.ensures.bytes));
    }

pub returns-in-Err-clause-part : goal.returns-in-Err-clause-part
returns-in-Err-clause-part g c =
    let (done, split, appended) = c.loop-rest.invariant in
    record {
      written = done;
      rest = c.loop-rest.rest.now;
      split = split;
      some_rest = search rules;
      appended = Appends-kept _ _ _ _ appended c.in-Err.ensures.bytes;
    }
