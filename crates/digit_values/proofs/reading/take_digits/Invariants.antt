use Rattle.std.proofs.Common.{◌≡◌, ℕ, ◌+◌, ◌*◌, ◌<◌, ◌≤◌, length, pos, ◌≤ℤ◌, ◌+ℤ◌}
use Rattle.lexical_digits.specs.Stop.{leading, after_leading}
use Rattle.digit_values.proofs.reading.take_digits.Given as goal

abbrev pub invariant-loop-iter : goal.invariant-loop-iter
invariant-loop-iter g l =
    let i = g.I.Iter in
    let d = g.I.DigitsIter in
    let m = i.meaning l.initial.iter in
    let n = i.meaning l.iter in
    let p = d.digit m in
    record {
      digits : l.digits + length (leading i.buffer i.cursor d.place d.taken p n)
          ≡ length (leading i.buffer i.cursor d.place d.taken p m);
      after : after_leading i.buffer i.cursor d.place d.taken d.settled p n
          ≡ after_leading i.buffer i.cursor d.place d.taken d.settled p m;
      same : (byte : ℕ) → byte < 256 → p byte ≡ d.digit n byte;
      below : l.digits ≤ i.cursor n;
      owes : i.owed l.iter ≤ℤ (i.owed l.initial.iter +ℤ pos (8 * l.digits));
      keeps_loan : i.loan l.iter ≡ i.loan l.initial.iter;
    }

abbrev pub decreases-loop-iter : goal.decreases-loop-iter
decreases-loop-iter g l =
    let i = g.I.Iter in
    let d = g.I.DigitsIter in
    length (leading i.buffer i.cursor d.place d.taken (d.digit (i.meaning l.initial.iter))
    (i.meaning l.iter))
