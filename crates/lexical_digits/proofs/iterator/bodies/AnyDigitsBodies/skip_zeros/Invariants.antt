use Rattle.std.proofs.Common.{◌≡◌, ◌+◌, ◌-◌, ◌≤◌, length, ◌≤ℤ◌, ◌+ℤ◌, pos, ◌*◌}
use Rattle.lexical_digits.specs.Cursor.{zeros, after_zeros}
use Rattle.lexical_digits.proofs.iterator.bodies.AnyDigitsBodies.skip_zeros.Given as goal

abbrev pub invariant-loop-self : goal.invariant-loop-self
invariant-loop-self g l =
    let i = g.I.Iter in
    let d = g.I.DigitsIter in
    record {
      counts : l.zeros + zeros i.buffer i.cursor d.place i.moved d.settled d.counted
          (i.meaning l.self) ≡ zeros i.buffer i.cursor d.place i.moved d.settled d.counted
          (i.meaning l.initial.self);
      leaves : after_zeros i.buffer i.cursor d.place i.moved d.settled d.counted (i.meaning l.self)
          ≡ after_zeros i.buffer i.cursor d.place i.moved d.settled d.counted
          (i.meaning l.initial.self);
      keeps_loan : i.loan l.self ≡ i.loan l.initial.self;
      below : l.zeros ≤ i.cursor (i.meaning l.self);
      owes : i.owed l.self ≤ℤ (i.owed l.initial.self +ℤ pos (4 * l.zeros));
    }

abbrev pub decreases-loop-self : goal.decreases-loop-self
decreases-loop-self g l =
    length (g.I.Iter.buffer (g.I.Iter.meaning l.self)) - g.I.Iter.cursor (g.I.Iter.meaning l.self)
