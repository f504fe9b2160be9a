use Rattle.std.proofs.Common.{rules, arith, ◌≡◌, ◌≤◌, true, false, ◌∙◌, sym}
use Rattle.lexical_digits.specs.Laws.Terms.{at_zero, past_zero, ints, gets}
use Rattle.lexical_digits.proofs.Calls.Items.{zeros_by, after_zeros_by, past_cursor}
use Rattle.lexical_digits.proofs.iterator.bodies.AnyDigitsBodies.skip_zeros.Goals as goal

pub set_cursor-requires : goal.set_cursor-requires
set_cursor-requires g c = grind (arith, gets)

pub loop-self-smaller : goal.loop-self-smaller
loop-self-smaller g c = grind (arith, gets)

pub loop-self-preserved : goal.loop-self-preserved
loop-self-preserved g c =
    let i = g.I.Iter in
    let d = g.I.DigitsIter in
    let met = g.met.I.Iter c.lifetimes (search rules) in
    let digits = (g.met.I.DigitsIter c.lifetimes (search rules)).digit_laws in
    let m = i.meaning c.loop-self.self in
    let v : i.valid m = met.valid_now c.loop-self.self in
    let zero : at_zero i.buffer i.cursor d.place i.moved d.settled d.counted m ≡ true = cc in
    let stands : i.cursor (d.settled m) ≡ d.place m = digits.settled_cursor m v in
    let past : i.meaning c.increment_count.new.self
    ≡ past_zero i.buffer i.cursor d.place i.moved d.settled d.counted m = cc in
    let one_more = zeros_by digits met.laws true m zero v in
    let same_end = after_zeros_by digits met.laws true m zero v in
    let at = past_cursor digits met.laws m v zero in
    let from : i.cursor m ≤ d.place m = digits.place_from m v in
    let moved = c.set_cursor.ensures.owes (omega (arith, c.cursor-at.ensures.value)) in
    record {
      counts = rw past (omega (arith, c.loop-self.invariant.counts));
      leaves = rw past (sym same_end ∙ c.loop-self.invariant.leaves);
      keeps_loan = cc;
      below = rw past (omega (arith, c.loop-self.invariant.below));
      owes = omega (arith, ints);
    }

pub returns : goal.returns
returns g c =
    let i = g.I.Iter in
    let d = g.I.DigitsIter in
    let met = g.met.I.Iter c.lifetimes (search rules) in
    let digits = (g.met.I.DigitsIter c.lifetimes (search rules)).digit_laws in
    let m = i.meaning c.loop-self.self in
    let none : at_zero i.buffer i.cursor d.place i.moved d.settled d.counted m ≡ false = cc in
    let v = met.valid_now c.loop-self.self in
    let stop = zeros_by digits met.laws false m none v in
    let same_end = after_zeros_by digits met.laws false m none v in
    record {
      answers = omega (arith, c.loop-self.invariant.counts);
      leaves = c.peek_is_cased.ensures.settles ∙ (sym same_end ∙ c.loop-self.invariant.leaves);
      owes = omega (arith, ints, c.loop-self.invariant.owes, c.peek_is_cased.ensures.owes);
      keeps_loan = cc;
    }
