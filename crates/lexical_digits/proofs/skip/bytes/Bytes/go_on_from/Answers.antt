use Rattle.std.proofs.Common.{sym, refl}
use Rattle.lexical_digits.proofs.skip.bytes.Bytes.go_on_from.Goals as goal

pub invariant_of-self-inside : goal.invariant_of-self-inside
invariant_of-self-inside c =
    let o = c.copy.inside in
    let b = c.self.inside in
    let hands = c.go_on_from.ensures in
    let buffer = rw (sym c.self.view_is, sym c.copy.view_is) at c.requires.buffer in
    let word = rw (sym c.self.view_is, sym c.copy.view_is) at c.requires.word in (
      rw (hands.state b.slc.now b.format, ← buffer, ← word) o.holds,
      (
        b.flags,
        (rw (hands.reader, hands.is_counting) b.reading, (rw (← buffer, ← word) o.remembers, tt)),
      ),
    )

pub returns : goal.returns
returns c =
    let hands = c.go_on_from.ensures in
    let buffer = rw (sym c.self.view_is, sym c.copy.view_is) at c.requires.buffer in
    let word = rw (sym c.self.view_is, sym c.copy.view_is) at c.requires.word in
    rw (sym c.copy.view_is) record {
      state = rw (hands.state c.self.inside.slc.now c.self.inside.format, ← buffer, ← word) refl;
      run = refl;
      looks = hands.looks;
    }
