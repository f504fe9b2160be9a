use Rattle.std.proofs.Common.{sym}
use Rattle.lexical_digits.proofs.Rule.Supported.{supported_by}
use Rattle.lexical_digits.proofs.Fields.CarriedByCursor.{reading_of}
use Rattle.lexical_digits.proofs.skip.bytes.Bytes.switch_reader.Goals as goal

pub of-self-inside-requires : goal.of-self-inside-requires
of-self-inside-requires c =
    supported_by _ c.self.inside.format c.args.component c.of-rule.ensures c.self.inside.holds.word

pub invariant_of-self-inside : goal.invariant_of-self-inside
invariant_of-self-inside c =
    let b = c.self.inside in
    let hands = c.set_reader.ensures in
    let cuts = c.of-self-inside.ensures in
    let counting = rw c.of-rule.ensures at c.counts-is_counting.ensures in
    let reading = reading_of c.args.component _ b.format _ _ _ _ c.of-rule.ensures counting
    cuts.direct cuts.inner hands.reader hands.is_counting in
    (rw (hands.state b.slc.now b.format) b.holds, (b.flags, (reading, (b.remembers, tt))))

pub returns-clause-state : goal.returns-clause-state
returns-clause-state c =
    rw (sym c.self.view_is) (c.set_reader.ensures.state c.self.inside.slc.now c.self.inside.format)
