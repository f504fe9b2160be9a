use Rattle.std.proofs.Common.{rules}
use Rattle.lexical_digits.specs.declared.skip.component.Component.TheVariants.{Integer}
use Rattle.lexical_digits.proofs.Rule.Supported.{supported_by}
use Rattle.lexical_digits.proofs.Fields.CarriedByCursor.{reading_of}
use Rattle.lexical_digits.proofs.skip.bytes.Bytes.new.Goals as goal

pub of-requires : goal.of-requires
of-requires c = supported_by _ c.args.format Integer c.of-rule.ensures c.requires

pub invariant_of-result : goal.invariant_of-result
invariant_of-result c =
    let tally = c.new.ensures in
    let cuts = c.of.ensures in
    let state = tally.state c.args.slc.now c.args.format in
    let counting = rw c.of-rule.ensures at c.has_flags-is_counting.ensures in
    let reading = reading_of Integer _ c.args.format _ _ _ _ c.of-rule.ensures counting cuts.direct
    cuts.inner tally.reader tally.is_counting in
    (rw state (search rules), (search rules, (reading, (search rules, tt))))

pub returns-clause-state : goal.returns-clause-state
returns-clause-state c = c.new.ensures.state c.args.slc.now c.args.format
