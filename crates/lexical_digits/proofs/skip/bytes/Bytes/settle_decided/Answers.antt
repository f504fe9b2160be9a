use Rattle.std.proofs.Common.{◌≡◌, sym, refl, ◌∙◌, ap, rules, ◌≤◌, length}
use Rattle.lexical_digits.specs.Laws.Terms.{with_cursor, one_if, place_of, state_of, held_of, saturating}
use Rattle.lexical_digits.specs.Laws.Table.{place_to}
use Rattle.lexical_digits.proofs.Rule.Supported.{supported_by}
use Rattle.lexical_digits.proofs.Looks.Owed.{arrives, separator_of}
use Rattle.lexical_digits.proofs.Fields.CarriedByCursor.{own_counted, state_moved, carried, remembered}
use Rattle.lexical_digits.proofs.skip.bytes.Bytes.settle_decided.Goals as goal

pub find-found-requires-clause-supported : goal.find-found-requires-clause-supported
find-found-requires-clause-supported c =
    let b = c.self.inside in
    supported_by _ b.format _ (rw (sym c.self.view_is) at c.requires.rule) b.holds.word

pub invariant_of-self-inside : goal.invariant_of-self-inside
unfolding place_of
invariant_of-self-inside c =
    let b = c.self.inside in
    let k = c.args.component in
    let s = state_of b.slc.now b.format b.tally in
    let rule_is = rw (sym c.self.view_is) at c.requires.rule in
    let own_is = c.count-counted.ensures ∙ sym (own_counted k b.slc.now b.format b.tally) in
    let found = rw (rule_is, own_is) at c.find-found.ensures in
    let within : c.find-found.result.place ≤ length b.slc.now =
    rw (found.place _ refl) (place_to k s) in
    remembered b c.move_found.new.self c.find-found.result.run
    (carried b c.move_found.ensures (state_moved s _ b.holds within))
    (λ run e. rw (separator_of k b.format, e) at found.finds.is_run)

pub returns : goal.returns
unfolding place_of
returns c =
    let b = c.self.inside in
    let k = c.args.component in
    let a = held_of b.slc.now b.format b.tally b.run b.holds b.remembers in
    let rule_is = rw (sym c.self.view_is) at c.requires.rule in
    let follows = rw (sym c.self.view_is) at c.requires.saw_next in
    let own_is = c.count-counted.ensures ∙ sym (own_counted k b.slc.now b.format b.tally) in
    let found = rw (rule_is, own_is) at c.find-found.ensures in
    let left = c.move_found.ensures.state b.slc.now b.format
    ∙ ap (with_cursor a.state) (found.place _ refl) in
    let looks : c.saturating_add-looks.result
    ≡ saturating c.find-found.result.looks (one_if c.args.saw_next) = search rules in
    rw (sym c.self.view_is) (arrives k a _ c.args.saw_next c.find-found.result.looks follows left
    found.finds
    (c.move_found.ensures.looks ∙ rw looks refl))
