use Rattle.std.proofs.Common.{◌≡◌, true, rules}
use Rattle.digit_streams.specs.Windows.{unread}
use Rattle.digit_streams.proofs.Passed.{skips_all, unless_fault, used_held}
use Rattle.digit_streams.proofs.Turns.{uses_turn}
use Rattle.digit_streams.proofs.reader.NumberReader.find_byte.Goals as goal

pub returns-then-not-pass-clause-blanks : goal.returns-then-not-pass-clause-blanks
returns-then-not-pass-clause-blanks g c =
    let same = c.pass.ensures.none (search rules) in
    let skips = skips_all c.self.inside.format.gap _ _ _ c.in-Ok-Some.ensures.next in
    rw (← c.self.view_is) (unless_fault _ _ (rw (← same) at skips))

pub returns-else-not-pass-clause-uses : goal.returns-else-not-pass-clause-uses
returns-else-not-pass-clause-uses g c =
    let is : c.pass.result ≡ true = search (rules, c.if-not-pass.false) in
    let old = c.pass_blanks.new.window in
    let used = used_held old.position c.pass.new.self.position 1 (unread old)
    (unread c.pass.new.self) (c.pass.ensures.passed is) (search rules)
    (c.pass.ensures.unread is) in
    rw (← c.self.view_is) (uses_turn _ _ _ _ _ _ _ c.in-Ok-Some.ensures.uses used)
