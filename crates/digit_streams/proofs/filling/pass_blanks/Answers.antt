use Rattle.std.proofs.Common.{◌≡◌, true, drop, ap, rules, ◌∙◌}
use Rattle.digit_literals.specs.Lists.{past_blanks}
use Rattle.digit_streams.specs.Windows.{unread}
use Rattle.digit_streams.proofs.Ends.{turn_on}
use Rattle.digit_streams.proofs.Passed.{next_is, none_after, skips_more, used_held}
use Rattle.digit_streams.proofs.Turns.{uses_turn, uses_kept}
use Rattle.digit_streams.proofs.filling.pass_blanks.Goals as goal

pub returns-in-Some-clause-uses : goal.returns-in-Some-clause-uses
returns-in-Some-clause-uses g c =
    let is : c.pass.result ≡ true = search (rules, c.if-not-pass.false) in
    let used = used_held c.loop-turn.window.position c.pass.new.self.position
    c.past_blanks-at.result (unread c.loop-turn.window) (unread c.pass.new.self)
    (c.pass.ensures.passed is) (search rules) (c.pass.ensures.unread is) in
    uses_turn _ _ _ _ _ _ _ c.loop-turn.invariant.uses used

pub returns-in-Some-clause-next : goal.returns-in-Some-clause-next
returns-in-Some-clause-next g c =
    let is : c.pass.result ≡ true = search (rules, c.if-not-pass.false) in
    let held = unread c.loop-turn.window in
    let at = c.past_blanks-at.ensures.is in
    let rest : unread c.pass.new.self ≡ drop (past_blanks c.args.gap held 0) held =
    c.pass.ensures.unread is ∙ ap (λ n. drop n held) (search rules) in
    let skips = skips_more c.args.gap _ _ c.pass.new.self.position _ _ _
    c.loop-turn.invariant.uses (search rules) c.loop-turn.invariant.onward
    c.loop-turn.invariant.blanks in
    next_is c.args.gap _ _ _ (unread c.pass.new.self) _ _ (returns-in-Some-clause-uses g c) skips
    (rw rest (none_after c.args.gap held)) (search rules) (λ e. absurd cc)

pub returns-then-is_over-clause-next : goal.returns-then-is_over-clause-next
returns-then-is_over-clause-next g c =
    let is : c.pass.result ≡ true = search (rules, c.if-not-pass.false) in
    let held = unread c.loop-turn.window in
    let rest : unread c.pass.new.self ≡ drop (past_blanks c.args.gap held 0) held =
    c.pass.ensures.unread is ∙ ap (λ n. drop n held) (search rules) in
    let used = used_held c.loop-turn.window.position c.pass.new.self.position
    c.past_blanks-at.result held (unread c.pass.new.self)
    (c.pass.ensures.passed is) (search rules) (c.pass.ensures.unread is) in
    let uses = uses_turn _ _ _ _ _ _ _ c.loop-turn.invariant.uses used in
    let skips = skips_more c.args.gap _ _ c.pass.new.self.position _ _ _
    c.loop-turn.invariant.uses (search rules) c.loop-turn.invariant.onward
    c.loop-turn.invariant.blanks in
    let end = c.loop-turn.invariant.last c.if-is_over.true in
    next_is c.args.gap _ _ _ (unread c.pass.new.self) _ _ uses skips
    (rw rest (none_after c.args.gap held)) (search rules) (λ e. end)

pub returns-in-Err-clause-uses : goal.returns-in-Err-clause-uses
returns-in-Err-clause-uses g c =
    let is : c.pass.result ≡ true = search (rules, c.if-not-pass.false) in
    let used = used_held c.loop-turn.window.position c.pass.new.self.position
    c.past_blanks-at.result (unread c.loop-turn.window) (unread c.pass.new.self)
    (c.pass.ensures.passed is) (search rules) (c.pass.ensures.unread is) in
    rw c.fill.ensures.position
    (uses_kept _ _ _ _ _ (uses_turn _ _ _ _ _ _ _ c.loop-turn.invariant.uses used)
    c.fill.ensures.text)

pub returns-in-Err-clause-blanks : goal.returns-in-Err-clause-blanks
returns-in-Err-clause-blanks g c =
    rw c.fill.ensures.position
    (skips_more c.args.gap _ _ c.pass.new.self.position _ _ _ c.loop-turn.invariant.uses
    (search rules) c.loop-turn.invariant.onward c.loop-turn.invariant.blanks)

pub loop-turn-preserved : goal.loop-turn-preserved
loop-turn-preserved g c =
    let is : c.pass.result ≡ true = search (rules, c.if-not-pass.false) in
    let l = c.loop-turn.invariant in
    let used = used_held c.loop-turn.window.position c.pass.new.self.position
    c.past_blanks-at.result (unread c.loop-turn.window) (unread c.pass.new.self)
    (c.pass.ensures.passed is) (search rules) (c.pass.ensures.unread is) in
    record {
      turns = rw c.fill.ensures.position
          (turn_on c.loop-turn.turn c.loop-turn.window.position c.pass.new.self.position
          (unread c.loop-turn.window) (unread c.pass.new.self) (unread c.fill.new.window)
          c.in-Ok.over (l.turns.1 c.if-is_over.false) used c.in-Ok.ensures.none
          c.in-Ok.ensures.more);
      capacity = c.fill.ensures.capacity ∙ c.pass.ensures.capacity ∙ l.capacity;
      last = c.in-Ok.ensures.last;
      onward = search rules;
      uses = rw c.fill.ensures.position
          (uses_kept _ _ _ _ _ (uses_turn _ _ _ _ _ _ _ l.uses used) c.fill.ensures.text);
      blanks = rw c.fill.ensures.position
          (skips_more c.args.gap _ _ c.pass.new.self.position _ _ _ l.uses (search rules) l.onward
          l.blanks);
    }
