use Rattle.std.proofs.Common.{◌∙◌, ◌-◌, [], length, inl, arith, ◌≤◌}
use Rattle.digit_pieces.specs.Texts.{IsApart}
use Rattle.digit_streams.specs.Windows.{unread, bytes_left}
use Rattle.digit_streams.specs.Streams.{stream_list, list_of_option}
use Rattle.digit_streams.proofs.Ends.{turn_on, goes_on, left_of, reason_end, reason_failed, onward_end}
use Rattle.digit_streams.proofs.Stuck.{no_room, unread_fits}
use Rattle.digit_streams.proofs.Turns.{some_then, uses_turn, uses_kept, first_are, list_turn}
use Rattle.digit_streams.proofs.filling.read_next.Goals as goal

pub returns-in-End-clause-uses : goal.returns-in-End-clause-uses
returns-in-End-clause-uses g c =
    uses_turn _ _ _ _ _ _ _ c.loop-turn.invariant.uses c.read_held_one-number.ensures.uses

pub returns-in-Err-clause-uses : goal.returns-in-Err-clause-uses
returns-in-Err-clause-uses g c =
    rw c.fill.ensures.position
    (uses_kept _ _ _ _ _
    (uses_turn _ _ _ _ _ _ _ c.loop-turn.invariant.uses c.read_held_one-number.ensures.uses)
    c.fill.ensures.text)

pub returns-in-End-clause-list : goal.returns-in-End-clause-list
returns-in-End-clause-list g c =
    let k = g.K.Kind in
    let kind = c.args.kind in
    let gap = c.args.gap in
    let list = stream_list (k.number_at kind) k.none_at k.error_later gap in
    let step = c.read_held_one-number in
    let text = bytes_left c.args.window.now (g.R.Read.remaining c.args.reader.now) in
    let more = list_of_option k.meaning step.result.0 in
    rw c.in-End.is at
    (list_turn list (IsApart (k.has_byte kind) gap) c.args.window.now.position
    c.loop-turn.window.position step.new.window.position 1 1 (1 - length more) [] more step.result.1
    (unread c.loop-turn.window) (unread step.new.window) c.loop-turn.is_over text
    (g.R.Read.remaining c.loop-turn.reader) c.loop-turn.invariant.uses step.ensures.uses
    c.loop-turn.invariant.last step.ensures.list c.loop-turn.invariant.goes_on)

pub returns-in-Err-clause-list : goal.returns-in-Err-clause-list
returns-in-Err-clause-list g c =
    let k = g.K.Kind in
    let kind = c.args.kind in
    let gap = c.args.gap in
    let list = stream_list (k.number_at kind) k.none_at k.error_later gap in
    let step = c.read_held_one-number in
    let text = bytes_left c.args.window.now (g.R.Read.remaining c.args.reader.now) in
    some_then text _ _ (λ whole goes apart. first_are (list c.args.window.now.position whole 1) []
    _ c.in-Err.error (goes apart) c.in-Err.ensures.failure) c.loop-turn.invariant.goes_on

pub loop-turn-preserved : goal.loop-turn-preserved
loop-turn-preserved g c =
    let k = g.K.Kind in
    let kind = c.args.kind in
    let gap = c.args.gap in
    let list = stream_list (k.number_at kind) k.none_at k.error_later gap in
    let step = c.read_held_one-number in
    let text = bytes_left c.args.window.now (g.R.Read.remaining c.args.reader.now) in
    let more = list_of_option k.meaning step.result.0 in
    let none = step.ensures.more c.in-More.is in
    let turn = list_turn list (IsApart (k.has_byte kind) gap) c.args.window.now.position
    c.loop-turn.window.position step.new.window.position 1 1 (1 - length more) [] more step.result.1
    (unread c.loop-turn.window) (unread step.new.window) c.loop-turn.is_over text
    (g.R.Read.remaining c.loop-turn.reader) c.loop-turn.invariant.uses step.ensures.uses
    c.loop-turn.invariant.last step.ensures.list c.loop-turn.invariant.goes_on in
    let on = goes_on (k.number_at kind) k.none_at k.error_at (k.has_byte kind) gap
    (unread c.loop-turn.window) c.loop-turn.is_over _ _ _ (step.ensures.asks c.in-More.is) in
    record {
      turns = rw c.fill.ensures.position
          (turn_on c.loop-turn.turn c.loop-turn.window.position step.new.window.position
          (unread c.loop-turn.window) (unread step.new.window) (unread c.fill.new.window)
          c.in-Ok.over (c.loop-turn.invariant.turns.1 on) step.ensures.uses c.in-Ok.ensures.none
          c.in-Ok.ensures.more);
      capacity = c.fill.ensures.capacity ∙ step.ensures.capacity ∙ c.loop-turn.invariant.capacity;
      last = c.in-Ok.ensures.last;
      uses = rw c.fill.ensures.position
          (uses_kept _ _ _ _ _
          (uses_turn _ _ _ _ _ _ _ c.loop-turn.invariant.uses step.ensures.uses)
          c.fill.ensures.text);
      goes_on = rw c.fill.ensures.position (rw (c.in-More.is, none) at turn);
    }

pub returns-in-Err-clause-no_room : goal.returns-in-Err-clause-no_room
returns-in-Err-clause-no_room g c =
    let k = g.K.Kind in
    let step = c.read_held_one-number in
    let capacity : length (unread c.loop-turn.window) ≤ length c.fill.new.window.buffer.now =
    omega (arith, unread_fits c.loop-turn.window, c.fill.ensures.capacity, step.ensures.capacity) in
    no_room (k.number_at c.args.kind) k.none_at (k.has_byte c.args.kind) c.args.gap c.in-Err.error
    c.fill.new.window step.new.window (unread c.loop-turn.window) c.loop-turn.is_over _
    c.loop-turn.window.position step.new.window.position _ _ _ c.in-Err.ensures.same
    c.in-Err.ensures.place capacity step.ensures.uses (step.ensures.asks c.in-More.is)

pub returns-in-End-clause-reason : goal.returns-in-End-clause-reason
returns-in-End-clause-reason g c =
    let k = g.K.Kind in
    let step = c.read_held_one-number in
    reason_end (k.number_at c.args.kind) k.none_at k.error_at (k.has_byte c.args.kind) c.args.gap
    c.in-End.end step.new.window.position (unread step.new.window)
    (rw c.in-End.is at step.ensures.place)

pub returns-in-Err-clause-reason : goal.returns-in-Err-clause-reason
returns-in-Err-clause-reason g c =
    let k = g.K.Kind in
    let one = k.number_at c.args.kind in
    let has = k.has_byte c.args.kind in
    let step = c.read_held_one-number in
    reason_failed one k.none_at k.error_at has c.args.gap c.in-Err.error c.fill.new.window.position
    (unread c.fill.new.window) c.in-Err.ensures.failure
    (left_of one k.none_at k.error_at has c.args.gap (unread c.loop-turn.window)
    (unread c.fill.new.window) c.loop-turn.is_over _ _ _ (step.ensures.asks c.in-More.is)
    (c.in-Err.ensures.same ∙ step.ensures.uses.rest))

pub returns-clause-reason : goal.returns-clause-reason
returns-clause-reason g c = inl (omega (arith, c.loop-turn.invariant.turns.0))

pub returns-in-End-clause-onward : goal.returns-in-End-clause-onward
returns-in-End-clause-onward g c =
    let k = g.K.Kind in
    let kind = c.args.kind in
    let gap = c.args.gap in
    let list = stream_list (k.number_at kind) k.none_at k.error_later gap in
    let step = c.read_held_one-number in
    let text = bytes_left c.args.window.now (g.R.Read.remaining c.args.reader.now) in
    onward_end list (IsApart (k.has_byte kind) gap) c.args.window.now.position
    c.loop-turn.window.position step.new.window.position text c.in-End.end
    (rw c.in-End.is at step.ensures.still) c.loop-turn.invariant.goes_on

pub returns-in-Err-clause-onward : goal.returns-in-Err-clause-onward
returns-in-Err-clause-onward g c =
    let k = g.K.Kind in
    let kind = c.args.kind in
    let gap = c.args.gap in
    let list = stream_list (k.number_at kind) k.none_at k.error_later gap in
    let step = c.read_held_one-number in
    let text = bytes_left c.args.window.now (g.R.Read.remaining c.args.reader.now) in
    let more = list_of_option k.meaning step.result.0 in
    let none = step.ensures.more c.in-More.is in
    let turn = list_turn list (IsApart (k.has_byte kind) gap) c.args.window.now.position
    c.loop-turn.window.position step.new.window.position 1 1 (1 - length more) [] more
    step.result.1 (unread c.loop-turn.window) (unread step.new.window) c.loop-turn.is_over text
    (g.R.Read.remaining c.loop-turn.reader) c.loop-turn.invariant.uses step.ensures.uses
    c.loop-turn.invariant.last step.ensures.list c.loop-turn.invariant.goes_on in
    rw c.fill.ensures.position (rw (c.in-More.is, none) at turn)
