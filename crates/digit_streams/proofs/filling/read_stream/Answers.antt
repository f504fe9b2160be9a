use Rattle.std.proofs.Common.{◌∙◌, ◌≡◌, ◌+◌, ◌-◌, List, ◌++◌, length, map, take, drop, IfSome, inl, arith, sym, subst, ◌≤◌}
use Rattle.std.specs.Io.KnownBytes.{prepend_known}
use Rattle.digit_pieces.specs.Texts.{IsApart}
use Rattle.digit_streams.specs.Windows.{unread}
use Rattle.digit_streams.specs.declared.stream.StreamEnd.TheVariants.{Fault}
use Rattle.digit_streams.specs.Streams.{Gives, StandsAfter, stream_list}
use Rattle.digit_streams.proofs.Ends.{turn_on, goes_on, left_of, reason_end, reason_failed, numbers_length, stands_end, stands_failed, stands_long}
use Rattle.digit_streams.proofs.Stuck.{no_room, unread_fits}
use Rattle.digit_streams.proofs.Turns.{some_then, rest_turn, numbers_turn, uses_turn, uses_kept, first_are, list_turn}
use Rattle.digit_streams.proofs.filling.read_stream.Goals as goal

pub returns-in-End-clause-rest : goal.returns-in-End-clause-rest
returns-in-End-clause-rest g c =
    rest_turn c.loop-turn.count c.read_held_after-more.result.0 c.args.out.now c.loop-turn.out
    c.read_held_after-more.new.out c.loop-turn.invariant.rest c.read_held_after-more.ensures.rest

pub returns-in-End-clause-uses : goal.returns-in-End-clause-uses
returns-in-End-clause-uses g c =
    uses_turn _ _ _ _ _ _ _ c.loop-turn.invariant.uses c.read_held_after-more.ensures.uses

pub returns-in-Err-clause-rest : goal.returns-in-Err-clause-rest
returns-in-Err-clause-rest g c =
    rest_turn c.loop-turn.count c.read_held_after-more.result.0 c.args.out.now c.loop-turn.out
    c.read_held_after-more.new.out c.loop-turn.invariant.rest c.read_held_after-more.ensures.rest

pub returns-in-Err-clause-uses : goal.returns-in-Err-clause-uses
returns-in-Err-clause-uses g c =
    rw c.fill.ensures.position
    (uses_kept _ _ _ _ _
    (uses_turn _ _ _ _ _ _ _ c.loop-turn.invariant.uses c.read_held_after-more.ensures.uses)
    c.fill.ensures.text)

pub returns-in-End-clause-list : goal.returns-in-End-clause-list
returns-in-End-clause-list g c =
    let k = g.K.Kind in
    let kind = c.args.kind in
    let gap = c.args.gap in
    let list = stream_list (k.number_at kind) k.none_at k.error_later gap in
    let step = c.read_held_after-more in
    let text = prepend_known (unread c.args.window.now) (g.R.Read.remaining c.args.reader.now) in
    let from = c.args.window.now.position in
    let room = length c.args.out.now in
    let before = map k.meaning (take c.loop-turn.count c.loop-turn.out) in
    let more = map k.meaning (take step.result.0 (drop c.loop-turn.count step.new.out)) in
    let same : length c.loop-turn.out ≡ length c.args.out.now = omega arith in
    let turn = list_turn list (IsApart (k.has_byte kind) gap) from c.loop-turn.window.position
    step.new.window.position room (room - c.loop-turn.count)
    (room - c.loop-turn.count - step.result.0) before more step.result.1
    (unread c.loop-turn.window) (unread step.new.window) c.loop-turn.is_over
    text (g.R.Read.remaining c.loop-turn.reader) c.loop-turn.invariant.uses step.ensures.uses
    c.loop-turn.invariant.last (rw same at step.ensures.list) c.loop-turn.invariant.goes_on in
    let P : List k.Meaning → Type 0 = λ numbers. IfSome text (λ whole. IsApart (k.has_byte kind) gap
    → Gives (list from whole room) numbers c.in-End.end) in
    subst P
    (sym (numbers_turn k.meaning c.loop-turn.count step.result.0 c.loop-turn.out step.new.out
    step.ensures.front))
    (rw c.in-End.is at turn)

pub returns-in-Err-clause-list : goal.returns-in-Err-clause-list
returns-in-Err-clause-list g c =
    let k = g.K.Kind in
    let kind = c.args.kind in
    let gap = c.args.gap in
    let list = stream_list (k.number_at kind) k.none_at k.error_later gap in
    let step = c.read_held_after-more in
    let text = prepend_known (unread c.args.window.now) (g.R.Read.remaining c.args.reader.now) in
    let from = c.args.window.now.position in
    let room = length c.args.out.now in
    let before = map k.meaning (take c.loop-turn.count c.loop-turn.out) in
    let more = map k.meaning (take step.result.0 (drop c.loop-turn.count step.new.out)) in
    let same : length c.loop-turn.out ≡ length c.args.out.now = omega arith in
    let turn = list_turn list (IsApart (k.has_byte kind) gap) from c.loop-turn.window.position
    step.new.window.position room (room - c.loop-turn.count)
    (room - c.loop-turn.count - step.result.0) before more step.result.1
    (unread c.loop-turn.window) (unread step.new.window) c.loop-turn.is_over
    text (g.R.Read.remaining c.loop-turn.reader) c.loop-turn.invariant.uses step.ensures.uses
    c.loop-turn.invariant.last (rw same at step.ensures.list) c.loop-turn.invariant.goes_on in
    let P : List k.Meaning → Type 0 = λ numbers. IfSome text (λ whole. IsApart (k.has_byte kind) gap
    → Gives (list from whole room) numbers (Fault c.in-Err.error)) in
    subst P
    (sym (numbers_turn k.meaning c.loop-turn.count step.result.0 c.loop-turn.out step.new.out
    step.ensures.front))
    (some_then text _ _ (λ whole goes apart. first_are (list from whole room) (before ++ more) _
    c.in-Err.error (goes apart) c.in-Err.ensures.failure) (rw c.in-More.is at turn))

pub loop-turn-preserved : goal.loop-turn-preserved
loop-turn-preserved g c =
    let k = g.K.Kind in
    let kind = c.args.kind in
    let gap = c.args.gap in
    let list = stream_list (k.number_at kind) k.none_at k.error_later gap in
    let step = c.read_held_after-more in
    let text = prepend_known (unread c.args.window.now) (g.R.Read.remaining c.args.reader.now) in
    let from = c.args.window.now.position in
    let room = length c.args.out.now in
    let before = map k.meaning (take c.loop-turn.count c.loop-turn.out) in
    let more = map k.meaning (take step.result.0 (drop c.loop-turn.count step.new.out)) in
    let same : length c.loop-turn.out ≡ length c.args.out.now = omega arith in
    let left : room - (c.loop-turn.count + step.result.0)
    ≡ room - c.loop-turn.count - step.result.0 =
    omega arith in
    let turn = list_turn list (IsApart (k.has_byte kind) gap) from c.loop-turn.window.position
    step.new.window.position room (room - c.loop-turn.count)
    (room - c.loop-turn.count - step.result.0) before more step.result.1
    (unread c.loop-turn.window) (unread step.new.window) c.loop-turn.is_over
    text (g.R.Read.remaining c.loop-turn.reader) c.loop-turn.invariant.uses step.ensures.uses
    c.loop-turn.invariant.last (rw same at step.ensures.list) c.loop-turn.invariant.goes_on in
    let on = goes_on (k.number_at kind) k.none_at k.error_at (k.has_byte kind) gap
    (unread c.loop-turn.window) c.loop-turn.is_over _ _ _ (step.ensures.asks c.in-More.is) in
    record {
      turns = rw c.fill.ensures.position
          (turn_on c.loop-turn.turn c.loop-turn.window.position step.new.window.position
          (unread c.loop-turn.window) (unread step.new.window) (unread c.fill.new.window)
          c.in-Ok.over (c.loop-turn.invariant.turns.1 on) step.ensures.uses c.in-Ok.ensures.none
          c.in-Ok.ensures.more);
      capacity = c.fill.ensures.capacity ∙ step.ensures.capacity ∙ c.loop-turn.invariant.capacity;
      within = omega (arith, step.ensures.count);
      rest = rest_turn c.loop-turn.count step.result.0 c.args.out.now c.loop-turn.out step.new.out
          c.loop-turn.invariant.rest step.ensures.rest;
      last = c.in-Ok.ensures.last;
      uses = rw c.fill.ensures.position
          (uses_kept _ _ _ _ _
          (uses_turn _ _ _ _ _ _ _ c.loop-turn.invariant.uses step.ensures.uses)
          c.fill.ensures.text);
      goes_on =
          rw (
            c.fill.ensures.position,
            numbers_turn k.meaning c.loop-turn.count step.result.0 c.loop-turn.out step.new.out
                step.ensures.front,
            left,
          ) (rw c.in-More.is at turn);
    }

pub returns-in-Err-clause-no_room : goal.returns-in-Err-clause-no_room
returns-in-Err-clause-no_room g c =
    let k = g.K.Kind in
    let step = c.read_held_after-more in
    let capacity : length (unread c.loop-turn.window) ≤ length c.fill.new.window.buffer.now =
    omega (arith, unread_fits c.loop-turn.window, c.fill.ensures.capacity, step.ensures.capacity) in
    no_room (k.number_at c.args.kind) k.none_at (k.has_byte c.args.kind) c.args.gap c.in-Err.error
    c.fill.new.window step.new.window (unread c.loop-turn.window) c.loop-turn.is_over _
    c.loop-turn.window.position step.new.window.position _ _ _ c.in-Err.ensures.same
    c.in-Err.ensures.place capacity step.ensures.uses (step.ensures.asks c.in-More.is)

pub returns-in-End-clause-reason : goal.returns-in-End-clause-reason
returns-in-End-clause-reason g c =
    let k = g.K.Kind in
    let step = c.read_held_after-more in
    reason_end (k.number_at c.args.kind) k.none_at k.error_at (k.has_byte c.args.kind) c.args.gap
    c.in-End.end step.new.window.position (unread step.new.window)
    (rw c.in-End.is at step.ensures.place)

pub returns-in-Err-clause-reason : goal.returns-in-Err-clause-reason
returns-in-Err-clause-reason g c =
    let k = g.K.Kind in
    let one = k.number_at c.args.kind in
    let has = k.has_byte c.args.kind in
    let step = c.read_held_after-more in
    reason_failed one k.none_at k.error_at has c.args.gap c.in-Err.error c.fill.new.window.position
    (unread c.fill.new.window) c.in-Err.ensures.failure
    (left_of one k.none_at k.error_at has c.args.gap (unread c.loop-turn.window)
    (unread c.fill.new.window) c.loop-turn.is_over _ _ _ (step.ensures.asks c.in-More.is)
    (c.in-Err.ensures.same ∙ step.ensures.uses.rest))

pub returns-clause-reason : goal.returns-clause-reason
returns-clause-reason g c = inl (omega (arith, c.loop-turn.invariant.turns.0))

pub returns-in-End-clause-onward : goal.returns-in-End-clause-onward
returns-in-End-clause-onward g c =
    let k = g.K.Kind in
    let kind = c.args.kind in
    let gap = c.args.gap in
    let list = stream_list (k.number_at kind) k.none_at k.error_later gap in
    let step = c.read_held_after-more in
    let text = prepend_known (unread c.args.window.now) (g.R.Read.remaining c.args.reader.now) in
    let from = c.args.window.now.position in
    let to = step.new.window.position in
    let room = length c.args.out.now in
    let before = map k.meaning (take c.loop-turn.count c.loop-turn.out) in
    let more = map k.meaning (take step.result.0 (drop c.loop-turn.count step.new.out)) in
    let same : length c.loop-turn.out ≡ length c.args.out.now = omega arith in
    let P : List k.Meaning → Type 0 = λ numbers. IfSome text (λ whole. IsApart (k.has_byte kind) gap
    → StandsAfter (list from whole room) numbers c.in-End.end
    (λ n. list to (drop (to - from) whole) (room - n))) in
    subst P
    (sym (numbers_turn k.meaning c.loop-turn.count step.result.0 c.loop-turn.out step.new.out
    step.ensures.front))
    (stands_end list (IsApart (k.has_byte kind) gap) from c.loop-turn.window.position to room
    c.loop-turn.count before text
    (numbers_length k.meaning c.loop-turn.count c.loop-turn.out (omega arith)) more c.in-End.end _
    (rw c.in-End.is at step.ensures.place) (rw c.in-End.is at step.ensures.still)
    c.loop-turn.invariant.goes_on)

pub returns-in-Err-clause-onward : goal.returns-in-Err-clause-onward
returns-in-Err-clause-onward g c =
    let k = g.K.Kind in
    let kind = c.args.kind in
    let gap = c.args.gap in
    let list = stream_list (k.number_at kind) k.none_at k.error_later gap in
    let step = c.read_held_after-more in
    let text = prepend_known (unread c.args.window.now) (g.R.Read.remaining c.args.reader.now) in
    let from = c.args.window.now.position in
    let room = length c.args.out.now in
    let before = map k.meaning (take c.loop-turn.count c.loop-turn.out) in
    let more = map k.meaning (take step.result.0 (drop c.loop-turn.count step.new.out)) in
    let same : length c.loop-turn.out ≡ length c.args.out.now = omega arith in
    let left : room - (c.loop-turn.count + step.result.0)
    ≡ room - c.loop-turn.count - step.result.0 =
    omega arith in
    let turn = list_turn list (IsApart (k.has_byte kind) gap) from c.loop-turn.window.position
    step.new.window.position room (room - c.loop-turn.count)
    (room - c.loop-turn.count - step.result.0) before more step.result.1
    (unread c.loop-turn.window) (unread step.new.window) c.loop-turn.is_over text
    (g.R.Read.remaining c.loop-turn.reader) c.loop-turn.invariant.uses step.ensures.uses
    c.loop-turn.invariant.last (rw same at step.ensures.list) c.loop-turn.invariant.goes_on in
    rw c.fill.ensures.position
    (stands_failed list (IsApart (k.has_byte kind) gap) from step.new.window.position
    step.new.window.position room (c.loop-turn.count + step.result.0)
    (map k.meaning (take (c.loop-turn.count + step.result.0) step.new.out)) text
    (numbers_length k.meaning (c.loop-turn.count + step.result.0) step.new.out (omega arith))
    c.in-Err.error c.in-Err.ensures.failure
    (rw (
      numbers_turn k.meaning c.loop-turn.count step.result.0 c.loop-turn.out step.new.out
          step.ensures.front,
      left,
    ) (rw c.in-More.is at turn)))

pub returns-clause-onward : goal.returns-clause-onward
returns-clause-onward g c =
    let k = g.K.Kind in
    let kind = c.args.kind in
    let gap = c.args.gap in
    let list = stream_list (k.number_at kind) k.none_at k.error_later gap in
    let text = prepend_known (unread c.args.window.now) (g.R.Read.remaining c.args.reader.now) in
    stands_long list (IsApart (k.has_byte kind) gap) c.args.window.now.position
    c.loop-turn.window.position c.loop-turn.window.position (length c.args.out.now)
    c.loop-turn.count (map k.meaning (take c.loop-turn.count c.loop-turn.out)) text
    (numbers_length k.meaning c.loop-turn.count c.loop-turn.out (omega arith))
    c.loop-turn.invariant.goes_on
