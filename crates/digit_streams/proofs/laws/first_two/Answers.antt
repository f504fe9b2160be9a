use Rattle.std.proofs.Common.{◌∙◌}
use Rattle.digit_streams.specs.Streams.{stream_list}
use Rattle.digit_streams.proofs.ForCallers.{first_two, first_gives, next_gives}
use Rattle.digit_streams.proofs.laws.first_two.Goals as goal

pub returns-in-Some-Ok-next_number : goal.returns-in-Some-Ok-next_number
returns-in-Some-Ok-next_number g c = λ apart.
    let k = g.K.Kind in
    let kind = c.args.kind in
    let gap = c.args.gap in
    let text = c.args.text.now in
    let list = stream_list (k.number_at kind) k.none_at k.error_later gap in
    let from = c.new-numbers.ensures in
    let one = c.next_number in
    let new = one.new.self in
    first_two k.meaning list 0 new.position text new.bytes new.ended c.in-Some-Ok.first
    c.in-Some-Ok-next_number.second (c.calls_go_on.ensures 1 1 0 text apart)
    (first_gives k.number_at k.none_at k.error_later k.has_byte c.new-numbers.result kind gap
    from.kind from.gap apart text _ _ from.ended from.position from.bytes
    (rw c.in-Some-Ok.field-0-is at c.in-Some-Ok.ensures.list))
    (rw (from.position, from.bytes) at one.ensures.uses)
    (next_gives k.number_at k.none_at k.error_later k.has_byte new kind gap
    (one.ensures.kind ∙ from.kind) (one.ensures.gap ∙ from.gap) apart _
    (rw c.in-Some-Ok-next_number.field-0-is at c.in-Some-Ok-next_number.ensures.next))
