use Rattle.std.proofs.Common.{◌≡◌, take, drop}
use Rattle.digit_streams.proofs.Known.{filled}
use Rattle.digit_streams.proofs.window.Window.fill.Goals as goal

pub returns-clause-text : goal.returns-clause-text
returns-clause-text g c =
    let buffer = c.read_after.new.buffer in
    let to = c.move_to_front.new.self.to in
    let old = c.args.self.now in
    let front : take to c.move_to_front.new.self.buffer.now
    ≡ drop old.from (take old.to old.buffer.now) =
    rw c.move_to_front.ensures.front at c.move_to_front.ensures.same in
    rw c.move_to_front.ensures.front
    (filled _ _ _ buffer to c.in_ok-count.count (rw c.read_after.ensures.front front)
    c.in_ok-count.ensures.bytes)
