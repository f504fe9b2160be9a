use Rattle.std.proofs.Common.{◌+◌, ◌*◌, ◌-◌, length, ap, arith}
use Rattle.digit_words.proofs.Joined.{join, last_written}
use Rattle.digit_words.proofs.eight.end_whole.Goals as goal

pub returns-then-at-eq8 : goal.returns-then-at-eq8
returns-then-at-eq8 c = λ _.
    let text = c.args.text.now in
    let at = c.args.at in
    let count = length text - at in
    let rest = last_written text (length text - 8) c.in-Some.digits count c.last_of-next.result
    (omega arith) (omega arith) c.in-Some.ensures c.last_of-next.ensures.is at (omega arith) in
    join text 0 at count at (length text) c.args.value c.last_of-next.result _
    (omega arith) (omega arith) c.requires.written rest
    (ap (λ k. c.args.value * k + c.last_of-next.result) c.small_ten_to-scale.ensures.is)

pub returns : goal.returns
returns c = λ _.
    let text = c.args.text.now in
    let at = c.args.at in
    let count = length text - at in
    let rest = last_written text (length text - 8) c.in-Some.digits count c.last_of-next.result
    (omega arith) (omega arith) c.in-Some.ensures c.last_of-next.ensures.is at (omega arith) in
    rw (c.from.ensures, c.from-2.ensures, c.from-3.ensures)
    (join text 0 at count at (length text) c.args.value c.last_of-next.result _
    (omega arith) (omega arith) c.requires.written rest
    (ap (λ k. c.args.value * k + c.last_of-next.result) c.small_ten_to-scale.ensures.is))
