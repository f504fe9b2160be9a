use Rattle.std.proofs.Common.{◌<◌, ◌^◌, ◌≡◌, length, arith}
use Rattle.lexical_digits.specs.State.{start}
use Rattle.digit_requests.specs.Line.{asked_by, word_of}
use Rattle.digit_requests.proofs.DrainFromStart.{adds_text}
use Rattle.digit_requests.proofs.report.push_text.Goals as goal

pub returns : goal.returns
returns g c =
    let asked = asked_by c.args.request.now in
    let short : length c.args.request.now.text.now < 2 ^ 64 = omega arith in
    let fresh : c.new-bytes.result.state ≡ start asked.text (word_of asked) =
    rw c.requires.word at c.new-bytes.ensures.state in
    adds_text asked c.new-bytes.result.state _ _ _ short fresh c.push_component.ensures
