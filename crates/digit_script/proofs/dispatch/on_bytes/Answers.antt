use Rattle.std.proofs.Common.{arith}
use Rattle.lexical_digits.specs.CallTable.{OnBytes}
use Rattle.digit_script.proofs.Scripts.{asked_or_refused, shows_itself}
use Rattle.digit_script.proofs.dispatch.on_bytes.Goals as goal

pub returns-in_default : goal.returns-in_default
returns-in_default c =
    let at = c.is_at_separator-at_separator in
    let a = at.new.bytes in
    rw (← at.ensures.same) (asked_or_refused c.args.op a c.ask.result (grind arith)
    (c.ask.ensures.asked OnBytes a.state (shows_itself OnBytes a.state)) c.ask.ensures.refused)
