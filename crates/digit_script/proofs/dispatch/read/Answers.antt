use Rattle.std.proofs.Common.{refl, arith, ◌≡◌, true}
use Rattle.lexical_digits.specs.CallTable.{On}
use Rattle.digit_script.specs.Script.{asks}
use Rattle.digit_script.proofs.Scripts.{asked}
use Rattle.digit_script.proofs.dispatch.read.Goals as goal

-- what is left are the calls that ask
pub returns-in_default : goal.returns-in_default
returns-in_default g c =
    let call = c.args.op in
    let named : asks call ≡ true = grind (arith) in
    record {
      makes = λ k state on.
          let s = state (g.I.Iter.meaning c.args.iter.now) in
          let owing = g.I.Iter.owed c.args.iter.now in
          asked (On k) call s owing c.ask.result named
          (c.ask.ensures.asked (On k) s on.shows named);
      keeps_loan = refl;
    }
