use Rattle.std.proofs.Common.{rules, arith}
use Rattle.digit_script.proofs.dispatch.ask.Goals as goal

-- the cursor is within the buffer
pub prove-unreachable-requires : goal.prove-unreachable-requires
prove-unreachable-requires g c =
    let k : g.claim c.lifetimes = search rules in
    let i = g.met.I.Iter c.lifetimes k in
    let within = i.laws.within _ (i.valid_now c.args.iter.now) in
    omega (arith, within)
