use Rattle.std.proofs.Common.{rules}
use Rattle.lexical_digits.proofs.Calls.Items.{items_unroll, after_items_unroll}
use Rattle.lexical_digits.proofs.laws.items_unroll.Goals as goal

pub returns : goal.returns
returns g c =
    let digits = (g.met.I.DigitsIter c.lifetimes (search rules)).digit_laws in
    let v = (g.met.I.Iter c.lifetimes (search rules)).valid_now c.args.iter.now in
    record { items = items_unroll digits _ v; leaves = after_items_unroll digits _ v }
