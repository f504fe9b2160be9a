use Rattle.std.proofs.Common.{rules, refl}
use Rattle.lexical_digits.proofs.Calls.Items.{zeros_by, after_zeros_by}
use Rattle.lexical_digits.proofs.laws.zeros_unroll.Goals as goal

pub returns : goal.returns
returns g c =
    let iter = g.met.I.Iter c.lifetimes (search rules) in
    let digits = (g.met.I.DigitsIter c.lifetimes (search rules)).digit_laws in
    let v = iter.valid_now c.args.iter.now in
    record {
      count = zeros_by digits iter.laws _ _ refl v;
      after = after_zeros_by digits iter.laws _ _ refl v;
    }
