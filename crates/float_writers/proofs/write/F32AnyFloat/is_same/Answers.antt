use Rattle.std.proofs.Common.{◌≡◌, sym, subst, arith}
use Rattle.std.proofs.lemmas.Bool.Decides.{nat_tests}
use lib.Dec.{T}
use lib.Ieee.{binary32, to_bits}
use Rattle.float_writers.proofs.Same.{same_bits}
use Rattle.float_writers.proofs.write.F32AnyFloat.is_same.Goals as goal

pub returns-clause-yes : goal.returns-clause-yes
returns-clause-yes c = λ e.
    let same : to_bits binary32 c.args.self ≡ to_bits binary32 c.args.other =
    grind (arith, nat_tests, e) in
    same_bits binary32 c.args.self c.args.other (subst T (sym c.well_formed.0.1) tt)
    (subst T (sym c.well_formed.1.0.1) tt) same
