use Rattle.std.proofs.Common.{arith}
use Rattle.std.proofs.Math.Nat.{one-le-pow, pow-le-pow_right}
use Rattle.digit_words.proofs.powers.wide_ten_to.Goals as goal

pub pow-requires : goal.pow-requires
pow-requires c = omega (arith, pow-le-pow_right {n = 10} (omega arith) c.requires)

pub returns-clause-some : goal.returns-clause-some
returns-clause-some c = rw c.pow.ensures (one-le-pow c.args.n 10 (omega arith))
