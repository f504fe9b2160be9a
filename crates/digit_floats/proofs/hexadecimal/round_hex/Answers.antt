use Rattle.std.proofs.Common.{sym, subst}
use Rattle.std.specs.Float.{NotNan}
use Rattle.digit_floats.proofs.Numbers.{round_number}
use Rattle.digit_floats.proofs.hexadecimal.round_hex.Goals as goal

pub returns-clause-no_nan : goal.returns-clause-no_nan
returns-clause-no_nan g c =
    subst NotNan
    (sym (c.signed.ensures _ _
    (c.round_power-x.ensures _ _ c.wide_power-value.ensures c.keep_hex_both-kept.ensures.keeps)))
    (round_number g.F.Float.format c.args.negative _ _)
