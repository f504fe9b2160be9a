use Rattle.std.proofs.Common.{unwrap_or, arith}
use Rattle.std.proofs.lemmas.List.FromFn.{get_or-map-range_with_len}
use Rattle.lexical_format.specs.Digits.{digit_value}
use Rattle.lexical_format.proofs.digit.digit_value.Goals as goal

pub returns : goal.returns
returns c =
    let byte = c.args.byte in
    let entry = get_or-map-range_with_len (λ b. unwrap_or (digit_value b) 36) 0 256 byte in
    rw c.values.ensures (rw c.from.ensures (entry byte 0 c.ranges.byte.fits (omega arith)))
