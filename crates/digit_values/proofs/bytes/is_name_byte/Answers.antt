use Rattle.std.proofs.Common.{false, arith}
use Rattle.std.proofs.lemmas.List.FromFn.{get_or-map-range_with_len}
use Rattle.digit_values.specs.Bytes.{is_name_byte}
use Rattle.digit_values.proofs.bytes.is_name_byte.Goals as goal

pub returns : goal.returns
returns c =
    let byte = c.args.byte in
    let entry = get_or-map-range_with_len is_name_byte 0 256 byte in
    rw c.name_bytes.ensures (rw c.from.ensures (entry byte false c.ranges.byte.fits (omega arith)))
