use Rattle.std.proofs.Common.{◌≡◌, ◌<◌, true, false, length, get_or, arith}
use Rattle.std.specs.Char.{is_ascii_digit}
use Rattle.digit_floats.proofs.Kept.{value_more, value_same}
use Rattle.digit_floats.proofs.hexadecimal.wide_value.Goals.{then-is_ascii_digit, else-is_ascii_digit}
use Rattle.digit_floats.proofs.hexadecimal.wide_value.Goals as goal

pub loop-byte-preserved : goal.loop-byte-preserved
loop-byte-preserved c =
    let text = c.args.text.now in
    let i = c.loop-byte.byte-index in
    let within : i < length text = omega arith in
    elim c.if-is_ascii_digit.branch [
      | then-is_ascii_digit w ↦
          let digit : is_ascii_digit (get_or text i 0) ≡ true = cc in
          rw (w.value-is, value_more 10 is_ascii_digit text i 0 within digit)
          (omega (arith, w.min-value.ensures, w.hex_value.ensures.value, c.loop-byte.invariant))
      | else-is_ascii_digit w ↦
          let digit : is_ascii_digit (get_or text i 0) ≡ false = cc in
          rw (w.value-is, value_same 10 is_ascii_digit text i 0 within digit) c.loop-byte.invariant
    ]
