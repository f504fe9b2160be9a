use Rattle.std.proofs.Common.{◌≡◌, ◌<◌, true, false, length, get_or, arith}
use Rattle.std.specs.Char.{is_ascii_hexdigit}
use Rattle.digit_floats.proofs.Kept.{value_more, value_same}
use Rattle.digit_floats.proofs.hexadecimal.keep_hex_digits.Goals.{then-is_ascii_hexdigit, else-is_ascii_hexdigit}
use Rattle.digit_floats.proofs.hexadecimal.keep_hex_digits.Goals as goal

pub loop-byte-preserved : goal.loop-byte-preserved
loop-byte-preserved c =
    let text = c.args.text.now in
    let i = c.loop-byte.byte-index in
    let within : i < length text = omega arith in
    elim c.if-is_ascii_hexdigit.branch [
      | then-is_ascii_hexdigit w ↦
          let digit : is_ascii_hexdigit (get_or text i 0) ≡ true = cc in
          record {
            keeps = λ number is.
                rw (
                  w.now-is,
                  value_more 16 is_ascii_hexdigit text i number within digit,
                  ← w.hex_value.ensures.value,
                )
                (w.keep_hex-now.ensures.keeps _ (c.loop-byte.invariant.keeps number is));
            few = rw w.now-is (omega (arith, w.keep_hex-now.ensures.few));
          }
      | else-is_ascii_hexdigit w ↦
          let digit : is_ascii_hexdigit (get_or text i 0) ≡ false = cc in
          record {
            keeps = λ number is.
                rw (w.now-is, value_same 16 is_ascii_hexdigit text i number within digit)
                (c.loop-byte.invariant.keeps number is);
            few = rw w.now-is (omega arith);
          }
    ]
