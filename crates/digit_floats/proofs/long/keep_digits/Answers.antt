use Rattle.std.proofs.Common.{◌≡◌, ◌<◌, true, false, length, get_or, arith}
use Rattle.std.specs.Char.{is_ascii_digit}
use Rattle.digit_floats.proofs.Kept.{value_more, value_same}
use Rattle.digit_floats.proofs.long.keep_digits.Goals.{then-is_ascii_digit, else-is_ascii_digit}
use Rattle.digit_floats.proofs.long.keep_digits.Goals as goal

pub loop-byte-preserved : goal.loop-byte-preserved
loop-byte-preserved c =
    let text = c.args.text.now in
    let i = c.loop-byte.byte-index in
    let within : i < length text = omega arith in
    elim c.if-is_ascii_digit.branch [
      | then-is_ascii_digit w ↦
          let digit : is_ascii_digit (get_or text i 0) ≡ true = cc in
          record {
            keeps = λ number is.
                rw (w.bytes-is, w.now-is, value_more 10 is_ascii_digit text i number within digit)
                (w.keep-now.ensures.keeps _ (c.loop-byte.invariant.keeps number is));
            fits = rw w.now-is w.keep-now.ensures.fits;
            few = rw w.now-is (omega (arith, w.keep-now.ensures.few));
            same = rw w.bytes-is (omega (arith, w.keep-now.ensures.length));
          }
      | else-is_ascii_digit w ↦
          let digit : is_ascii_digit (get_or text i 0) ≡ false = cc in
          record {
            keeps = λ number is.
                rw (w.bytes-is, w.now-is, value_same 10 is_ascii_digit text i number within digit)
                (c.loop-byte.invariant.keeps number is);
            fits = rw w.now-is c.loop-byte.invariant.fits;
            few = rw w.now-is (omega arith);
            same = rw w.bytes-is c.loop-byte.invariant.same;
          }
    ]
