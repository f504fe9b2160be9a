use Rattle.std.proofs.Common.{◌*◌, ◌^◌, arith}
use Rattle.std.specs.Float.Numeral.{tens_up, tens_down}
use lib.Ieee.Scale.{round_same}
use Rattle.digit_floats.specs.Bytes.{stands, is_minus}
use Rattle.digit_floats.specs.Float.{past_sign, parts_at}
use Rattle.digit_floats.proofs.Tens.{ten_pos}
use Rattle.digit_floats.proofs.laws.zeros_keep_their_sign.Goals as goal

pub returns : goal.returns
returns c = λ marks f at none.
    let text = c.args.text.now in
    let p = parts_at c.args.word text marks (past_sign text at) in
    rw none
    (round_same f (stands is_minus text at) (0 * 10 ^ tens_up p) (10 ^ tens_down p) 0 1
    (ten_pos (tens_down p)) (omega arith) (omega arith))
