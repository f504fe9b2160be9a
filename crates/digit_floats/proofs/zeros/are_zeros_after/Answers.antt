use Rattle.std.proofs.Common.{refl, sym, ◌∙◌, arith}
use Rattle.std.proofs.lemmas.List.{take_rest}
use Rattle.digit_floats.proofs.Others.{all_digits}
use Rattle.digit_floats.proofs.zeros.are_zeros_after.Goals as goal

pub returns-then-digits-bytes : goal.returns-then-digits-bytes
returns-then-digits-bytes c =
    let bytes = c.args.bytes.now in
    let all = all_digits bytes (sym c.requires.digits ∙ omega arith) in
    c.are_all_zeros.ensures ∙ rw (all, take_rest bytes c.args.count) refl
