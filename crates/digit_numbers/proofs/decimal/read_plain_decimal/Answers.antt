use Rattle.digit_numbers.proofs.Decimals.{right_false}
use Rattle.digit_numbers.proofs.decimal.read_plain_decimal.Goals as goal

pub read_end-requires-clause-no_prefix : goal.read_end-requires-clause-no_prefix
read_end-requires-clause-no_prefix c =
    rw c.requires.sign.ends (right_false _ _ c.requires.no_name)
