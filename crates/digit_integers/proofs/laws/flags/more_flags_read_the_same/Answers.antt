use Rattle.digit_integers.proofs.MoreFlags.{same_integer, same_at_end, same_number, same_whole}
use Rattle.digit_integers.proofs.laws.flags.more_flags_read_the_same.Goals as goal

pub returns : goal.returns
returns c = record {
  same = same_integer;
  at_end = same_at_end;
  number = same_number;
  whole = same_whole;
}
