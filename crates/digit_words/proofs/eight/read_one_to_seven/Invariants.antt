use Rattle.std.proofs.Common.{◌^◌, ◌<◌, length}
use Rattle.digit_words.specs.Eight.{IsWritten}
use Rattle.digit_words.proofs.eight.read_one_to_seven.Given as goal

abbrev pub invariant-loop-at : goal.invariant-loop-at
invariant-loop-at l = record {
  written : IsWritten l.text 0 l.at l.value;
  within : l.at < length l.text;
  below : l.value < 10 ^ l.at;
}
