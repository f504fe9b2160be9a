use Rattle.std.proofs.Common.{◌≡◌, ◌≤◌, ◌+◌, ℕ, filter, take, length}
use Rattle.std.specs.Char.{is_ascii_digit}
use Rattle.std.specs.Str.Parse.{digits_value_after}
use Rattle.digit_floats.specs.Cut.{room, IsKept}
use Rattle.digit_floats.proofs.long.keep_digits.Given as goal

abbrev pub invariant-loop-byte : goal.invariant-loop-byte
invariant-loop-byte l = record {
  keeps : (number : ℕ) → IsKept l.initial.bytes l.fn.kept number
      → IsKept l.bytes l.now
      (digits_value_after 10 number (filter is_ascii_digit (take l.byte-index l.text)));
  fits : l.now.len ≤ room;
  few : l.now.cut ≤ l.fn.kept.cut + l.byte-index;
  same : length l.bytes ≡ length l.initial.bytes;
}
