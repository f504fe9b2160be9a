use Rattle.std.proofs.Common.{◌≤◌, ◌+◌, ℕ, filter, take}
use Rattle.std.specs.Char.{is_ascii_hexdigit}
use Rattle.std.specs.Str.Parse.{digits_value_after}
use Rattle.digit_floats.specs.Hexadecimal.{IsHexKept}
use Rattle.digit_floats.proofs.hexadecimal.keep_hex_digits.Given as goal

abbrev pub invariant-loop-byte : goal.invariant-loop-byte
invariant-loop-byte l = record {
  keeps : (number : ℕ) → IsHexKept l.fn.kept number
      → IsHexKept l.now
      (digits_value_after 16 number (filter is_ascii_hexdigit (take l.byte-index l.text)));
  few : l.now.cut ≤ l.fn.kept.cut + l.byte-index;
}
