-- The digits so far, and their value.
use Rattle.std.proofs.Common.{◌≡◌, ◌<◌, ◌*◌, ◌^◌, true, take}
use Rattle.std.specs.Prelude.{nat_lt}
use Rattle.std.specs.Char.{digit_value}
use Rattle.std.specs.List.{list_all}
use Rattle.std.specs.Str.Parse.{digits_value}
use Rattle.digit_requests.proofs.line.read_number.Given as goal

abbrev pub invariant-loop-byte : goal.invariant-loop-byte
invariant-loop-byte l = record {
  digits : list_all (λ byte. nat_lt (digit_value byte) l.radix) (take l.byte-index l.field) ≡ true;
  value : l.value ≡ digits_value l.radix (take l.byte-index l.field);
  small : l.value < 2 ^ (4 * l.byte-index);
}
