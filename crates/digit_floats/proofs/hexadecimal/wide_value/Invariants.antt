use Rattle.std.proofs.Common.{◌≡◌, ◌^◌, filter, take}
use Rattle.std.specs.Prelude.{min}
use Rattle.std.specs.Char.{is_ascii_digit}
use Rattle.std.specs.Str.Parse.{digits_value}
use Rattle.digit_floats.proofs.hexadecimal.wide_value.Given as goal

abbrev pub invariant-loop-byte : goal.invariant-loop-byte
invariant-loop-byte l =
    l.value ≡ min (digits_value 10 (filter is_ascii_digit (take l.byte-index l.text))) (2 ^ 70)
