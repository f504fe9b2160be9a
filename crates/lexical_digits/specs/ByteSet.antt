-- A test of a byte, as a value.
use Rattle.std.specs.Prelude.{ℕ, ◌-◌, Bool, if◌then◌else◌, nat_lt}
use Rattle.lexical_format.specs.Word.{bit}
use Rattle.lexical_digits.specs.declared.ops.ByteSet.{ByteSet}

-- whether a byte is in the set
abbrev pub accepts : ByteSet → ℕ → Bool
accepts set byte = if nat_lt byte 128 then bit set.low byte else bit set.high (byte - 128)
