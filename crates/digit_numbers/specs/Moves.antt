-- Why there is no number, with a position that counts from another start.
use Rattle.std.specs.Prelude.{ℕ, ◌+◌}
use Rattle.digit_numbers.specs.declared.number.NumberError.{NumberError}
use Rattle.digit_numbers.specs.declared.number.NumberError.TheVariants.{Empty, Overflow, Invalid}

-- an error with its position so much later
abbrev pub number_later : ℕ → NumberError → NumberError
number_later by (Empty at) = Empty (by + at)
number_later by (Overflow at) = Overflow (by + at)
number_later by (Invalid at) = Invalid (by + at)
