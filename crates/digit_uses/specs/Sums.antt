-- The sum of the integers of a stream, one in each line.
use Rattle.std.specs.Prelude.{ℕ, ℤ, pos, ◌+ℤ◌, ◌-◌, ◌^◌, List, Result}
use Rattle.std.specs.List.{fold}
use Rattle.digits.specs.Constants.{LINES, STANDARD}
use Rattle.digits.specs.Words.{Integer, LiteralError, ReadsText, StreamError, StreamNumbers, literal_later, literal_none_at, number_at, rule_of, stream_list}

-- the integers of a text from a position of the stream on, as many as there is room for
abbrev pub integers_from : ℕ → List ℕ → ℕ → StreamNumbers ℤ LiteralError
integers_from =
    stream_list (number_at (2 ^ 63) (2 ^ 63 - 1) (rule_of STANDARD Integer)) literal_none_at
    literal_later LINES

-- the sum of integers, one after the other
abbrev pub sum_of : List ℤ → ℤ
sum_of numbers = fold (λ sum x. sum +ℤ x) (pos 0) numbers

-- What is answered of a text: the sum of its integers, which are all of it; or where it is at
-- fault. A buffer may be too small, and a reader may fail, after the first of them.
abbrev pub IsSum : List ℕ → Result ℤ (StreamError LiteralError) → Type 0
IsSum text result = ReadsText (integers_from 0) sum_of text result
