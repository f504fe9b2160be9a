-- The sum of an array of integers with which a stream begins.
use Rattle.std.specs.Prelude.{ℕ, ℤ, ◌-◌, ◌^◌, List, Option, IfSome, Result, Ok, Err}
use Rattle.digits.specs.Constants.{COMMAS, STANDARD}
use Rattle.digits.specs.EnclosedFoldErrors as enclosed
use Rattle.digits.specs.FoldErrors as folds
use Rattle.digits.specs.StreamErrors as errors
use Rattle.digits.specs.Words.{Brackets, EnclosedFoldError, Integer, LiteralError, ReadsEnclosed, literal_later, literal_none_at, number_at, rule_of, stream_list}
use Rattle.digit_uses.specs.declared.arrays.SumError.{SumError}
use Rattle.digit_uses.specs.declared.arrays.SumError.TheVariants.{NoOpening, Number, NoClosing, Stream}
use Rattle.digit_uses.specs.Sums.{sum_of}

-- an array of integers: `[`, integers with a comma between two, and `]`
abbrev pub array : Brackets ℤ LiteralError
array = record {
  gap = COMMAS;
  opening = 91;
  closing = 93;
  list =
      stream_list (number_at (2 ^ 63) (2 ^ 63 - 1) (rule_of STANDARD Integer)) literal_none_at
      literal_later COMMAS;
}

-- the error, as a list between two bytes has it
abbrev pub fold_error : SumError → EnclosedFoldError LiteralError
fold_error (NoOpening at) = enclosed.NoOpening at
fold_error (Number error) = enclosed.Fold (folds.Stream (errors.Number error))
fold_error (NoClosing at) = enclosed.NoClosing at
fold_error (Stream error) = enclosed.Fold (folds.Stream error)

abbrev pub as_fold : Result ℤ SumError → Result ℤ (EnclosedFoldError LiteralError)
as_fold (Ok sum) = Ok sum
as_fold (Err error) = Err (fold_error error)

-- What is answered of a stream, if its bytes are known: the sum of the array, or where it is at
-- fault. A buffer may be too small, and a reader may fail, at any text.
abbrev pub IsArraySum : Option (List ℕ) → Result ℤ SumError → Type 0
IsArraySum known result =
    IfSome known (λ text. (end : ℕ) × ReadsEnclosed array text sum_of 0 end (as_fold result))
