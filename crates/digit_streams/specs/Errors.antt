-- Errors of a stream: after which of them a call goes on, where the fault is, and what is printed.
use Rattle.std.specs.Prelude.{Bool, true, false, ℕ, List, ◌++◌, codes, decimal, Option, None, Some}
use Rattle.std.specs.Fmt.{◌++?◌}
use Rattle.std.specs.declared.io.ErrorKind.{ErrorKind}
use Rattle.std.specs.declared.io.ErrorKind.TheVariants.{WouldBlock, TimedOut}
use Rattle.digit_streams.specs.declared.enclosed.EnclosedFoldError.{EnclosedFoldError}
use Rattle.digit_streams.specs.declared.enclosed.EnclosedFoldError.TheVariants as enclosed
use Rattle.digit_streams.specs.declared.fold.FoldError.{FoldError}
use Rattle.digit_streams.specs.declared.fold.FoldError.TheVariants as folds
use Rattle.digit_streams.specs.declared.stream.StreamError.{StreamError}
use Rattle.digit_streams.specs.declared.stream.StreamError.TheVariants.{Number, NoRoom, Read, TooLong, Trailing}

-- whether a reader that failed so may be read again: nothing had come yet
abbrev pub may_try_again : ErrorKind → Bool
may_try_again WouldBlock = true
may_try_again TimedOut = true
may_try_again kind = false

-- whether the next call goes on after an error
abbrev pub may_go_on : {E : Type 0} → StreamError E → Bool
may_go_on (Number error) = false
may_go_on (NoRoom at) = false
may_go_on (Read kind) = may_try_again kind
may_go_on TooLong = false
may_go_on (Trailing at why) = false

-- the position that an error holds, if it has one; `fault_at` says it of a number's error
abbrev pub stream_fault_at : {E : Type 0} → (E → ℕ) → StreamError E → Option ℕ
stream_fault_at fault_at (Number error) = Some (fault_at error)
stream_fault_at fault_at (NoRoom at) = Some at
stream_fault_at fault_at (Read kind) = None
stream_fault_at fault_at TooLong = None
stream_fault_at fault_at (Trailing at why) = Some at

abbrev pub fold_fault_at : {E : Type 0} → (E → ℕ) → FoldError E → Option ℕ
fold_fault_at fault_at (folds.Stopped at) = Some at
fold_fault_at fault_at (folds.Stream error) = stream_fault_at fault_at error

abbrev pub enclosed_fault_at : {E : Type 0} → (E → ℕ) → EnclosedFoldError E → Option ℕ
enclosed_fault_at fault_at (enclosed.NoOpening at) = Some at
enclosed_fault_at fault_at (enclosed.NoClosing at) = Some at
enclosed_fault_at fault_at (enclosed.Fold error) = fold_fault_at fault_at error

-- what is printed of an error, where it is known; `output` says it of a number's error
abbrev pub stream_message : {E : Type 0} → (E → Option (List ℕ)) → StreamError E
    → Option (List ℕ)
stream_message output (Number error) = output error
stream_message output (NoRoom at) =
    Some (codes "the buffer has no room for the number at " ++ decimal at)
stream_message output (Read kind) = None
stream_message output TooLong =
    Some (codes "a position is above " ++ decimal 18446744073709551615)
stream_message output (Trailing at None) =
    Some (codes "the byte at " ++ decimal at ++ codes " follows the numbers")
stream_message output (Trailing at (Some error)) =
    Some (codes "the byte at " ++ decimal at ++ codes " follows the numbers: ") ++? output error

abbrev pub fold_message : {E : Type 0} → (E → Option (List ℕ)) → FoldError E → Option (List ℕ)
fold_message output (folds.Stopped at) =
    Some (codes "the numbers before " ++ decimal at ++ codes " have no value")
fold_message output (folds.Stream error) = stream_message output error

abbrev pub enclosed_fold_message : {E : Type 0} → (E → Option (List ℕ)) → EnclosedFoldError E
    → Option (List ℕ)
enclosed_fold_message output (enclosed.NoOpening at) =
    Some (codes "no list begins at " ++ decimal at)
enclosed_fold_message output (enclosed.NoClosing at) =
    Some (codes "the list isn't closed at " ++ decimal at)
enclosed_fold_message output (enclosed.Fold error) = fold_message output error
