-- What stands behind the end of a scaled number makes no difference to it.
use Rattle.std.proofs.Common.{◌≡◌, ℕ, ◌≤◌, List, refl, ◌∙◌}
use Rattle.std.specs.Prelude.{Result, Ok, Err}
use Rattle.lexical_digits.specs.Moves.{outcome_later}
use Rattle.lexical_digits.proofs.Calls.BothSides.{AreSameFrom, zero_later}
use Rattle.digit_amounts.specs.declared.scaled.ScaledError.{ScaledError}
use Rattle.digit_amounts.specs.declared.scaled.ScaledError.TheVariants as scaled
use Rattle.digit_amounts.specs.Moves.{scaled_later}
use Rattle.digit_amounts.specs.Scaled.{read_scaled_at}
use Rattle.digit_floats.proofs.BothSides.{NoScaled}
use Rattle.digit_amounts.proofs.BothSides.{cut_scaled}

pub error_here : (e : ScaledError) → scaled_later 0 e ≡ e
error_here (scaled.Empty at) = rw (← zero_later at) refl
error_here (scaled.TooLarge at) = rw (← zero_later at) refl
error_here (scaled.TooFine at) = rw (← zero_later at) refl
error_here (scaled.Invalid at) = rw (← zero_later at) refl

scaled_here : {A : Type 0} (read : Result (A × ℕ) ScaledError)
    → outcome_later scaled_later 0 read ≡ read
scaled_here (Ok (x, end)) = rw (← zero_later end) refl
scaled_here (Err error) = rw (error_here error) refl

pub same_scaled : (word point : ℕ) (one other : List ℕ) (at : ℕ)
    → AreSameFrom (NoScaled word point) one 0 other at → (places least most i : ℕ) → i ≤ at
    → read_scaled_at word one point places least most i
    ≡ read_scaled_at word other point places least most i
same_scaled word point one other at both places least most i l =
    cut_scaled word point one 0 other at both places least most i i (zero_later i) l
    ∙ scaled_here (read_scaled_at word other point places least most i)
