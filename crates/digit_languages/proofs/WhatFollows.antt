-- What stands behind the end of a literal makes no difference to the literal.
use Rattle.std.proofs.Common.{◌≡◌, ℕ, ◌≤◌, List, refl, ◌∙◌}
use Rattle.std.specs.Prelude.{Result, Ok, Err}
use Rattle.lexical_digits.proofs.Calls.BothSides.{zero_later}
use Rattle.digit_languages.specs.declared.language.Language.{Language}
use Rattle.digit_languages.specs.declared.literal.Literal.{Literal}
use Rattle.digit_languages.specs.declared.literal.LanguageError.{LanguageError}
use Rattle.digit_languages.specs.declared.literal.LanguageError.TheVariants.{Empty, Overflow, Zero}
use Rattle.digit_languages.specs.Follows.{AreSameBefore, is_literal_byte}
use Rattle.digit_languages.specs.Literals.{literal_at}
use Rattle.digit_languages.specs.Moves.{read_later}
use Rattle.digit_languages.proofs.Before.{from_before}
use Rattle.digit_languages.proofs.BothSides.{no_alphanumeric, cut_literal}

-- a literal with positions later by 0
pub literal_here : (read : Result Literal LanguageError) → read_later 0 read ≡ read
literal_here (Ok read) = rw (← zero_later read.digits, ← zero_later read.end) refl
literal_here (Err (Empty at)) = rw (← zero_later at) refl
literal_here (Err (Overflow at)) = rw (← zero_later at) refl
literal_here (Err (Zero at)) = rw (← zero_later at) refl

pub same_literal : (l : Language) (one other : List ℕ) (at : ℕ)
    → AreSameBefore (is_literal_byte l) one other at → (start : ℕ) → start ≤ at → (most : ℕ)
    → literal_at l one start most ≡ literal_at l other start most
same_literal l one other at upto start low most =
    let p = is_literal_byte l in
    cut_literal p one 0 other at (from_before p one other at upto) (no_alphanumeric l) l start start
    (zero_later start) low (λ b h. h) most
    ∙ literal_here (literal_at l other start most)
