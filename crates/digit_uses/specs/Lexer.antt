-- The tokens of an expression: numbers of Rust, names, and signs of one byte.
use Rattle.std.specs.Prelude.{◌≡◌, ℕ, ◌+◌, ◌<◌, List, slice_get, Some, Ok}
use Rattle.digits.specs.Forms.{RUST}
use Rattle.digits.specs.Words.{binary64, name_end, number_of_at, with_value}
use Rattle.digit_uses.specs.declared.lexer.Token.{Token}
use Rattle.digit_uses.specs.declared.lexer.Token.TheVariants as tokens

-- what is read at a position, up to an end
abbrev pub IsToken : List ℕ → ℕ → Token → ℕ → Type 0
IsToken text start (tokens.Number n) end =
    number_of_at RUST text start binary64 ≡ Ok (with_value (λ x. x) n, end)
IsToken text start tokens.Name end = (start < end) × (end ≡ name_end text start)
IsToken text start (tokens.Sign byte) end =
    (slice_get text start ≡ Some byte) × (name_end text start ≡ start) × (end ≡ start + 1)
