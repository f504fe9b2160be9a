-- The lines of a text.
use Rattle.std.specs.Prelude.{◌≡◌, ℕ, ◌==◌, if◌then◌else◌, List, [], ◌∷◌, ◌++◌}
use Rattle.std.specs.List.{onto_first}

-- a line ends before a line feed or at the end of the text; no line begins after a line feed that
-- ends the text
abbrev pub lines_of : List ℕ → List (List ℕ)
lines_of [] = []
lines_of (byte ∷ bytes) =
    if byte == 10 then [] ∷ lines_of bytes else onto_first byte (lines_of bytes)

-- what is after the first line of a text and its line feed
abbrev pub after_line : List ℕ → List ℕ
after_line [] = []
after_line (byte ∷ bytes) = if byte == 10 then bytes else after_line bytes

-- Whatever follows a text, this is its first line, and the other lines are those of the rest.
abbrev pub IsFirstLine : List ℕ → List ℕ → List ℕ → Type 0
IsFirstLine text line rest =
    (more : List ℕ) → lines_of (text ++ more) ≡ line ∷ lines_of (rest ++ more)

-- a text ends with this
abbrev pub EndsWith : List ℕ → List ℕ → Type 0
EndsWith text rest = (front : List ℕ) × (text ≡ front ++ rest)
