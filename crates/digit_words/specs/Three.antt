-- Three decimal digits that are read as one word.
use Rattle.std.specs.Prelude.{◌≡◌, ℕ, ◌/◌, ◌%◌}
use Rattle.digit_words.specs.Eight.{AreBelow}

-- the lowest byte of a word is 0, and the three others are digits
abbrev pub AreThree : ℕ → Type 0
AreThree word = (word % 256 ≡ 0) × AreBelow 10 3 (word / 256)
