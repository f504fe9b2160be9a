-- A text that comes in pieces, for numbers of a kind.
use Rattle.std.specs.Prelude.{◌≡◌, ℕ, Bool, true, false, ◌||◌, List, [], ◌∷◌, ◌++◌, drop, Result}
use Rattle.lexical_digits.specs.ByteSet.{accepts}
use Rattle.digit_literals.specs.declared.list.Gap.{Gap}
use Rattle.digit_literals.specs.Lists.{Numbers}
use Rattle.digit_pieces.specs.Cuts.{sure_end}
use Rattle.digit_pieces.specs.Pieces.{PieceNumbers, piece_at, whole_at, and_more, list_later}

-- no byte that may be between two numbers may be in one
abbrev pub IsApart : (ℕ → Bool) → Gap → Type 0
IsApart has gap = (byte : ℕ) → has byte ≡ true
    → accepts gap.separators byte || accepts gap.blanks byte ≡ false

module _ {A E : Type 0} (one : List ℕ → ℕ → Result (A × ℕ) E) (none_at : ℕ → E → Bool)
    (later : ℕ → E → E) (has : ℕ → Bool) (gap : Gap) where
  -- the numbers of a whole text, from a position on
  abbrev pub list_of : List ℕ → ℕ → ℕ → Numbers A E
  list_of text room start = whole_at (one text) none_at gap text room start

  -- what is read of a piece that isn't the last
  abbrev pub piece_of : List ℕ → ℕ → ℕ → PieceNumbers A E
  piece_of text room start =
      piece_at (one text) none_at gap text (sure_end has text) false room start

  -- What is read of pieces, each after what was left of those before it: `rest`. Positions count
  -- from where that begins.
  unfoldable pub read_pieces : ℕ → List ℕ → List (List ℕ) → List ℕ → Numbers A E
  read_pieces room rest [] last = list_of (rest ++ last) room 0
  read_pieces room rest (piece ∷ pieces) last =
      let text = rest ++ piece in
      and_more room (piece_of text room 0)
      (λ left at. list_later later at (read_pieces left (drop at text) pieces last))
