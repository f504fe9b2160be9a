-- A number between two bytes, as `"1.50"`.
use Rattle.std.specs.Prelude.{ℕ, ◌+◌, ◌==◌, ◌||◌, Bool, true, false, List, ◌++◌, codes, decimal, Option, Some, Result, Ok, Err}
use Rattle.digit_values.specs.Bytes.{has_byte}
use Rattle.digit_pieces.specs.declared.kinds.enclosed.BracketError.{BracketError}
use Rattle.digit_pieces.specs.declared.kinds.enclosed.BracketError.TheVariants.{NoOpening, Number, NoClosing}

module _ {A E : Type 0} where
  -- a number that ends here, if the closing byte is there
  abbrev pub if_closed : Bool → A → ℕ → Result (A × ℕ) (BracketError E)
  if_closed true x end = Ok (x, end + 1)
  if_closed false x end = Err (NoClosing end)

  abbrev pub closed : List ℕ → ℕ → Result (A × ℕ) E → Result (A × ℕ) (BracketError E)
  closed text closing (Ok (x, end)) = if_closed (has_byte text end closing) x end
  closed text closing (Err error) = Err (Number error)

  -- the number after an opening byte, if that is here
  abbrev pub if_opened : Bool → ℕ → Result (A × ℕ) (BracketError E)
      → Result (A × ℕ) (BracketError E)
  if_opened true start read = read
  if_opened false start read = Err (NoOpening start)

-- the number at a position, between an opening and a closing byte, and the position after that
abbrev pub enclosed_at : {A E : Type 0} → ℕ → (List ℕ → ℕ → Result (A × ℕ) E) → ℕ → List ℕ → ℕ
    → Result (A × ℕ) (BracketError E)
enclosed_at opening one closing text start =
    if_opened (has_byte text start opening) start (closed text closing (one text (start + 1)))

-- whether a byte may be in such a number, or be one of the two
abbrev pub is_enclosed_byte : ℕ → (ℕ → Bool) → ℕ → ℕ → Bool
is_enclosed_byte opening has closing byte = has byte || byte == opening || byte == closing

module _ {E : Type 0} where
  -- the position that an error holds; `position` says it of the number's error
  abbrev pub bracket_position : (E → ℕ) → BracketError E → ℕ
  bracket_position position (NoOpening at) = at
  bracket_position position (Number error) = position error
  bracket_position position (NoClosing at) = at

  -- whether an error says that none begins at a position: the opening byte isn't there
  abbrev pub bracket_none_at : ℕ → BracketError E → Bool
  bracket_none_at place (NoOpening at) = at == place
  bracket_none_at place (Number error) = false
  bracket_none_at place (NoClosing at) = false

  -- an error with its position so much later
  abbrev pub bracket_later : (ℕ → E → E) → ℕ → BracketError E → BracketError E
  bracket_later later by (NoOpening at) = NoOpening (by + at)
  bracket_later later by (Number error) = Number (later by error)
  bracket_later later by (NoClosing at) = NoClosing (by + at)

  -- what is printed of it; `output` says it of the number's error
  abbrev pub bracket_message : (E → Option (List ℕ)) → BracketError E → Option (List ℕ)
  bracket_message output (NoOpening at) =
      Some (codes "there is no opening byte at " ++ decimal at)
  bracket_message output (Number error) = output error
  bracket_message output (NoClosing at) =
      Some (codes "there is no closing byte at " ++ decimal at)
