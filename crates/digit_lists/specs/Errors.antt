-- The positions that errors hold, and what is printed of them.
use Rattle.std.specs.Prelude.{ℕ, List, ◌++◌, codes, decimal, Option, Some}
use Rattle.digit_lists.specs.declared.list.ListError.{ListError}
use Rattle.digit_lists.specs.declared.list.ListError.TheVariants as lists
use Rattle.digit_lists.specs.declared.enclosed.EnclosedError.{EnclosedError}
use Rattle.digit_lists.specs.declared.enclosed.EnclosedError.TheVariants as enclosing

module _ {E : Type 0} where
  -- ---- of a list; `position` and `output` say it of a number's error

  abbrev pub list_position : (E → ℕ) → ListError E → ℕ
  list_position position (lists.Number error) = position error
  list_position position (lists.Invalid at) = at
  list_position position (lists.NoRoom at) = at

  abbrev pub list_message : (E → Option (List ℕ)) → ListError E → Option (List ℕ)
  list_message output (lists.Number error) = output error
  list_message output (lists.Invalid at) =
      Some (codes "the byte at " ++ decimal at ++ codes " is no part of the list")
  list_message output (lists.NoRoom at) =
      Some (codes "there is no room for the number at " ++ decimal at)

  -- ---- of an enclosed list

  abbrev pub enclosed_position : (E → ℕ) → EnclosedError E → ℕ
  enclosed_position position (enclosing.NoOpening at) = at
  enclosed_position position (enclosing.Number error) = position error
  enclosed_position position (enclosing.NoClosing at) = at
  enclosed_position position (enclosing.NoRoom at) = at

  abbrev pub enclosed_message : (E → Option (List ℕ)) → EnclosedError E → Option (List ℕ)
  enclosed_message output (enclosing.NoOpening at) =
      Some (codes "no list begins at " ++ decimal at)
  enclosed_message output (enclosing.Number error) = output error
  enclosed_message output (enclosing.NoClosing at) =
      Some (codes "the list isn't closed at " ++ decimal at)
  enclosed_message output (enclosing.NoRoom at) =
      Some (codes "there is no room for the number at " ++ decimal at)
