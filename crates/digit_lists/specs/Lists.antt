-- A whole text that is a list, and a list between an opening and a closing byte.
use Rattle.std.specs.Prelude.{◌≡◌, ℕ, ◌+◌, ◌==◌, Bool, if◌then◌else◌, List, [], length, map, take, drop, Result, Ok, Err}
use Rattle.digit_literals.specs.declared.list.Gap.{Gap}
use Rattle.digit_literals.specs.declared.list.ListEnd.{ListEnd}
use Rattle.digit_literals.specs.declared.list.ListEnd.TheVariants.{Full, Over, Fault}
use Rattle.digit_literals.specs.Lists.{Numbers, past_blanks, no_number, list_at}
use Rattle.digit_values.specs.Bytes.{has_byte}
use Rattle.digit_lists.specs.declared.list.ListError.{ListError}
use Rattle.digit_lists.specs.declared.list.ListError.TheVariants as lists
use Rattle.digit_lists.specs.declared.enclosed.EnclosedError.{EnclosedError}
use Rattle.digit_lists.specs.declared.enclosed.EnclosedError.TheVariants as enclosing

-- why a list ends that has filled its room, where the next number may be: it is there, or none is
abbrev pub after_full : {A E : Type 0} → (ℕ → E → Bool) → Gap → ℕ → Result (A × ℕ) E → ListEnd E
after_full none_at gap place (Ok read) = Full place
after_full none_at gap place (Err error) = no_number gap place (none_at place error) error

-- `one` is the number at a position, and where it ends; or an error. `none_at` is whether an error
-- says that no number begins at a position.
module _ {A E : Type 0} (one : ℕ → Result (A × ℕ) E) (none_at : ℕ → E → Bool) (gap : Gap)
    (text : List ℕ) where
  -- an end where `Full` has the position of one number more
  abbrev pub full_end : ListEnd E → ListEnd E
  full_end (Full at) =
      after_full none_at gap (past_blanks gap text at) (one (past_blanks gap text at))
  full_end (Over at) = Over at
  full_end (Fault error) = Fault error

  -- the numbers from a position on, as many as there is room for, and why there are no more
  abbrev pub full_list : ℕ → ℕ → Numbers A E
  full_list room start =
      let list = list_at one none_at gap text room start in (list.0, full_end list.1)

module _ {A E : Type 0} (text : List ℕ) where
  -- how many numbers a text has that is to be a list
  abbrev pub parsed : Numbers A E → Result ℕ (ListError E)
  parsed (numbers, Full at) = Err (lists.NoRoom at)
  parsed (numbers, Fault error) = Err (lists.Number error)
  parsed (numbers, Over at) =
      if at == length text then Ok (length numbers) else Err (lists.Invalid at)

  -- how many numbers a list has that is to be closed, and the position after the closing byte
  abbrev pub closed : ℕ → Numbers A E → Result (ℕ × ℕ) (EnclosedError E)
  closed closing (numbers, Full at) = Err (enclosing.NoRoom at)
  closed closing (numbers, Fault error) = Err (enclosing.Number error)
  closed closing (numbers, Over at) =
      if has_byte text at closing then Ok (length numbers, at + 1) else Err (enclosing.NoClosing at)

module _ {A E : Type 0} (one : ℕ → Result (A × ℕ) E) (none_at : ℕ → E → Bool) (gap : Gap)
    (text : List ℕ) where
  -- the list after an opening byte: an empty one, if the closing byte is first
  abbrev pub inside : ℕ → ℕ → ℕ → Numbers A E
  inside closing room at =
      if has_byte text (past_blanks gap text at) closing then ([], Over (past_blanks gap text at))
      else full_list one none_at gap text room at

  -- the list between two bytes
  abbrev pub enclosed : ℕ → ℕ → ℕ → ℕ → Result (ℕ × ℕ) (EnclosedError E)
  enclosed opening closing room start =
      if has_byte text start opening then closed text closing (inside closing room (start + 1))
      else Err (enclosing.NoOpening start)

-- the front of a slice has these numbers, and its rest is what it was
pub record Holds {V A : Type 0} (value : V → A) (list : List A) (old new : List V) : Type 0 where
  pub numbers : map value (take (length list) new) ≡ list
  pub rest : drop (length list) new ≡ drop (length list) old
  pub same_length : length new ≡ length old
