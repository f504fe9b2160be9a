-- Lists of numbers, as C has them.
use Rattle.std.specs.Prelude.{◌≡◌, ℕ, ℤ, ◌==◌, ◌&&◌, ◌-◌, ◌^◌, Bool, nat_lt, if◌then◌else◌, false, List, [], length, map, take, drop, Option, None, Some, Result}
use Rattle.std.specs.Float.{Float, Format}
use Rattle.lexical_digits.specs.declared.ops.ByteSet.{ByteSet}
use Rattle.digits.specs.Bytes.{BLANKS}
use Rattle.digits.specs.Gaps.{LINES, WHITESPACE}
use Rattle.digits.specs.ListEnds.{Full, Over, Fault}
use Rattle.digits.specs.Words.{Gap, ListEnd, full_list, list_at}
use Rattle.digits.specs.Words.{literal_none_at, float_none_at, number_none_at}
use Rattle.digits.specs.Words.{Integer, STANDARD, number_at, plain_marks, read_at, rule_of}
use Rattle.digits.specs.Words.{Form}
use Rattle.digits_c.specs.declared.numbers.NumberParts.{NumberParts}
use Rattle.digits_c.specs.declared.outcome.Outcome.{Outcome}
use Rattle.digits_c.specs.declared.outcome.TheConstants.{BAD_FORM, BAD_START, FULL, INVALID, OK}
use Rattle.digits_c.specs.Numbers.{parts_at}
use Rattle.digits_c.specs.Outcomes.{done, fault, literal_fault, float_fault, number_fault}

-- the set of one byte
abbrev pub only : ℕ → ByteSet
only byte = record {
  low = if nat_lt byte 128 then 2 ^ byte else 0;
  high = if nat_lt byte 128 then 0 else 2 ^ (byte - 128);
}

-- what is between two numbers, by a byte: blanks, the end of a line, or that byte
abbrev pub gap_of : ℕ → Gap
gap_of byte =
    if byte == 32 then WHITESPACE
    else if byte == 10 then LINES
    else record {
      separators = only byte;
      blanks = BLANKS;
      blanks_separate = false;
      may_trail = false;
    }

-- why a list was read no further
abbrev pub end_of : {E : Type 0} → (E → Outcome) → ListEnd E → Outcome
end_of fault_of (Full at) = fault FULL at
end_of fault_of (Over at) = done at
end_of fault_of (Fault error) = fault_of error

abbrev pub with_outcome : {A E : Type 0} → (E → Outcome) → List A × ListEnd E → List A × Outcome
with_outcome fault_of (numbers, end) = (numbers, end_of fault_of end)

-- the numbers of a list at a start, as many as there is room for, and why there are no more
module _ (text : List ℕ) (start between room : ℕ) where
  abbrev pub list_by : {A E : Type 0} → (E → Outcome) → (ℕ → E → Bool) → (ℕ → Result (A × ℕ) E) →
      List A × Outcome
  list_by fault_of none_at one =
      if nat_lt (length text) start then ([], fault BAD_START start)
      else with_outcome fault_of (list_at one none_at (gap_of between) text room start)

  abbrev pub integers_from : ℕ → ℕ → List ℤ × Outcome
  integers_from least most =
      list_by literal_fault literal_none_at
      (number_at least most (rule_of STANDARD Integer) text)

  abbrev pub floats_from : Format → List Float × Outcome
  floats_from f = list_by float_fault float_none_at (read_at STANDARD text plain_marks f)

  abbrev pub numbers_from : Form → List NumberParts × Outcome
  numbers_from form = list_by number_fault number_none_at (parts_at form text)

  -- the same by a form that has a number, or has none
  abbrev pub numbers_by : Option Form → List NumberParts × Outcome
  numbers_by None = ([], fault BAD_FORM start)
  numbers_by (Some form) = numbers_from form

-- a list that is over before its text, of a length: the byte there is no part of it
abbrev pub to_end : ℕ → Outcome → Outcome
to_end length outcome =
    if (outcome.status == OK) && nat_lt outcome.at length then fault INVALID outcome.at
    else outcome

-- The numbers of a list that is to be the whole text, as many as there is room for, and whether it
-- is: it ends with the text. `FULL` is at one number more.
module _ (text : List ℕ) (between room : ℕ) where
  abbrev pub whole_by : {A E : Type 0} → (E → Outcome) → (ℕ → E → Bool) → (ℕ → Result (A × ℕ) E) →
      List A × Outcome
  whole_by fault_of none_at one =
      let list = full_list one none_at (gap_of between) text room 0 in
      (list.0, to_end (length text) (end_of fault_of list.1))

  abbrev pub whole_integers : ℕ → ℕ → List ℤ × Outcome
  whole_integers least most =
      whole_by literal_fault literal_none_at (number_at least most (rule_of STANDARD Integer) text)

  abbrev pub whole_floats : Format → List Float × Outcome
  whole_floats f = whole_by float_fault float_none_at (read_at STANDARD text plain_marks f)

  abbrev pub whole_numbers : Form → List NumberParts × Outcome
  whole_numbers form = whole_by number_fault number_none_at (parts_at form text)

  -- the same by a form that has a number, or has none
  abbrev pub whole_numbers_by : Option Form → List NumberParts × Outcome
  whole_numbers_by None = ([], fault BAD_FORM 0)
  whole_numbers_by (Some form) = whole_numbers form

-- these numbers are the front of the places, as many as `count`, and the rest is what it was
pub record Fills {V A : Type 0} (value : V → A) (list : List A × Outcome) (count : ℕ)
    (old new : List V) (outcome : Outcome) : Type 0 where
  pub numbers : map value (take count new) ≡ list.0
  pub all : count ≡ length list.0
  pub rest : drop count new ≡ drop count old
  pub ends : outcome ≡ list.1
