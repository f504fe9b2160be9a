-- Lists of numbers: what is between two of them, and what is read into a slice.
use Rattle.std.specs.Prelude.{◌≡◌, ⊤, ℕ, zero, suc, ◌+◌, ◌-◌, Bool, not, ◌&&◌, nat_lt, if◌then◌else◌, List, [], ◌∷◌, ◌++◌, length, map, take, drop, take_while, slice_get, Result, Ok, Err}
use Rattle.lexical_digits.specs.ByteSet.{accepts}
use Rattle.lexical_digits.specs.Cursor.{holds_of}
use Rattle.digit_literals.specs.declared.list.Gap.{Gap}
use Rattle.digit_literals.specs.declared.list.ListEnd.{ListEnd}
use Rattle.digit_literals.specs.declared.list.ListEnd.TheVariants.{Full, Over, Fault}
use Rattle.digit_literals.specs.declared.list.ListRead.{ListRead}

-- whether a byte may be around a separator
abbrev pub is_blank : Gap → ℕ → Bool
is_blank gap byte = accepts gap.blanks byte && not (accepts gap.separators byte)

module _ (gap : Gap) (text : List ℕ) where
  -- the first position from here on without a blank
  unfoldable pub past_blanks : ℕ → ℕ
  past_blanks at = at + length (take_while (is_blank gap) (drop at text))

  -- whether a blank is at a position, or a separator
  abbrev pub has_blank : ℕ → Bool
  has_blank at = holds_of (is_blank gap) (slice_get text at)

  abbrev pub has_separator : ℕ → Bool
  has_separator at = holds_of (accepts gap.separators) (slice_get text at)

  -- where the next number may be, if a separator follows the number that ends here; otherwise the
  -- first position after it without a blank
  abbrev pub next_after : ℕ → Result ℕ ℕ
  next_after end =
      if has_separator (past_blanks end) then Ok (past_blanks end + 1)
      else if gap.blanks_separate && nat_lt end (past_blanks end) then Ok (past_blanks end)
      else Err (past_blanks end)

-- why the list ends where a number may be, if there is none but an error, which says whether a
-- number begins there
abbrev pub no_number : {E : Type 0} → Gap → ℕ → Bool → E → ListEnd E
no_number gap place is_none error =
    if gap.may_trail && is_none then Over place else Fault error

-- numbers, and why there are no more
abbrev pub Numbers : Type 0 → Type 0 → Type 0
Numbers A E = List A × ListEnd E

module _ {A E : Type 0} where
  -- a number and others
  abbrev pub before : A → Numbers A E → Numbers A E
  before x (others, end) = (x ∷ others, end)

  -- numbers, and where the room for them was full, those that are read from there on
  abbrev pub and_then : Numbers A E → (ℕ → Numbers A E) → Numbers A E
  and_then (numbers, Full at) more = (numbers ++ (more at).0, (more at).1)
  and_then (numbers, Over at) more = (numbers, Over at)
  and_then (numbers, Fault error) more = (numbers, Fault error)

-- The numbers of a list, as many as there is room for. `one` is the number at a position, and where
-- it ends; or an error. `none_at` is whether an error says that no number begins at a position.
module _ {A E : Type 0} (one : ℕ → Result (A × ℕ) E) (none_at : ℕ → E → Bool) (gap : Gap)
    (text : List ℕ) where
  abbrev pub after_number : (ℕ → Numbers A E) → A → Result ℕ ℕ → Numbers A E
  after_number others x (Ok next) = before x (others next)
  after_number others x (Err over) = (x ∷ [], Over over)

  abbrev pub from_number : (ℕ → Numbers A E) → ℕ → Result (A × ℕ) E → Numbers A E
  from_number others place (Ok (x, end)) = after_number others x (next_after gap text end)
  from_number others place (Err error) = ([], no_number gap place (none_at place error) error)

  unfoldable pub list_at : ℕ → ℕ → Numbers A E
  list_at zero start = ([], Full start)
  list_at (suc room) start =
      from_number (list_at room) (past_blanks gap text start)
      (one (past_blanks gap text start))

-- Of a loop that no caller sees: before the turn with this index, which begins here, the slice has
-- the first numbers, and the text from here on the others. No public clause uses this word.
module _ {V A E : Type 0} (value : V → A) (one : ℕ → Result (A × ℕ) E) (none_at : ℕ → E → Bool)
    (gap : Gap) (text : List ℕ) where
  pub record SoFar (start i at : ℕ) (old new : List V) : Type 0 where
    pub numbers : map value (take i new) ++ (list_at one none_at gap text (length old - i) at).0
        ≡ (list_at one none_at gap text (length old) start).0
    pub end : (list_at one none_at gap text (length old - i) at).1
        ≡ (list_at one none_at gap text (length old) start).1
    pub rest : drop i new ≡ drop i old
    pub same_length : length new ≡ length old

-- the front of a slice has these numbers, and its rest is what it was
pub record Fills {V A E : Type 0} (value : V → A) (list : Numbers A E) (read : ListRead E)
    (old new : List V) : Type 0 where
  pub numbers : map value (take read.count new) ≡ list.0
  pub count : read.count ≡ length list.0
  pub end : read.end ≡ list.1
  pub rest : drop read.count new ≡ drop read.count old
  pub same_length : length new ≡ length old

-- a fact for one end, with its position
abbrev pub IfFull : {E : Type 0} → ListEnd E → (ℕ → Type 0) → Type 0
IfFull (Full at) P = P at
IfFull (Over at) P = ⊤
IfFull (Fault error) P = ⊤

abbrev pub IfOver : {E : Type 0} → ListEnd E → (ℕ → Type 0) → Type 0
IfOver (Full at) P = ⊤
IfOver (Over at) P = P at
IfOver (Fault error) P = ⊤
